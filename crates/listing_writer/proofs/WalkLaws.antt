-- A walk over the steps of a job gives its listing. Assumes nothing.
use Rattle.std.proofs.Common.{ℕ, suc, ◌+◌, ◌<◌, ◌≡◌, List, [], ◌∷◌, ◌++◌, Ok, Err, Result, Option, arith, length, take, refl, sym, ap, ◌∙◌, append_assoc, append-nil}
use Rattle.std.proofs.Math.Seq.{take-append_seam}
use Rattle.std.proofs.lemmas.Fn.{FoldsTo-push}
use Rattle.std.proofs.lemmas.List.{length_push}
use Rattle.std.proofs.lemmas.List.Folds.{concat-append}
use Rattle.std.specs.Borrow.{Bor}
use Rattle.std.specs.Fn.{Mut, CalledAt}
use Rattle.std.specs.List.{FoldsTo, concat}
use Rattle.calls.specs.declared.Refusal.{Refusal}
use Rattle.calls.specs.declared.RefusedAt.{RefusedAt}
use Rattle.calls.specs.Calls.{gives, refuses, refuses_at, lent_then, tells}
use Rattle.job_steps.specs.Job.{Outcome, next, over, listing, lines_after}
use Rattle.job_steps.specs.Steps.{Lent, Steps, told, ended, told_of, stepped, stepped_says, lent_by, state_of}
use Rattle.job_steps.specs.Runs.{first, run, Roomy}
use Rattle.job_steps.specs.declared.State.{State}
use Rattle.job_steps.specs.declared.Next.{Next}
use Rattle.job_steps.proofs.RunLaws.{run-is-listing}
use Rattle.listing_writer.specs.Walk.{GivesListing, closing}

-- ---- what the steps write from one on

module _ (job : List ℕ) (s : State) (m : Lent) (f : ℕ) where
  -- by the outcome of that one
  abbrev from : Outcome → List ℕ
  from o = lines_after s.moves o (λ k. run f job (state_of k) (lent_then lent_by o m))

  -- a step past a field: its lines, and what those after it write
  from_turn : (o : Outcome) {t : State} {w : ℕ} {m' : Lent} → gives (told t w) ≡ tells told_of o
      → m' ≡ lent_then lent_by o m
      → from o ≡ take w m'.out ++ run f job t m'
  unfolding lines_after
  from_turn (gives (next k ls)) {t} {w} {m'} says lent =
      let t_is : t ≡ state_of k = cc in
      let w_is : w ≡ length ls = cc in
      let lines : take (length ls) (lent_by (next k ls) m).out ≡ ls = take-append_seam ls _ in
      cc
  from_turn (gives over) says lent = cc
  from_turn (refuses k) says lent = cc
  from_turn (refuses_at k p) says lent = cc

  -- the end
  from-over : (o : Outcome) → gives ended ≡ tells told_of o → from o ≡ closing (Ok s.moves)
  unfolding lines_after
  from-over (gives (next k ls)) says = cc
  from-over (gives over) says = refl
  from-over (refuses k) says = cc
  from-over (refuses_at k p) says = cc

  -- a refusal
  from-refused : (o : Outcome) {why : Refusal} {place : ℕ} → refuses_at why place ≡ tells told_of o
      → from o ≡ closing (Err (record { why = why; place = place }))
  unfolding lines_after
  from-refused (gives (next k ls)) says = cc
  from-refused (gives over) says = cc
  from-refused (refuses k) says = cc
  from-refused (refuses_at k p) says = cc

-- ---- the walk

module _ {F E : Type 0} (g : Mut F (Bor (List ℕ) × Unit {0}) (Result (Unit {0}) E)) (give : F)
    (job : List ℕ) where
  -- What was called took the lines so far; with what the steps from here on
  -- write they are the listing.
  pub record Walked (now : F) (s : State) (m : Lent) : Type 0 where
    pub given : List (List ℕ)
    pub taken : FoldsTo (λ p lines q. CalledAt g p lines (Ok tt) q) give given now
    pub whole : (f : ℕ) → length job < f + length given
        → concat given ++ run f job s m ≡ listing job

  pub walked_first : (s : State) (m : Lent) → s ≡ first → Roomy m → Walked give s m
  walked_first s m s_is roomy =
      record {
        given = [];
        taken = refl;
        whole = λ f l.
            ap (λ (x : State). run f job x m) s_is
            ∙ run-is-listing job m f roomy (omega (arith, l));
      }

  pub walked_next : {now now' : F} {s t : State} {m m' : Lent} (r : Result (Option Next) RefusedAt) {w : ℕ}
      → Walked now s m → Steps job s m r m' → stepped_says r ≡ gives (told t w)
      → CalledAt g now (take w m'.out) (Ok tt) now' → Walked now' t m'
  unfolding run
  walked_next {s = s} {t} {m} {m'} r {w} W step says call =
      let lines = take w m'.out in
      let before = concat W.given in
      let more : concat (W.given ++ lines ∷ []) ≡ before ++ lines =
      concat-append W.given (lines ∷ []) ∙ ap (λ l. before ++ l) (append-nil lines) in
      record {
        given = W.given ++ lines ∷ [];
        taken = FoldsTo-push _ _ _ _ _ _ W.taken call;
        whole = λ f l.
            let after = run f job t m' in
            let turn : run (suc f) job s m ≡ lines ++ after =
            from_turn job s m f (stepped job s m) (sym says ∙ step.says) step.memory in
            ap (λ l. l ++ after) more
            ∙ append_assoc before lines after
            ∙ ap (λ l. before ++ l) (sym turn)
            ∙ W.whole (suc f) (omega (arith, l, length_push W.given lines));
      }

  -- the same with a closing line, where it is what the last step writes
  closes : {now : F} {s : State} {m : Lent} {ending : Result ℕ RefusedAt} → Walked now s m
      → from job s m (length job) (stepped job s m) ≡ closing ending
      → GivesListing g give job ending
  unfolding run
  closes {now} W last =
      record {
        given = W.given;
        last = now;
        taken = W.taken;
        whole =
            ap (λ l. concat W.given ++ l) (sym last)
            ∙ W.whole (suc (length job)) (omega arith);
      }

  pub walked-over : {now : F} {s : State} {m m' : Lent} (r : Result (Option Next) RefusedAt) → Walked now s m
      → Steps job s m r m' → stepped_says r ≡ gives ended → GivesListing g give job (Ok s.moves)
  walked-over {s = s} {m} r W step says =
      closes W (from-over job s m (length job) (stepped job s m) (sym says ∙ step.says))

  pub walked-refused : {now : F} {s : State} {m m' : Lent} (r : Result (Option Next) RefusedAt) {why : Refusal} {place : ℕ}
      → Walked now s m → Steps job s m r m' → stepped_says r ≡ refuses_at why place
      → GivesListing g give job (Err (record { why = why; place = place }))
  walked-refused {s = s} {m} r W step says =
      closes W (from-refused job s m (length job) (stepped job s m) (sym says ∙ step.says))
