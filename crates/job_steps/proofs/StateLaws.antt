-- What a state holds of which nothing is refused, and the step after its
-- tests; an answer is settled by what it says. Assumes nothing.
use mathlib.Core.Path.{◌≡◌, refl, sym, ap, ◌∙◌}
use mathlib.Core.Bool.{Bool, true, ◌||◌}
use mathlib.Core.List.{List}
use Prim.Native.Nat.{ℕ, ◌*◌, ◌≤◌, ◌<◌}
use native.Mathlib.Omega.{arith}
use lib.Dec.{eqb, leb}
use lib.ListN.{length}
use borrow.Author.Tests.{ne_eqb, lt-leb, lt-ltb, le-ltb, leb-true}
use Rattle.taxa.specs.Most.{most}
use Rattle.taxa.specs.Sets.{pick}
use Rattle.taxa.proofs.Bools.{and_left, and_right}
use Rattle.tree.specs.Tree.{rows}
use Rattle.calls.specs.Calls.{Said, gives, refuses, refuses_at}
use Rattle.calls.proofs.CheckLaws.{gives_pass}
use Rattle.std.specs.Prelude.{Option, Some, None, Result, Ok, Err}
use Rattle.calls.specs.declared.Refusal.{Refusal}
use Rattle.calls.specs.declared.RefusedAt.{RefusedAt}
use Rattle.job_steps.specs.Job.{Outcome, after, field, longest}
use Rattle.job_steps.specs.Steps.{Lent, known_of, state_checks, state_said}
use Rattle.job_steps.specs.Between.{Parted, Held}
use Rattle.job_steps.specs.Steps.{fitting, stepped, stepped_says, Told, told, ended}
use Rattle.job_steps.specs.declared.State.{State}
use Rattle.job_steps.specs.declared.Next.{Next}

-- ---- a number is n, or b is so
or_not : {x n : ℕ} (b : Bool) → (x ≡ n → ⊥) → b ≡ (eqb x n || b)
or_not {x} {n} b h = sym (ap (λ (c : Bool). c || b) (ne_eqb x n h))

four_of : (at x : ℕ) → (eqb at 0 || leb 4 x) ≡ true → (at ≡ 0 → ⊥) → 4 ≤ x
four_of at x e h = leb-true 4 x (or_not (leb 4 x) h ∙ e)

-- ---- a state of which nothing is refused
abbrev few : State → Bool
few s = eqb s.at 0 || leb 4 s.taxa

abbrev offset : State → Bool
offset s = eqb s.at 0 || leb 4 s.at

pub held_of : (s : State) (m : Lent) → state_said s m ≡ gives (tt {0}) → Held s m
held_of s m h =
    let p = gives_pass (state_checks s m) tt tt h in
    let has-table = leb s.at 4 || leb (2 * rows s.taxa) (length m.table) in
    let has_parts = leb s.parts (length m.parts) in
    record {
      taxa-big = four_of s.at s.taxa (and_left (few s) (leb s.taxa most) p.0);
      taxa-few = leb-true s.taxa most (and_right (few s) (leb s.taxa most) p.0);
      for_table = λ l. leb-true (2 * rows s.taxa) (length m.table)
          (sym (ap (λ (b : Bool). b || leb (2 * rows s.taxa) (length m.table))
          (lt-leb s.at 4 l))
          ∙ and_left has-table has_parts p.1.0);
      for_parts = leb-true s.parts (length m.parts) (and_right has-table has_parts p.1.0);
      offset = four_of s.at s.at (and_left (offset s) (leb s.moves longest) p.1.1.0);
      few-moves = leb-true s.moves longest
          (and_right (offset s) (leb s.moves longest) p.1.1.0);
    }

-- The test of 16 asks less.
pub parted_of : {s : State} {m : Lent} → Held s m → Parted s m.parts
parted_of h =
    record {
      taxa-big = λ l. h.taxa-big (λ e. omega (arith, l, e));
      taxa-few = h.taxa-few;
      for_parts = h.for_parts;
    }

-- ---- the step
module _ (job : List ℕ) (s : State) (m : Lent) where
  abbrev rest : Said (Unit {0}) → Outcome
  rest x = after s.at x (λ u. fitting s.at m (field job (known_of s m)))

  abbrev whole : Bool → Outcome
  whole b = pick b (refuses_at Refusal.Long 0) (rest (state_said s m))

  pub step_13 : longest < length job → stepped job s m ≡ refuses_at Refusal.Long 0
  step_13 h = ap whole (lt-ltb longest (length job) h)

-- The job is not too long, and x is said of the state.
pub record StateSays (job : List ℕ) (s : State) (m : Lent) (x : Said (Unit {0})) : Type 0 where
  pub short : length job ≤ longest
  pub says : state_said s m ≡ x

past_13 : {job : List ℕ} {s : State} {m : Lent} {x : Said (Unit {0})} → StateSays job s m x
    → stepped job s m ≡ rest job s m x
past_13 {job} {s} {m} S =
    ap (whole job s m) (le-ltb longest (length job) S.short) ∙ ap (rest job s m) S.says

pub step_next : {job : List ℕ} {s : State} {m : Lent} → StateSays job s m (gives (tt {0}))
    → fitting s.at m (field job (known_of s m)) ≡ stepped job s m
step_next S = sym (past_13 S)

-- ---- an answer is settled by what it says

-- The answer that says so; a refusal with no place, which is not said, is read
-- as the end.
said_by : Said Told → Result (Option Next) RefusedAt
said_by (gives (told s w)) = Ok (Some (record { state = s; wrote = w }))
said_by (gives ended) = Ok None
said_by (refuses r) = Ok None
said_by (refuses_at r p) = Err (record { why = r; place = p })

said_back : (a : Result (Option Next) RefusedAt) → said_by (stepped_says a) ≡ a
unfolding said_by
said_back (Ok (Some x)) = refl
said_back (Ok None) = refl
said_back (Err e) = refl

pub stepped_one : (a b : Result (Option Next) RefusedAt) → stepped_says a ≡ stepped_says b → a ≡ b
stepped_one a b h = sym (said_back a) ∙ ap said_by h ∙ said_back b
