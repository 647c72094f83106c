-- The steps in order write the listing of the job. Assumes nothing.
use mathlib.Core.Path.{◌≡◌, refl, sym, ap, subst, ◌∙◌}
use mathlib.Core.Logic.{◌⊎◌, inl, inr}
use mathlib.Core.Bool.{Bool, true, false}
use mathlib.Core.List.{List, [], ◌++◌, append_assoc}
use Prim.Native.Nat.{ℕ, zero, suc, ◌+◌, ◌-◌, ◌≤◌, ◌<◌}
use native.Mathlib.Omega.{arith}
use lib.Dec.{ltb}
use lib.ListN.{length}
use borrow.Author.Tests.{ltb-true, ltb-false}
use Rattle.calls.specs.declared.Refusal.{Refusal}
use Rattle.taxa.specs.Sets.{pick}
use Rattle.taxa.proofs.Bools.{either}
use Rattle.lines.specs.Lines.{end_line, refused_line}
use Rattle.job_steps.specs.Job.{Known, nothing, Outcome, next, over, field, longest}
use Rattle.job_steps.specs.Job.{lines_after}
use Rattle.job_steps.specs.Job.{listing_from, listing, listing_from_of, listing_of}
use Rattle.job_steps.specs.Steps.{Lent, known_of, lent_by, state_of}
use Rattle.job_steps.specs.Runs.{first, run, Roomy}
use Rattle.job_steps.specs.Sound.{Sound, Closes, by_end, by_refusal}
use Rattle.job_steps.proofs.StateLaws.{step_13}
use Rattle.job_steps.proofs.SoundLaws.{field_forward, sound_start, sound_next}
use Rattle.job_steps.proofs.StepIsField.{step_is_field, memory_roomy, memory_keeps}
use Rattle.calls.specs.Calls.{gives, refuses_at, lent_then, refuses}
use Rattle.calls.specs.Refusals.{number_of}

-- From what is known on, the steps write the listing.
run-from : {job : List ℕ} → length job ≤ longest → (f : ℕ) (k : Known) (m : Lent) → Sound job k
    → Roomy m → known_of (state_of k) m ≡ k
    → run f job (state_of k) m ≡ listing_from f job k
unfolding run listing_from_of lines_after
run-from short zero k m s roomy e = refl
run-from {job} short (suc f) k m s roomy e =
    ap (λ (o : Outcome). lines_after k.moves o
    (λ k'. run f job (state_of k') (lent_then lent_by o m))) (step_is_field job short s roomy e)
    ∙ go (run-from short f) (field job k) refl
  where
    go : ((k' : Known) (m' : Lent) → Sound job k' → Roomy m' → known_of (state_of k') m' ≡ k'
        → run f job (state_of k') m' ≡ listing_from f job k')
        → (o : Outcome) → field job k ≡ o
        → lines_after k.moves o (λ k'. run f job (state_of k') (lent_then lent_by o m))
        ≡ lines_after k.moves o (listing_from f job)
    go ih (gives (next k' ls)) h =
        ap (λ (l : List ℕ). ls ++ l)
        (ih k' (lent_by (next k' ls) m) (sound_next s k' ls h)
        (memory_roomy job short s roomy k' ls h) (memory_keeps job short s roomy k' ls h))
    go ih (gives over) h = refl
    go ih (refuses r) h = refl
    go ih (refuses_at r p) h = refl

-- ---- how many steps a job takes

-- Once there is a field to read at every byte, one more changes nothing.
from_more : (job : List ℕ) (f : ℕ) (k : Known) → Sound job k → length job < k.at + f
    → listing_from (suc f) job k ≡ listing_from f job k
unfolding listing_from_of lines_after
from_more job zero k s l = absurd (omega (arith, s.within))
from_more job (suc f) k s l = go (from_more job f) (field job k) refl
  where
    go : ((k' : Known) → Sound job k' → length job < k'.at + f
        → listing_from (suc f) job k' ≡ listing_from f job k')
        → (o : Outcome) → field job k ≡ o → lines_after k.moves o (listing_from (suc f) job)
        ≡ lines_after k.moves o (listing_from f job)
    go ih (gives (next k' ls)) h =
        let up = (field_forward job k k' ls h).0 in
        ap (λ (l : List ℕ). ls ++ l) (ih k' (sound_next s k' ls h) (omega (arith, up, l)))
    go ih (gives over) h = refl
    go ih (refuses r) h = refl
    go ih (refuses_at r p) h = refl

-- Nor do any number more.
steps_enough : (job : List ℕ) (extra : ℕ) → listing_from (suc (length job) + extra) job nothing
    ≡ listing_from (suc (length job)) job nothing
steps_enough job zero = ap (λ (f : ℕ). listing_from f job nothing) (omega arith)
steps_enough job (suc e) =
    ap (λ (f : ℕ). listing_from f job nothing) (omega arith)
    ∙ from_more job (suc (length job) + e) nothing (sound_start job) (omega arith)
    ∙ steps_enough job e

-- The listing of a job that is too long is its refusal.
listing-long : (job : List ℕ) → ltb longest (length job) ≡ true
    → listing job ≡ refused_line (number_of Refusal.Long) 0
unfolding listing_of
listing-long job w = ap (λ (b : Bool). pick b (refused_line (number_of Refusal.Long) 0)
    (listing_from (suc (length job)) job nothing)) w

-- The listing of any other job is read from the start.
listing_short : (job : List ℕ) → ltb longest (length job) ≡ false
    → listing job ≡ listing_from (suc (length job)) job nothing
unfolding listing_of
listing_short job w = ap (λ (b : Bool). pick b (refused_line (number_of Refusal.Long) 0)
    (listing_from (suc (length job)) job nothing)) w

-- The first step refuses a job that is too long.
run_long : (f : ℕ) (job : List ℕ) (m : Lent) → ltb longest (length job) ≡ true
    → run (suc f) job first m ≡ refused_line (number_of Refusal.Long) 0
unfolding run lines_after
run_long f job m w =
    ap (λ (o : Outcome). lines_after 0 o (λ k. run f job (state_of k) (lent_then lent_by o m)))
    (step_13 job first m (ltb-true longest (length job) w))

-- The steps of the program, from the first state on and with room for any job,
-- write the listing of the job, however many more steps than bytes there may
-- be.
pub run-is-listing : (job : List ℕ) (m : Lent) (f : ℕ) → Roomy m → length job < f
    → run f job first m ≡ listing job
run-is-listing job m f roomy l =
    ap (λ (g : ℕ). run g job first m) is ∙ go (either (ltb longest (length job)))
  where
    extra : ℕ
    extra = f - suc (length job)

    is : f ≡ suc (length job + extra)
    is = omega arith

    go : (ltb longest (length job) ≡ true) ⊎ (ltb longest (length job) ≡ false)
        → run (suc (length job + extra)) job first m ≡ listing job
    go (inl w) = run_long (length job + extra) job m w ∙ sym (listing-long job w)
    go (inr w) =
        run-from (ltb-false longest (length job) w) (suc (length job + extra)) nothing m
        (sound_start job) roomy refl
        ∙ ap (λ (g : ℕ). listing_from g job nothing) (omega arith)
        ∙ steps_enough job extra
        ∙ sym (listing_short job w)

-- ---- the closing line

-- From what is known on, with a field to read at every byte, the lines end
-- with a closing line.
closes-from : (job : List ℕ) (f : ℕ) (k : Known) → Sound job k → length job < k.at + f
    → Closes (listing_from f job k)
unfolding listing_from_of lines_after
closes-from job zero k s l = absurd (omega (arith, s.within))
closes-from job (suc f) k s l = go (closes-from job f) (field job k) refl
  where
    behind : (ls l : List ℕ) → Closes l → Closes (ls ++ l)
    behind ls l (by_end ms m e) =
        by_end (ls ++ ms) m (ap (λ (z : List ℕ). ls ++ z) e ∙ sym (append_assoc ls ms (end_line m)))
    behind ls l (by_refusal ms r p e) =
        by_refusal (ls ++ ms) r p (ap (λ (z : List ℕ). ls ++ z) e
        ∙ sym (append_assoc ls ms (refused_line r p)))

    go : ((k' : Known) → Sound job k' → length job < k'.at + f → Closes (listing_from f job k'))
        → (o : Outcome) → field job k ≡ o → Closes (lines_after k.moves o (listing_from f job))
    go ih (gives (next k' ls)) h =
        let up = (field_forward job k k' ls h).0 in
        behind ls (listing_from f job k') (ih k' (sound_next s k' ls h) (omega (arith, up, l)))
    go ih (gives over) h = by_end [] k.moves refl
    go ih (refuses r) h = by_refusal [] (number_of r) 0 refl
    go ih (refuses_at r p) h = by_refusal [] (number_of r) p refl

-- Every listing ends with a closing line.
pub listing-closes : (job : List ℕ) → Closes (listing job)
listing-closes job = go (either (ltb longest (length job)))
  where
    go : (ltb longest (length job) ≡ true) ⊎ (ltb longest (length job) ≡ false)
        → Closes (listing job)
    go (inl w) = by_refusal [] (number_of Refusal.Long) 0 (listing-long job w)
    go (inr w) = subst Closes (sym (listing_short job w))
        (closes-from job (suc (length job)) nothing (sound_start job) (omega arith))
