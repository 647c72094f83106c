-- The steps of a program that has room for any job. Assumes nothing.
use mathlib.Core.Path.{◌≡◌, refl, sym, ap, ap₂, subst, ◌∙◌}
use mathlib.Core.Logic.{◌⊎◌, inl, inr}
use mathlib.Core.Bool.{Bool, true, false}
use mathlib.Core.List.{List}
use Prim.Native.Nat.{ℕ}
use native.Mathlib.Omega.{arith}
use lib.Dec.{ltb}
use lib.ListN.{length}
use borrow.Author.Tests.{ltb-true, ltb-false, lt-ltb, le-ltb}
use Rattle.std.specs.Prelude.{Option, Some, Result, Ok}
use Rattle.calls.specs.declared.Refusal.{Refusal}
use Rattle.calls.specs.declared.RefusedAt.{RefusedAt}
use Rattle.taxa.specs.Sets.{pick}
use Rattle.taxa.proofs.Bools.{either}
use Rattle.job_steps.specs.Job.{nothing, Outcome, next, over, field, longest}
use Rattle.job_steps.specs.Steps.{Lent, lending, known_of, stepped, told_next, ended, told_of}
use Rattle.job_steps.specs.Steps.{stepped_says, Steps, holds, lent_by, state_of}
use Rattle.job_steps.specs.Runs.{first, Roomy}
use Rattle.job_steps.specs.Sound.{Going, too_long, under_way}
use Rattle.job_steps.specs.declared.State.{State}
use Rattle.job_steps.specs.declared.Next.{Next}
use Rattle.job_steps.proofs.StateLaws.{step_13}
use Rattle.job_steps.proofs.SoundLaws.{sound_start, sound_next}
use Rattle.job_steps.proofs.StepIsField.{step_is_field, memory_roomy, memory_keeps}
use Rattle.calls.specs.Calls.{gives, refuses_at, lent_then, refuses, tells}

-- 250 bytes, 64 numbers and 8192 bytes are room for any job.
pub room-enough : (table parts out : List ℕ) → length table ≡ 250 → length parts ≡ 64
    → length out ≡ 8192
    → Roomy (lending table parts out)
room-enough table parts out a b c =
    record { for_table = omega arith; for_parts = omega arith; for_lines = omega arith }

-- Before the first step.
pub going_first : (job : List ℕ) (s : State) (m : Lent) → s ≡ first → Roomy m → Going job s m
going_first job s m s_is roomy =
    subst (λ (x : State). Going job x m) (sym s_is) (go (either (ltb longest (length job))))
  where
    go : (ltb longest (length job) ≡ true) ⊎ (ltb longest (length job) ≡ false) → Going job first m
    go (inl w) = too_long (ltb-true longest (length job) w) roomy
    go (inr w) = under_way nothing (ltb-false longest (length job) w) (sound_start job) refl refl
        roomy

-- Such a step is 13 or the field alone: no check of the state refuses it, and
-- what the field gives fits.
pub going_field : (job : List ℕ) (s : State) (m : Lent) → Going job s m
    → stepped job s m ≡ pick (ltb longest (length job)) (refuses_at Refusal.Long 0)
    (field job (known_of s m))
going_field job s m (too_long l roomy) =
    step_13 job s m l ∙ sym (ap (λ (b : Bool). pick b (refuses_at Refusal.Long 0)
    (field job (known_of s m))) (lt-ltb longest (length job) l))
going_field job s m (under_way k short sound s_is holds roomy) =
    ap (λ (x : State). stepped job x m) s_is
    ∙ step_is_field job short sound roomy (ap (λ (x : State). known_of x m) (sym s_is) ∙ holds)
    ∙ ap (field job) (sym holds)
    ∙ sym (ap (λ (b : Bool). pick b (refuses_at Refusal.Long 0) (field job (known_of s m)))
    (le-ltb longest (length job) short))

-- And after a step past a field it goes on so.
pub going_next : {job : List ℕ} {s : State} {m m' : Lent} {r : Result (Option Next) RefusedAt}
    {x : Next} → Going job s m → r ≡ Ok (Some x) → Steps job s m r m' → Going job x.state m'
going_next {job} {s} {m} {m'} {r} {x} (too_long l roomy) r-is g =
    let e : gives (told_next x) ≡ refuses_at Refusal.Long 0 =
    sym (ap stepped_says r-is) ∙ g.says ∙ ap (tells told_of) (step_13 job s m l) in
    absurd (let z : ◌≡◌ {A = ℕ} 0 1 = cc in omega arith)
going_next {job} {s} {m} {m'} {r} {x} (under_way k short sound s_is holds roomy) r-is g =
    go (field job k) refl
  where
    answer : gives (told_next x) ≡ tells told_of (stepped job s m)
    answer = sym (ap stepped_says r-is) ∙ g.says

    is : stepped job s m ≡ field job k
    is =
        ap (λ (y : State). stepped job y m) s_is
        ∙ step_is_field job short sound roomy (ap (λ (y : State). known_of y m) (sym s_is)
        ∙ holds)

    go : (o : Outcome) → field job k ≡ o → Going job x.state m'
    go (gives (next k' ls)) h =
        let says : gives (told_next x) ≡ tells told_of (gives (next k' ls)) =
        answer ∙ ap (tells told_of) (is ∙ h) in
        let t_is : x.state ≡ state_of k' = cc in
        let m_is : m' ≡ lent_by (next k' ls) m =
        g.memory ∙ ap (λ (x : Outcome). lent_then lent_by x m) (is ∙ h) in
        under_way k' short (sound_next sound k' ls h) t_is
        (ap₂ known_of t_is m_is ∙ memory_keeps job short sound roomy k' ls h)
        (subst Roomy (sym m_is) (memory_roomy job short sound roomy k' ls h))
    go (gives over) h =
        let e : gives (told_next x) ≡ gives ended = answer ∙ ap (tells told_of) (is ∙ h) in
        absurd (let z : ◌≡◌ {A = ℕ} 0 1 = cc in omega arith)
    go (refuses r) h =
        let e : gives (told_next x) ≡ refuses r = answer ∙ ap (tells told_of) (is ∙ h) in
        absurd (let z : ◌≡◌ {A = ℕ} 0 1 = cc in omega arith)
    go (refuses_at r p) h =
        let e : gives (told_next x) ≡ refuses_at r p = answer ∙ ap (tells told_of) (is ∙ h) in
        absurd (let z : ◌≡◌ {A = ℕ} 0 1 = cc in omega arith)
