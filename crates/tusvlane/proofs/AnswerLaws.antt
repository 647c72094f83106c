-- The answer of the call beneath in the C structs. Assumes nothing.
use mathlib.Core.Path.{◌≡◌, ap, ap₂}
use Prim.Native.Nat.{ℕ}
use Rattle.calls.specs.declared.Refusal.{Refusal}
use Rattle.calls.specs.Refusals.{number_of}
use Rattle.calls.specs.Calls.{Said, Call, CallBy, gives, refuses_at}
use Rattle.calls.proofs.CallLaws.{call_as, call_by_as}
use Rattle.job_steps.specs.Steps.{ended}
use Rattle.job_steps.specs.Runs.{first}
use Rattle.job_steps.specs.declared.State.{State}
use Rattle.tusvlane.specs.declared.Comparison.{Comparison}
use Rattle.tusvlane.specs.declared.Placed.{Placed}
use Rattle.tusvlane.specs.Answers.{step_answer_of}

-- The call beneath answers b, which is q; a is what q says in the numbers of a
-- C struct.
module _ {A R Q B : Type 0} (reads : Said A → R) (says : B → R) (f : R → Q) where
  module _ {M : Type 0} {writes : A → M → M} {m m' : M} {b q : B} {a : Q} where
    pub as_told : {s : Said A} → Call reads writes s m (says b) m' → b ≡ q → a ≡ f (says q)
        → Call (λ (x : Said A). f (reads x)) writes s m a m'
    as_told x e = call_as f x (ap says e)

    pub by_told : {by : Said A → Type 0} → CallBy by reads writes m (says b) m' → b ≡ q
        → a ≡ f (says q)
        → CallBy by (λ (x : Said A). f (reads x)) writes m a m'
    by_told x e = call_by_as f x (ap says e)

-- A refusal of a text, with a place or without, and of a comparison.
pub placed_as : {j k p : ℕ} → j ≡ k
    → ◌≡◌ {A = Placed} (record { refusal = j; place = p }) (record { refusal = k; place = p })
placed_as {p = p} = ap (λ (i : ℕ). record { refusal = i; place = p })

pub compared_as : {j k : ℕ} → j ≡ k
    → ◌≡◌ {A = Comparison} (record { refusal = j; distance = 0; missing = 0 })
    (record { refusal = k; distance = 0; missing = 0 })
compared_as = ap (λ (i : ℕ). record { refusal = i; distance = 0; missing = 0 })

-- The answer with the first state for the next is that of the end, or of a
-- refusal.
pub ended_is : {s : State} → s ≡ first
    → record { refusal = 0; ended = 1; place = 0; wrote = 0; next = s } ≡ step_answer_of (gives ended)
ended_is z = ap (λ (x : State). record { refusal = 0; ended = 1; place = 0; wrote = 0; next = x }) z

pub stopped_is : {j : ℕ} (k : Refusal) (p : ℕ) {s : State} → j ≡ number_of k → s ≡ first
    → record { refusal = j; ended = 0; place = p; wrote = 0; next = s }
    ≡ step_answer_of (refuses_at k p)
stopped_is k p e z =
    ap₂ (λ (i : ℕ) (x : State). record { refusal = i; ended = 0; place = p; wrote = 0; next = x }) e
    z
