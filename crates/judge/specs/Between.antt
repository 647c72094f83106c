-- What only stands between the functions.
use Rattle.std.specs.Prelude.{ℕ, ◌^◌, ◌≤◌, ◌≡◌, true, List, ltb, length, Result}
use Rattle.calls.specs.declared.Refusal.{Refusal}
use Rattle.calls.specs.Calls.{says, judged, Call, tells, at_start}
use Rattle.tree.specs.Splits.{distances}
use Rattle.tree.specs.Refusals.{each, room_checks}
use Rattle.moves.specs.Between.{plan_moved}
use Rattle.moves.specs.declared.Plan.{Plan}
use Rattle.group_rule.specs.Zeros.{zeros}

-- The promise of a list's judgement where only 11 is left, the move having the
-- plan p.
abbrev pub JudgesPlan : ℕ → List ℕ → List ℕ → Plan → List ℕ → Result ℕ Refusal → List ℕ
    → Type 0
JudgesPlan n t ys p out r out' =
    let ds = distances n t (plan_moved n t p) ys in
    Call (tells zeros) at_start (judged (room_checks (length ys) (length out)) ds) out (says r) out'

-- Each partition is one of the n taxa, and there is room for their distances.
pub record Judgeable (n : ℕ) (ys out : List ℕ) : Type 0 where
  pub within : each (λ y. ltb y (2 ^ n)) ys ≡ true
  pub room : length ys ≤ length out
