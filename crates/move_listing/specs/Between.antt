-- What only stands between the functions.
use Rattle.std.specs.Prelude.{ℕ, List, length, Result}
use Rattle.calls.specs.declared.Refusal.{Refusal}
use Rattle.calls.specs.Calls.{judged, Call, tells, says}
use Rattle.tree.specs.Refusals.{room_checks}
use Rattle.moves.specs.Between.{plan_moved}
use Rattle.moves.specs.declared.Plan.{Plan}
use Rattle.lines.specs.Lines.{placed}
use Rattle.move_listing.specs.Listing.{place_after}

-- The promise of these lines where only 11 is left.
abbrev pub Puts : List ℕ → ℕ → List ℕ → Result ℕ Refusal → List ℕ → Type 0
Puts ls place out r out' =
    let said = judged (room_checks (place_after place ls) (length out)) ls in
    Call (tells (place_after place)) (λ w o. placed o place w) said out (says r) out'

-- Where lines end, the rows of the plan p are rewritten.
abbrev pub rows_moved : ℕ → Plan → ℕ → List ℕ → List ℕ
rows_moved n p e t = plan_moved n t p
