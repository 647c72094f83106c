-- What only stands between the functions: what the test of a move's bytes
-- says, by the kind.
use Rattle.std.specs.Prelude.{ℕ, true, not, List, [], ◌∷◌, eqb, Result, Ok, Err}
use Rattle.calls.specs.declared.Refusal.{Refusal}
use Rattle.calls.specs.Calls.{Check, ◌else◌, Said, judged}
use Rattle.taxa.specs.Sets.{pick}
use Rattle.tree.specs.Tree.{lo, hi, touches}
use Rattle.moves.specs.Moves as moves
use Rattle.moves.specs.Moves.{nni_fits, end_with, targets, at_both, all_rows, move_checks}
use Rattle.moves.specs.Between.{nni_plan, spr_plan, tbr_plan, plan_of}
use Rattle.moves.specs.declared.Plan.{Plan}
use Rattle.move_plan.specs.declared.Kind.{Kind}

-- The kind with this number.
abbrev pub kind_of : ℕ → Result Kind Refusal
kind_of k =
    pick (eqb k 1) (Ok Kind.Nni) (pick (eqb k 2) (Ok Kind.Spr) (pick (eqb k 3) (Ok Kind.Tbr) (Err Refusal.Kind)))

-- What the checks 7 to 10 say: the plan of the move.
abbrev pub plan_said : ℕ → List ℕ → moves.Move → Said Plan
plan_said n t m = judged (move_checks n t m) (plan_of n t m)

-- The checks 8 to 10 of an NNI, an SPR and a TBR.
abbrev pub nni_checks : ℕ → List ℕ → ℕ → ℕ → ℕ → List Check
nni_checks n t e x y =
    (all_rows n (e ∷ x ∷ y ∷ []) else Refusal.Row)
    ∷ (nni_fits n t e x y else Refusal.Misfit)
    ∷ (true else Refusal.Idle)
    ∷ []

abbrev pub spr_checks : ℕ → List ℕ → ℕ → ℕ → List Check
spr_checks n t a b =
    (all_rows n (a ∷ b ∷ []) else Refusal.Row)
    ∷ (not (eqb a b) else Refusal.Misfit)
    ∷ (not (touches t b (end_with n t a b)) else Refusal.Idle)
    ∷ []

abbrev pub tbr_checks : ℕ → List ℕ → ℕ → ℕ → ℕ → List Check
tbr_checks n t a b c =
    (all_rows n (a ∷ b ∷ c ∷ []) else Refusal.Row)
    ∷ (targets n t a b c else Refusal.Misfit)
    ∷ (not (at_both t b (lo t a) c (hi t a)) else Refusal.Idle)
    ∷ []

-- And what they say.
abbrev pub nni_said : ℕ → List ℕ → ℕ → ℕ → ℕ → Said Plan
nni_said n t e x y = judged (nni_checks n t e x y) (nni_plan t e x y)

abbrev pub spr_said : ℕ → List ℕ → ℕ → ℕ → Said Plan
spr_said n t a b = judged (spr_checks n t a b) (spr_plan n t a b)

abbrev pub tbr_said : ℕ → List ℕ → ℕ → ℕ → ℕ → Said Plan
tbr_said n t a b c = judged (tbr_checks n t a b c) (tbr_plan t a b c)
