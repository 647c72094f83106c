-- What only stands between the functions: what was found of a move that fits,
-- the row, its two ends, their targets, and which of them go.
use Rattle.std.specs.Prelude.{ℕ, ◌+◌, ◌<◌, ◌≡◌, Bool, true, false, not, List, eqb, Option, Some, None}
use Rattle.std.specs.Bool.{then_some}
use Rattle.calls.specs.Calls.{Pass}
use Rattle.taxa.specs.Sets.{pick}
use Rattle.tree.specs.Tree.{lo, hi, rows, touches, far}
use Rattle.moves.specs.Moves.{Move, by_kind, nni, end_with, move_end, target, move_checks}
use Rattle.moves.specs.Groups.{groups, stayed, met, rule}
use Rattle.moves.specs.declared.Side.{Side}
use Rattle.moves.specs.declared.Plan.{Plan}

-- ---- the plan of a move

-- An end v that is put onto row b, unless b touches it.
abbrev pub to_go : List ℕ → ℕ → ℕ → Side
to_go t v b = record { node = v; target = then_some (not (touches t b v)) b }

-- An end v that stays.
abbrev pub to_stay : ℕ → Side
to_stay v = record { node = v; target = None }

-- NNI: both ends of e stay, and x and y are exchanged.
abbrev pub nni_plan : List ℕ → ℕ → ℕ → ℕ → Plan
nni_plan t e x y = record {
  row = e;
  first = to_stay (lo t e);
  second = to_stay (hi t e);
  exchanged = Some (x, y);
}

-- SPR: the end of a in b's part goes; the other is that of the moved part.
abbrev pub spr_plan : ℕ → List ℕ → ℕ → ℕ → Plan
spr_plan n t a b =
    let p = end_with n t a b in
    record { row = a; first = to_go t p b; second = to_stay (far t a p); exchanged = None }

-- TBR: each end of a goes to its target.
abbrev pub tbr_plan : List ℕ → ℕ → ℕ → ℕ → Plan
tbr_plan t a b c =
    record { row = a; first = to_go t (lo t a) b; second = to_go t (hi t a) c; exchanged = None }

unfoldable pub plan_of : ℕ → List ℕ → Move → Plan
plan_of n t m =
    let none = nni_plan t m.first m.second m.third in
    by_kind m none (spr_plan n t m.first m.second) (tbr_plan t m.first m.second m.third)
    none

-- p is the plan of a move that no check refuses.
pub record Planned (n : ℕ) (t : List ℕ) (p : Plan) : Type 0 where
  pub move : Move
  pub fits : Pass (move_checks n t move)
  pub is : p ≡ plan_of n t move

-- Row b is right as the target of row a's end v: it lies in the part of that
-- end and does not touch it.
pub record Aims (n : ℕ) (t : List ℕ) (a v b : ℕ) : Type 0 where
  pub row : b < rows n
  pub fits : target n t a v b ≡ true
  pub apart : touches t b v ≡ false

-- An end of row a: where it goes, its target is right.
pub record SideRight (n : ℕ) (t : List ℕ) (a : ℕ) (s : Side) : Type 0 where
  pub touch : touches t a s.node ≡ true
  pub aim : (b : ℕ) → s.target ≡ Some b → Aims n t a s.node b

-- ---- what is made of it

-- The table after it: x and y exchanged, or each end that goes put onto its
-- target, the first and then the second.
abbrev pub end_moved : ℕ → List ℕ → ℕ → ℕ → Option ℕ → List ℕ
end_moved n t a v None = t
end_moved n t a v (Some b) = move_end n t v a b

abbrev pub side_moved : ℕ → List ℕ → ℕ → Side → List ℕ
side_moved n t a s = end_moved n t a s.node s.target

abbrev pub exchanged_or : List ℕ → ℕ → Option (ℕ × ℕ) → List ℕ → List ℕ
exchanged_or t e None u = u
exchanged_or t e (Some (x, y)) u = nni t e x y

unfoldable pub plan_moved : ℕ → List ℕ → Plan → List ℕ
plan_moved n t p =
    exchanged_or t p.row p.exchanged
    (side_moved n (side_moved n t p.row p.first) p.row p.second)

-- The groups on the side of an end: those on the way to its target, or those
-- of an end that stays.
abbrev pub end_groups : ℕ → List ℕ → ℕ → ℕ → Option ℕ → List ℕ
end_groups n t a v None = stayed n t a v
end_groups n t a v (Some b) = groups n t a v b

unfoldable pub side_groups : ℕ → List ℕ → ℕ → Side → List ℕ
side_groups n t a s = end_groups n t a s.node s.target

-- The distance over y from the groups gs and hs on the two sides: of an NNI 2
-- where all four are met, else 0; otherwise by the rule.
abbrev pub by_groups : Bool → List ℕ → List ℕ → ℕ → ℕ
by_groups isNni gs hs y =
    pick isNni (pick (eqb (met y gs + met y hs) 4) 2 0) (rule (met y gs) (met y hs))
