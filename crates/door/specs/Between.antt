-- What only stands between the functions: what the front door of the calls
-- about a move says and leaves.
use Rattle.std.specs.Prelude.{ℕ, ◌≡◌, Bool, ◌&&◌, List, ◌++◌, leb, Result}
use Rattle.taxa.specs.Most.{most, most_partitions}
use Rattle.taxa.specs.Sets.{pick}
use Rattle.calls.specs.declared.Refusal.{Refusal}
use Rattle.calls.specs.Calls.{Check, Said, gives, judged, Pass, then_said}
use Rattle.calls.specs.Calls as calls
use Rattle.tree.specs.Refusals.{tree_checks, tree_said}
use Rattle.sides.specs.Between.{Looked}
use Rattle.moves.specs.Moves.{Move, move_checks}
use Rattle.moves.specs.Between.{plan_of, Planned}
use Rattle.moves.specs.declared.Plan.{Plan}
use Rattle.move_plan.specs.Between.{plan_said}

-- The checks of a move on a tree, in order: 1 to 5, those of the partitions, 7
-- to 10.
abbrev pub door_checks : ℕ → List ℕ → List Check → Move → List Check
door_checks n t cs m = tree_checks n t ++ cs ++ move_checks n t m

-- n is a number of taxa; a list has so many partitions as it may.
abbrev pub counted : ℕ → Bool
counted n = leb 4 n && leb n most

abbrev pub count_right : ℕ → Bool
count_right count = leb 1 count && leb count most_partitions

-- What the test of partitions by these checks says, before the tree is looked
-- at. Where n is no number of taxa it says nothing, for then the tree is
-- refused.
abbrev pub parts_said : ℕ → List Check → Said (Unit {0})
parts_said n cs = pick (counted n) (judged cs tt) (gives tt)

-- What is said once the tree is looked at: the refusal of the partitions, or
-- one of 7 to 10, or the plan of the move.
abbrev pub opened_said : ℕ → List ℕ → Said (Unit {0}) → Move → Said Plan
opened_said n t parts m = then_said parts (λ u. plan_said n t m)

-- What the door says: the first refusal of the tree, of the partitions and of
-- the move, in this order, or the plan.
abbrev pub entered_said : ℕ → List ℕ → Said (Unit {0}) → Move → Said Plan
entered_said n t parts m = then_said (tree_said n t) (λ u. opened_said n t parts m)

-- It says so, and of a tree the arrays hold the rows at each node and the side
-- of every row.
pub record Entered (n : ℕ) (t : List ℕ) (parts : Said (Unit {0})) (m : Move)
    (r : Result Plan Refusal) (near s : List ℕ) : Type 0 where
  pub says : calls.says r ≡ entered_said n t parts m
  pub looked : tree_said n t ≡ gives tt → Looked n t near s

-- What goes on through the door: a tree that was looked at, and the plan of a
-- move that fits it.
pub record Ready (n : ℕ) (t near s : List ℕ) (p : Plan) : Type 0 where
  pub looked : Looked n t near s
  pub plan : Planned n t p

-- The same of a move m, where the partitions pass their checks.
pub record Opened (n : ℕ) (t near s : List ℕ) (cs : List Check) (m : Move) (p : Plan) : Type 0 where
  pub looked : Looked n t near s
  pub parts : Pass cs
  pub fits : Pass (move_checks n t m)
  pub is : p ≡ plan_of n t m
