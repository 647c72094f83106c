-- `moved_rows::move_rows` meets its contract.
use native.Mathlib.Omega.{arith}
use Rattle.moved_rows.proofs.Fitting.{rights, first-moves, second-moves}
use Rattle.moved_rows.proofs.move_rows.Goals as goal

pub exchange-requires : goal.exchange-requires
exchange-requires c = omega (arith, rights c.requires, (rights c.requires).pair _ _ c.in-Some.is)

pub move_side-requires : goal.move_side-requires
move_side-requires c = first-moves c.requires

pub move_side-requires-2 : goal.move_side-requires-2
move_side-requires-2 c =
    second-moves c.requires c.move_side.ensures
