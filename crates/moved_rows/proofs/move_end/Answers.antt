-- `moved_rows::move_end` meets its contract.
use native.Mathlib.Omega.{arith}
use Rattle.moved_rows.proofs.Fitting.{p_lt, two_rows}
use Rattle.moved_rows.proofs.move_end.Goals as goal

pub put_end-requires : goal.put_end-requires
put_end-requires c =
    omega (arith, two_rows c.requires c.others-o.ensures, p_lt c.requires)
