-- `table::degrees_right` meets its contract.
use Rattle.std.proofs.Common.{arith}
use Rattle.table.proofs.Alls.{two_stretches}
use Rattle.table.proofs.degrees_right.Goals as goal

pub returns-then-all_at : goal.returns-then-all_at
returns-then-all_at c =
    let two = two_stretches c.args.n c.args.d.now (omega arith) (omega arith) in
    rw (← two, ← c.all_at.ensures, c.if-all_at.true) c.all_at-then-all_at.ensures

pub returns-else-all_at : goal.returns-else-all_at
returns-else-all_at c =
    let two = two_stretches c.args.n c.args.d.now (omega arith) (omega arith) in
    rw (← two, ← c.all_at.ensures, c.if-all_at.false)
