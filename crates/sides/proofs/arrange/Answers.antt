-- `sides::arrange` meets its contract.
use Rattle.calls.proofs.SaysLaws.{handed_on}
use Rattle.sides.proofs.LookLaws.{found_rowed, arranges_rows, arranges_tree, arranges_5}
use Rattle.sides.proofs.arrange.Goals as goal

pub returns-in_err-check_rows : goal.returns-in_err-check_rows
returns-in_err-check_rows c =
    rw (handed_on _ c.from_residual.ensures.1)
    (arranges_rows c.check_rows.ensures c.in_err-check_rows.was)

pub order-requires : goal.order-requires
order-requires c = (found_rowed c.check_rows.ensures c.in_ok-check_rows.was, c.requires)

pub returns-then-order : goal.returns-then-order
returns-then-order c =
    arranges_tree c.check_rows.ensures c.in_ok-check_rows.was c.order.ensures c.if-order.true

pub returns : goal.returns
returns c =
    arranges_5 c.check_rows.ensures c.in_ok-check_rows.was c.order.ensures c.if-order.false
