-- `splits::induced_splits` meets its contract.
use Rattle.calls.proofs.SaysLaws.{handed_on}
use Rattle.sides.proofs.LookLaws.{sighted_sided}
use Rattle.splits.proofs.SaidLaws.{induces_tree}
use Rattle.splits.proofs.induced_splits.Goals as goal

pub induced_tree-requires : goal.induced_tree-requires
induced_tree-requires c = sighted_sided c.find_sides.ensures c.in_ok-find_sides.was

pub returns-in_err-find_sides : goal.returns-in_err-find_sides
returns-in_err-find_sides c =
    rw (handed_on _ c.from_residual.ensures.1)
    (induces_tree _ c.find_sides.ensures c.in_err-find_sides.was)
