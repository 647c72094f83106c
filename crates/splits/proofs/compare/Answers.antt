-- `splits::compare` meets its contract.
use Rattle.calls.proofs.SaysLaws.{handed_on}
use Rattle.sides.proofs.LookLaws.{sighted_sided}
use Rattle.splits.proofs.SaidLaws.{compares_first}
use Rattle.splits.proofs.compare.Goals as goal

pub compare_second-requires : goal.compare_second-requires
compare_second-requires c = sighted_sided c.find_sides.ensures c.in_ok-find_sides.was

pub returns-in_err-find_sides : goal.returns-in_err-find_sides
returns-in_err-find_sides c =
    rw (handed_on _ c.from_residual.ensures.1)
    (compares_first c.args.u.now c.args.y c.find_sides.ensures c.in_err-find_sides.was)
