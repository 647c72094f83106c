-- `group_rule::distance_each` meets its contract.
use Rattle.std.proofs.Common.{arith, eqb}
use Rattle.taxa.proofs.Sizes.{tally_one}
use Rattle.group_rule.proofs.Judging.{judged-none, judged-few, judged-next}
use Rattle.group_rule.proofs.distance_each.Goals as goal

pub loop-i-init : goal.loop-i-init
loop-i-init c = judged-none _ c.requires.1

pub overflow_add-r : goal.overflow_add-r
overflow_add-r c = omega (arith, judged-few, tally_one (eqb c.distance-d.result 0))

pub loop-i-preserved : goal.loop-i-preserved
loop-i-preserved c =
    judged-next c.loop-i.invariant c.loop-i-test.true c.distance-d.ensures
