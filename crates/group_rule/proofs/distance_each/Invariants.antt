-- The loop's invariant: the contract of the ys so far.
use Rattle.moves.specs.Between.{by_groups}
use Rattle.group_rule.proofs.Judging.{Judged}
use Rattle.group_rule.proofs.distance_each.Given as goal

abbrev pub invariant-loop-i : goal.invariant-loop-i
invariant-loop-i l = Judged (by_groups l.nni l.gs l.hs) l.ys l.initial.out l.i l.r l.out
