-- The loop's invariant: r of the groups so far meet y.
use Rattle.std.proofs.Common.{◌≡◌, take}
use Rattle.std.specs.List.{count_by}
use Rattle.group_rule.proofs.Judging.{meeting}
use Rattle.group_rule.proofs.count_met.Given as goal

abbrev pub invariant-loop-g : goal.invariant-loop-g
invariant-loop-g l = l.r ≡ count_by (meeting l.y) (take l.g-index l.gs)
