-- At each turn the groups passed are listed; the measure is how many may
-- follow.
use Rattle.std.proofs.Common.{◌-◌, length}
use Rattle.move_groups.proofs.WayLaws.{Walked}
use Rattle.move_groups.proofs.TreeView.way.Given as goal

abbrev pub invariant-loop-p : goal.invariant-loop-p
invariant-loop-p l =
    Walked l.self.n l.self.table.now l.b l.v l.a l.w l.e l.out.items

abbrev pub decreases-loop-p : goal.decreases-loop-p
decreases-loop-p l = l.self.n - length l.out.items
