-- `move_groups::TreeView::way` meets its contract.
use Rattle.std.proofs.Common.{arith, rules}
use Rattle.move_groups.proofs.WayLaws.{walked_start, on_at, last_at, walked_next}
use Rattle.move_groups.proofs.TreeView.way.Goals as goal

pub loop-p-init : goal.loop-p-init
loop-p-init c = rw c.requires.at.2 (walked_start c.requires.at.0 c.requires.at.1)

pub beyond-requires : goal.beyond-requires
beyond-requires c = search (rules, last_at)

pub far-w-requires : goal.far-w-requires
far-w-requires c = omega (arith, on_at c.loop-p.invariant c.pace-p.ensures)

pub loop-p-preserved : goal.loop-p-preserved
loop-p-preserved c =
    rw c.push.ensures.items
    (walked_next c.loop-p.invariant c.pace-p.ensures c.if-p-b.false c.far-w.ensures)
