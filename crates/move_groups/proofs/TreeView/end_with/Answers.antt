-- `move_groups::TreeView::end_with` meets its contract.
use Rattle.move_groups.proofs.RowLaws.{end_is}
use Rattle.move_groups.proofs.TreeView.end_with.Goals as goal

pub returns-then-leads : goal.returns-then-leads
returns-then-leads c =
    let led = end_is c.args.self.now.sided.good c.requires c.hi-q.ensures in
    rw (led, ← c.leads.ensures, c.if-leads.true) c.lo-p.ensures

pub returns-else-leads : goal.returns-else-leads
returns-else-leads c =
    let led = end_is c.args.self.now.sided.good c.requires c.hi-q.ensures in
    rw (led, ← c.leads.ensures, c.if-leads.false) c.hi-q.ensures
