-- `move_groups::TreeView::leads` meets its contract.
use borrow.Author.Tests.{eq-eqb, ne_eqb}
use Rattle.taxa.specs.Sets.{some}
use Rattle.moves.specs.Groups.{leads}
use Rattle.moves.proofs.Ways.Leads.{parts}
use Rattle.move_groups.proofs.RowLaws.{leads_by}
use Rattle.move_groups.proofs.TreeView.leads.Goals as goal

pub returns-then-x-b : goal.returns-then-x-b
unfolding leads
returns-then-x-b c = rw (eq-eqb _ _ c.if-x-b.true)

pub returns-then-i-ne0 : goal.returns-then-i-ne0
unfolding parts some
returns-then-i-ne0 c =
    let led = leads_by c.args.self.now.sided c.requires c.if-x-b.false c.beyond-y.ensures in
    rw (← led, ne_eqb _ _ c.if-i-ne0.true)

pub returns-else-i-ne0 : goal.returns-else-i-ne0
unfolding parts some
returns-else-i-ne0 c =
    let led = leads_by c.args.self.now.sided c.requires c.if-x-b.false c.beyond-y.ensures in
    rw (← led, eq-eqb _ _ c.if-i-ne0.false)
