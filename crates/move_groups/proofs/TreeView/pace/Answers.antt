-- `move_groups::TreeView::pace` meets its contract.
use mathlib.Core.Path.{sym, ◌∙◌}
use mathlib.Core.Bool.{true, false}
use Rattle.move_groups.proofs.WayLaws.{paced}
use Rattle.move_groups.proofs.TreeView.pace.Goals as goal

pub returns-then-leads : goal.returns-then-leads
returns-then-leads c =
    paced c.requires.at.0 c.requires.near c.requires.at.1 c.others-o.ensures true
    (sym c.leads.ensures ∙ c.if-leads.true) c.beyond.ensures

pub returns : goal.returns
returns c =
    paced c.requires.at.0 c.requires.near c.requires.at.1 c.others-o.ensures false
    (sym c.leads.ensures ∙ c.if-leads.false) c.beyond-2.ensures
