-- `move_groups::TreeView::stays` meets its contract.
use Rattle.move_groups.proofs.WayLaws.{stays_one, stays_two}
use Rattle.move_groups.proofs.TreeView.stays.Goals as goal

pub returns-then-v-self : goal.returns-then-v-self
returns-then-v-self c =
    rw (c.push.ensures.items, c.requires.at.1)
    (stays_one c.requires.at.0 c.if-v-self.true c.only.ensures)

pub returns : goal.returns
returns c =
    rw (c.push-3.ensures.items, c.push-2.ensures.items, c.requires.at.1)
    (stays_two c.requires.at.0 c.requires.near c.if-v-self.false c.others-o.ensures
    c.beyond.ensures c.beyond-2.ensures)
