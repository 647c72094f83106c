-- `move_groups::TreeView::groups` meets its contract.
use Rattle.move_groups.proofs.TreeView.groups.Goals as goal

pub way-requires : goal.way-requires
way-requires c = record {
  near = c.requires.near;
  at = (
    record {
      good = c.args.self.now.sided.good;
      row = c.requires.end.0;
      touch = c.requires.end.1.touch;
    },
    c.requires.end.1.aim c.in-Some.b c.in-Some.is,
    c.clear.ensures,
  );
}
