-- `judge::judge_groups` meets its contract.
use Rattle.std.proofs.Common.{◌∙◌}
use Rattle.judge.proofs.GroupLaws.{rights, listed_few, listed_told}
use Rattle.judge.proofs.judge_groups.Goals as goal

pub groups-requires : goal.groups-requires
groups-requires c =
    let r = rights c.args.tree.now.sided.good c.requires.judged.0 in
    record { near = c.requires.near; end = (r.row, r.first) }

pub groups-requires-2 : goal.groups-requires-2
groups-requires-2 c =
    let r = rights c.args.tree.now.sided.good c.requires.judged.0 in
    record { near = c.requires.near; end = (r.row, r.second) }

pub distance_each-requires : goal.distance_each-requires
distance_each-requires c = (
  listed_few c.args.tree.now.sided.good c.requires.judged.0 c.is_some.ensures
      (c.deref.ensures.0 ∙ c.groups.ensures) (c.deref-2.ensures.0 ∙ c.groups-2.ensures)
      c.deref.ensures.1 c.deref-2.ensures.1,
  c.requires.judged.1.room,
)

pub returns : goal.returns
returns c =
    listed_told c.args.tree.now.sided.good c.requires.judged.0 c.is_some.ensures
    (c.deref.ensures.0 ∙ c.groups.ensures) (c.deref-2.ensures.0 ∙ c.groups-2.ensures)
    _ _ c.requires.judged.1.within c.distance_each.ensures
