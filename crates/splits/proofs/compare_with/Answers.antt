-- `splits::compare_with` meets its contract.
use lib.ListN.{take}
use Rattle.calls.proofs.SaysLaws.{handed_on}
use Rattle.tree.specs.Refusals.{Accepted}
use Rattle.sides.proofs.LookLaws.{sighted_sided, sighted-refused}
use Rattle.splits.specs.Between.{Listed}
use Rattle.splits.proofs.ListLaws.{splits-room, written_listed, listed_list}
use Rattle.splits.proofs.SaidLaws.{compares_second, compares_lists}
use Rattle.splits.proofs.compare_with.Goals.{After-tree_splits-j, In_ok-find_sides}
use Rattle.splits.proofs.compare_with.Goals as goal

-- past the first call the second table is a tree, and the sides are its own
second : (c : In_ok-find_sides) → let a = c.args in
    Accepted a.n a.u.now
second c = (sighted_sided c.find_sides.ensures c.in_ok-find_sides.was).good

-- past the second call its splits are listed too
listed : (c : After-tree_splits-j) → let a = c.args in Accepted a.n a.u.now
    → Listed a.n a.u.now a.y (take c.tree_splits-j.result c.tree_splits-j.new.out)
listed c good = written_listed good c.requires.0.bound c.tree_splits-j.ensures

pub tree_splits-j-requires : goal.tree_splits-j-requires
tree_splits-j-requires c = (
  sighted_sided c.find_sides.ensures c.in_ok-find_sides.was,
  c.requires.0.bound,
  splits-room (second (goal.at.tree_splits-j-requires c).In_ok-find_sides) _,
)

pub compare_lists-requires : goal.compare_lists-requires
compare_lists-requires c =
    let at = goal.at.compare_lists-requires c in
    (listed_list c.requires.0, listed_list (listed at.After-tree_splits-j (second at.In_ok-find_sides)))

pub returns-in_err-find_sides : goal.returns-in_err-find_sides
returns-in_err-find_sides c =
    rw (handed_on _ c.from_residual.ensures.1)
    (compares_second c.args.u.now c.args.y c.requires.0.good
    (sighted-refused c.find_sides.ensures c.in_err-find_sides.was))

pub returns : goal.returns
returns c =
    let at = goal.at.returns c in
    compares_lists c.requires.0 (listed at.After-tree_splits-j (second at.In_ok-find_sides))
    c.compare_lists.result c.compare_lists.ensures
