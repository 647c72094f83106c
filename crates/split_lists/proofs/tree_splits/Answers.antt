-- `split_lists::tree_splits` meets its contract.
use Rattle.split_lists.proofs.ListLaws.{splits-all}
use Rattle.split_lists.proofs.tree_splits.Goals as goal

pub list-requires : goal.list-requires
list-requires c =
    let p = c.requires in
    (p.0.good.valid.big, p.0.good.few, p.1, rw (splits-all p.1 p.0.sides) p.2)

pub returns : goal.returns
returns c =
    let p = c.requires in
    rw (splits-all p.1 p.0.sides) at c.list.ensures
