-- `split_lists::add` meets its contract.
use Rattle.split_lists.proofs.ListLaws.{added-insert, listed_kept}
use Rattle.split_lists.proofs.add.Goals as goal

pub returns-then-x-eq0 : goal.returns-then-x-eq0
returns-then-x-eq0 c = listed_kept c.if-x-eq0.true c.requires.0

pub insert-requires : goal.insert-requires
insert-requires c =
    let p = c.requires in
    (p.0, rw (added-insert c.if-x-eq0.false) at p.1)

pub returns : goal.returns
returns c =
    rw (added-insert c.if-x-eq0.false) c.insert.ensures
