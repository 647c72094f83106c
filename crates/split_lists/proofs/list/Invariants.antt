-- `split_lists::list` meets its contract.
use Rattle.split_lists.proofs.ListLaws.{Listed}
use Rattle.split_lists.proofs.list.Given as goal

abbrev pub invariant-loop-side : goal.invariant-loop-side
invariant-loop-side l = Listed l.n l.y l.sides l.initial.out l.len l.side-index l.out
