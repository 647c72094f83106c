-- `table::degrees` meets its contract.
use Rattle.table.proofs.Tallies.{Counting, counted_none, counted_more, first_fits, b_fits}
use Rattle.table.proofs.degrees.Goals.{After-hi}
use Rattle.table.proofs.degrees.Goals as goal

-- both ends of a row are known
counting : (c : After-hi)
    → let a = c.args in
    Counting a.n a.t.now c.loop-r.d c.loop-r.r c.lo.result c.hi.result
counting c = record {
  ordered = c.requires;
  row = c.loop-r-test.true;
  counted = c.loop-r.invariant;
  first = c.lo.ensures;
  second = c.hi.ensures;
}

pub loop-r-init : goal.loop-r-init
loop-r-init c = counted_none _ _ c.requires.few

pub overflow_add-d : goal.overflow_add-d
overflow_add-d c =
    record { fits = first_fits c.requires c.loop-r-test.true c.loop-r.invariant c.lo.ensures }

pub overflow_add-d-in-loop-r : goal.overflow_add-d-in-loop-r
overflow_add-d-in-loop-r c = record { fits = b_fits (counting c) }

pub loop-r-preserved : goal.loop-r-preserved
loop-r-preserved c = counted_more (counting c)
