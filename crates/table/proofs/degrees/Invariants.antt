-- The loop's invariant: the counts are those of the rows so far.
use Rattle.table.specs.Between.{Counted}
use Rattle.table.proofs.degrees.Given as goal

abbrev pub invariant-loop-r : goal.invariant-loop-r
invariant-loop-r l = Counted l.n l.t l.d l.r
