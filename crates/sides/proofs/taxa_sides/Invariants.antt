-- `sides::taxa_sides` meets its contract.
use Rattle.sides.specs.Between.{AtTaxa}
use Rattle.sides.proofs.taxa_sides.Given as goal

abbrev pub invariant-loop-r : goal.invariant-loop-r
invariant-loop-r l = AtTaxa l.n l.t l.s l.r
