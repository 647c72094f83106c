-- `sides::gather` meets its contract.
use Rattle.sides.proofs.GatherLaws.{Gathering}
use Rattle.sides.proofs.gather.Given as goal

abbrev pub invariant-loop-j : goal.invariant-loop-j
invariant-loop-j l = Gathering l.n l.t l.near l.s l.j
