-- `inward::climb` meets its contract. At each turn row r is to be given on
-- from its end v; the measure is how many nodes may still come into the order.
use Prim.Native.Nat.{◌-◌}
use Rattle.inward.specs.Search.{At}
use Rattle.inward.proofs.climb.Given as goal

abbrev pub invariant-loop-n : goal.invariant-loop-n
invariant-loop-n l = At l.n l.t l.a l.i l.c l.v l.r

abbrev pub decreases-loop-n : goal.decreases-loop-n
decreases-loop-n l = l.n - 2 - l.c
