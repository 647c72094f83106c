-- `inward::order` meets its contract. At each turn the taxa below i are
-- through.
use Rattle.inward.specs.Search.{Climbs}
use Rattle.inward.proofs.order.Given as goal

abbrev pub invariant-loop-i : goal.invariant-loop-i
invariant-loop-i l = Climbs l.n l.t l.a l.i l.k l.k
