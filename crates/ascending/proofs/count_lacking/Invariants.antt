-- The walk's invariant: what was passed of both lists is compared. One of the
-- two gets shorter at each turn.
use Rattle.std.proofs.Common.{◌+◌, length}
use Rattle.ascending.proofs.Lacking.{Compared}
use Rattle.ascending.proofs.count_lacking.Given as goal

abbrev pub invariant-loop-x : goal.invariant-loop-x
invariant-loop-x l = Compared l.fn.a l.fn.b l.both l.left l.right

abbrev pub decreases-loop-x : goal.decreases-loop-x
decreases-loop-x l = length l.left + length l.right
