-- The walks' invariants: what was passed of a is on b, and what was passed of
-- b is not x.
use Rattle.ascending.proofs.Walks.{Sought, Held}
use Rattle.ascending.proofs.first_lacking.Given as goal

abbrev pub invariant-next : goal.invariant-next
invariant-next l = Held l.a l.b l.x-index

abbrev pub invariant-loop-y : goal.invariant-loop-y
invariant-loop-y l = Sought l.x l.b l.y-index
