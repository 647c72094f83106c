-- `ascending::first_lacking` meets its contract.
use Rattle.std.proofs.Common.{arith, refl}
use Rattle.ascending.proofs.Walks.{sought_end, sought_here, sought_more}
use Rattle.ascending.proofs.Walks.{held_end, held_lack, held_more}
use Rattle.ascending.proofs.first_lacking.Goals as goal

pub next-init : goal.next-init
next-init c = record { upto = omega arith; rest = refl }

pub loop-y-init : goal.loop-y-init
loop-y-init c = record { upto = omega arith; rest = refl }

pub loop-y-preserved : goal.loop-y-preserved
loop-y-preserved c = sought_more c.loop-y.invariant c.loop-y-test.true c.if-y-x.false

pub next-preserved : goal.next-preserved
next-preserved c =
    held_more c.next.invariant c.next-test.true
    (sought_here c.loop-y.invariant c.loop-y-test.true c.if-y-x.true)

pub returns-after-loop-y : goal.returns-after-loop-y
returns-after-loop-y c =
    held_lack c.next.invariant c.next-test.true
    (sought_end c.loop-y.invariant (omega arith))

pub returns-after-next : goal.returns-after-next
returns-after-next c = held_end c.next.invariant (omega arith)
