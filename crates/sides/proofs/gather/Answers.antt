-- `sides::gather` meets its contract.
use native.Mathlib.Omega.{arith}
use Rattle.sides.proofs.GatherLaws.{gathering_behind, gathering_more, gathering_all}
use Rattle.sides.proofs.gather.Goals as goal

pub gather_at-requires : goal.gather_at-requires
gather_at-requires c = gathering_behind c.loop-j.invariant c.loop-j-test.true

pub loop-j-preserved : goal.loop-j-preserved
loop-j-preserved c = gathering_more c.loop-j.invariant c.loop-j-test.true c.gather_at.ensures

pub returns : goal.returns
returns c = gathering_all c.loop-j.invariant (omega arith)
