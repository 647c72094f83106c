-- `listing_writer::walk` meets its contract. At each turn the state and the
-- memory are such as the steps over the job come to, and there is room for any
-- job; what was given and what the steps from here on write are the listing.
-- The measure is what is left of the job.
use Rattle.std.proofs.Common.{length, suc, ◌-◌}
use Rattle.job_steps.specs.Sound.{Going}
use Rattle.job_steps.specs.Steps.{lending}
use Rattle.listing_writer.proofs.WalkLaws.{Walked}
use Rattle.listing_writer.proofs.walk.Given as goal

abbrev pub invariant-loop-next : goal.invariant-loop-next
invariant-loop-next g l = record {
  callable : goal.F-IsAlwaysCallable g l.give;
  going : Going l.input l.s (lending l.tree l.parts l.out);
  walked : Walked g.F.FnMut l.initial.give l.input l.give l.s (lending l.tree l.parts l.out);
}

abbrev pub decreases-loop-next : goal.decreases-loop-next
decreases-loop-next g l = suc (length l.input) - l.s.at
