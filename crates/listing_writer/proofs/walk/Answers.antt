-- `listing_writer::walk` meets its contract.
use Rattle.std.proofs.Common.{rules, arith, ap, refl, ◌∙◌, Ok}
use Rattle.std.proofs.lemmas.Fn.{called_at}
use denote.Param.Always.{mut_next}
use Rattle.job_steps.proofs.GoingLaws.{room-enough, going_first, going_next}
use Rattle.job_steps.proofs.StepForward.{step_forward}
use Rattle.job_steps.specs.Steps.{lending, stepped_says}
use Rattle.listing_writer.proofs.WalkLaws.{walked_first, walked_next, walked-over, walked-refused}
use Rattle.listing_writer.proofs.walk.Goals as goal

pub loop-next-init : goal.loop-next-init
loop-next-init g c = search (rules, going_first, room-enough, walked_first)

-- a step past a field goes on in the job
pub loop-next-smaller : goal.loop-next-smaller
loop-next-smaller g c =
    let at = c.loop-next in
    let m = lending at.tree at.parts at.out in
    let m' = lending c.step.new.table c.step.new.parts c.step.new.out in
    omega (arith, step_forward c.args.input.now at.s m {m' = m'} (c.in-Ok-Some.is ∙ ap Ok c.in-Ok-Some.field-0-is) c.step.ensures)

pub loop-next-preserved : goal.loop-next-preserved
loop-next-preserved g c =
    let at = c.loop-next.invariant in
    let m' = lending c.step.new.table c.step.new.parts c.step.new.out in
    record {
      callable = mut_next g.F.FnMut _ _ _ _ _ c.give.ensures refl at.callable;
      going = going_next {m' = m'} at.going (c.in-Ok-Some.is ∙ ap Ok c.in-Ok-Some.field-0-is) c.step.ensures;
      walked =
          walked_next _ _ _ {m' = m'} _ at.walked c.step.ensures (ap stepped_says (c.in-Ok-Some.is ∙ ap Ok c.in-Ok-Some.field-0-is))
          (called_at g.F.FnMut c.give.ensures c.in_ok-give-in-Ok-Some.was);
    }

pub returns-in-Ok-None : goal.returns-in-Ok-None
returns-in-Ok-None g c =
    walked-over _ _ _ _ c.loop-next.invariant.walked c.step.ensures (ap stepped_says (c.in-Ok-None.is ∙ ap Ok c.in-Ok-None.field-0-is))

pub returns-in-Err : goal.returns-in-Err
returns-in-Err g c =
    walked-refused _ _ _ _ c.loop-next.invariant.walked c.step.ensures
    (ap stepped_says c.in-Err.is)
