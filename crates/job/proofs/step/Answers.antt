-- `job::step` meets its contract.
use Rattle.std.proofs.Common.{◌≡◌, Ok, rules, sym, ap, ◌∙◌}
use Rattle.calls.specs.Calls.{says}
use Rattle.calls.proofs.CallLaws.{call-is}
use Rattle.calls.proofs.SaysLaws.{handed_on}
use Rattle.job_steps.specs.Steps.{lending}
use Rattle.job_steps.specs.Between.{Held}
use Rattle.calls.specs.Calls.{gives}
use Rattle.job_steps.proofs.StateLaws.{held_of, parted_of, StateSays, step_next}
use Rattle.job.proofs.FieldSteps.{end_gives}
use Rattle.job.proofs.step.Goals.{In_ok-map_err}
use Rattle.job.proofs.step.Goals as goal

-- past its tests nothing is said against the state
right : (c : In_ok-map_err)
    → let m = lending c.args.table.now c.args.parts.now c.args.out.now in
    StateSays c.args.job.now c.args.s m (gives tt)
right c =
    let ok : c.state_right.result ≡ Ok tt = search rules in
    record {
      short = c.if-job-gt-LONGEST.false;
      says = sym c.state_right.ensures ∙ ap says ok;
    }

held : (c : In_ok-map_err)
    → Held c.args.s (lending c.args.table.now c.args.parts.now c.args.out.now)
held c = held_of _ _ (right c).says

pub read_end-requires : goal.read_end-requires
read_end-requires c = parted_of (held (goal.at.read_end-requires c).In_ok-map_err)

pub returns-in_err-read_end : goal.returns-in_err-read_end
returns-in_err-read_end c =
    let a = c.args in
    rw (handed_on _ c.from_residual-in_err-read_end.ensures.1)
    (call-is (step_next (right (goal.at.returns-in_err-read_end c).In_ok-map_err))
    (end_gives a.job.now a.s c.if-job-s.true c.in_err-read_end.ensures))

pub returns-then-job-s : goal.returns-then-job-s
returns-then-job-s c =
    let a = c.args in
    call-is (step_next (right (goal.at.returns-then-job-s c).In_ok-map_err))
    (end_gives a.job.now a.s c.if-job-s.true c.in_ok-read_end.ensures)

pub read_next-requires : goal.read_next-requires
read_next-requires c =
    let h = held (goal.at.read_next-requires c).In_ok-map_err in
    search rules
