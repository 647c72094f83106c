-- `move_lines::MoveLines::tell` meets its contract.
use Rattle.std.proofs.Common.{arith}
use Rattle.group_rule.proofs.Judging.{zeros_le}
use Rattle.lines.proofs.Placing.{both}
use Rattle.move_lines.proofs.LineLaws.{none_yet, verdicts_next, verdicts_room, verdicts_end}
use Rattle.move_lines.proofs.LineLaws.{lines_are, lines_length}
use Rattle.move_lines.proofs.MoveLines.tell.Goals as goal

pub loop-i-init : goal.loop-i-init
loop-i-init g c =
    let a = c.args.self.now in
    rw (none_yet a.number a.distances.now)
    (record { bytes = g.met.S.Sink.nothing c.args.out.now; less = omega arith })

pub verdict_line-requires : goal.verdict_line-requires
verdict_line-requires g c =
    let a = c.args.self.now in
    omega (
      arith,
      c.loop-i.invariant.less,
      verdicts_room a.number a.distances.now c.loop-i.i c.loop-i-test.true,
      lines_length a.number a.distances.now a.saved a.same a.counted,
    )

pub loop-i-preserved : goal.loop-i-preserved
loop-i-preserved g c =
    let a = c.args.self.now in
    rw (verdicts_next a.number a.distances.now c.loop-i.i c.loop-i-test.true)
    (both g.met.S.Sink.joined c.loop-i.invariant c.verdict_line.ensures)

pub saved_line-requires : goal.saved_line-requires
saved_line-requires g c =
    let a = c.args.self.now in
    let e = verdicts_end a.number a.distances.now c.loop-i.i c.loop-i.auto.i-end
    c.loop-i-test.false in (
      omega (arith, zeros_le a.distances.now, a.counted, a.few),
      a.few,
      omega (
        arith,
        rw e at c.loop-i.invariant.less,
        lines_length a.number a.distances.now a.saved a.same a.counted,
      ),
    )

pub returns : goal.returns
returns g c =
    let a = c.args.self.now in
    let e = verdicts_end a.number a.distances.now c.loop-i.i c.loop-i.auto.i-end
    c.loop-i-test.false in
    rw (← lines_are a.number a.distances.now a.saved a.same a.counted)
    (both g.met.S.Sink.joined (rw e at c.loop-i.invariant) c.saved_line.ensures)
