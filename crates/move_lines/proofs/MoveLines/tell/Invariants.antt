-- The loop's invariant: the lines of the first i partitions were taken.
use lib.ListN.{take}
use Rattle.lines.specs.Between.{Takes}
use Rattle.move_lines.specs.MoveLines.{verdict_lines}
use Rattle.move_lines.proofs.MoveLines.tell.Given as goal

abbrev pub invariant-loop-i : goal.invariant-loop-i
invariant-loop-i g l =
    Takes g.S.Sink.room g.S.Sink.took l.initial.out
    (verdict_lines l.self.number 1 (take l.i l.self.distances.now)) l.out
