-- The loop's invariant: the search from i on answers as the whole one.
use Rattle.std.proofs.Common.{◌≡◌, ◌-◌}
use Rattle.lines.specs.Lines.{bin_from, bin}
use Rattle.lines.proofs.class_bin.Given as goal

abbrev pub invariant-loop-i : goal.invariant-loop-i
invariant-loop-i l = bin_from (10 - l.i) l.i l.s l.k ≡ bin l.s l.k
