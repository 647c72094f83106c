-- One move's lines are plain. Assumes nothing.
use mathlib.Core.List.{List, [], ◌∷◌}
use Prim.Native.Nat.{ℕ, ◌+◌}
use lib.ListN.{length}
use Rattle.group_rule.specs.Zeros.{zeros}
use Rattle.lines.specs.Lines.{verdict_line, saved_line}
use Rattle.lines.specs.Plain.{Plain, none}
use Rattle.lines.proofs.PlainLaws.{verdict_plain, saved_plain, plain_append}
use Rattle.move_lines.specs.MoveLines.{verdict_lines, lines_with}

pub verdicts_plain : (m p : ℕ) (ds : List ℕ) → Plain (verdict_lines m p ds)
unfolding verdict_lines
verdicts_plain m p [] = none
verdicts_plain m p (d ∷ ds) =
    plain_append (verdict_line m p d) (verdict_lines m (p + 1) ds) (verdict_plain m p d)
    (verdicts_plain m (p + 1) ds)

pub move_plain : (m : ℕ) (ds : List ℕ) (s : ℕ) → Plain (lines_with m ds s)
unfolding lines_with
move_plain m ds s =
    let last = saved_line m s (zeros ds) (length ds) in
    plain_append (verdict_lines m 1 ds) last
    (verdicts_plain m 1 ds) (saved_plain m s (zeros ds) (length ds))
