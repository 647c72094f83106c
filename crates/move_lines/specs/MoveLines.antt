-- One move's lines.
use Rattle.std.specs.Prelude.{ℕ, ◌+◌, List, [], ◌∷◌, ◌++◌, length}
use Rattle.group_rule.specs.Zeros.{zeros}
use Rattle.lines.specs.Lines.{verdict_line, saved_line}
use Rattle.saved.specs.Saved.{saved_of}

-- The lines for partition p, p + 1, .. in the order sent: a distance for each.
unfoldable pub verdict_lines : ℕ → ℕ → List ℕ → List ℕ
verdict_lines m p [] = []
verdict_lines m p (d ∷ ds) = verdict_line m p d ++ verdict_lines m (p + 1) ds

-- One move's lines, under the move number m: those for partition 1, 2, ..,
-- then `m saved s t`, where s is the number saved. The class t is that of how
-- many of the distances ds are 0.
unfoldable pub lines_with : ℕ → List ℕ → ℕ → List ℕ
lines_with m ds s =
    verdict_lines m 1 ds ++ saved_line m s (zeros ds) (length ds)

-- These lines for the partitions ys of the n taxa: the number saved is counted
-- from ys and the distances ds.
abbrev pub move_lines : ℕ → ℕ → List ℕ → List ℕ → List ℕ
move_lines n m ys ds = lines_with m ds (saved_of n ys ds)
