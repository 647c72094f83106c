-- The lines that the code tells.
use Rattle.std.specs.Prelude.{ℕ, List}
use Rattle.move_lines.specs.MoveLines.{lines_with}
use Rattle.move_lines.specs.declared.MoveLines.{MoveLines}

abbrev pub told : MoveLines → List ℕ
told l = lines_with l.number l.distances.now l.saved
