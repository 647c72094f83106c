-- What the call that writes one move's lines says and promises.
use Rattle.std.specs.Prelude.{ℕ, ◌+◌, List, ◌++◌, length, Result}
use Rattle.calls.specs.declared.Refusal.{Refusal}
use Rattle.calls.specs.Calls.{Said, judged, Call, tells, says}
use Rattle.tree.specs.Editions.{Edition, narrow}
use Rattle.tree.specs.Splits.{distances}
use Rattle.tree.specs.Refusals.{tree_checks_of, partitions_checks, room_checks}
use Rattle.moves.specs.Moves.{Move, moved, move_checks}
use Rattle.lines.specs.Lines.{placed}
use Rattle.move_lines.specs.MoveLines.{move_lines}

-- The lines that a call states the number k for.
abbrev pub lines_of : ℕ → List ℕ → List ℕ → Move → ℕ → List ℕ
lines_of n t ys m k = move_lines n k ys (distances n t (moved n t m) ys)

-- What the call says: the lines. Refusals 1 to 6, 16, and 7 to 11; 11 when they
-- do not all fit or the place is past the end.
abbrev pub lines_said_of : Edition → ℕ → List ℕ → List ℕ → Move → ℕ → ℕ → ℕ → Said (List ℕ)
lines_said_of E n b ys m k room place =
    let t = E.read b in
    let ls = lines_of n t ys m k in
    judged (tree_checks_of E n b ++ partitions_checks n ys ++ move_checks n t m ++ room_checks
    (place + length ls) room) ls

abbrev pub lines_said : ℕ → List ℕ → List ℕ → Move → ℕ → ℕ → ℕ → Said (List ℕ)
lines_said = lines_said_of narrow

-- What is lent: a table and an output.
pub record Page : Type 0 where
  pub table : List ℕ
  pub out : List ℕ

abbrev pub page : List ℕ → List ℕ → Page
page t o = record { table = t; out = o }

-- The place after the lines; the table after the move, with the lines in the
-- output from the place on.
abbrev pub place_after : ℕ → List ℕ → ℕ
place_after place ls = place + length ls

abbrev pub moved_with : ℕ → Move → ℕ → List ℕ → Page → Page
moved_with n m place ls p = page (moved n p.table m) (placed p.out place ls)

-- The promise: the first is told, and the second is what was lent.
abbrev pub Lists : ℕ → List ℕ → Move → ℕ → ℕ → Page → Result ℕ Refusal → Page
    → Type 0
Lists n ys m k place p r p' =
    let said = lines_said n p.table ys m k (length p.out) place in
    Call (tells (place_after place)) (moved_with n m place) said p (says r) p'
