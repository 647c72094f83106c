-- The case table of document 01, rows P1 to P11: moves on tree S, a set of
-- taxa, and the distance.
use Rattle.std.specs.Prelude.{ℕ, Bool, true, ◌&&◌, List, [], ◌∷◌, eqb}
use Rattle.tree.specs.Splits.{dist}
use Rattle.moves.specs.Moves.{Move, moved, kind_right, rows_right, fits, any_moves}
use Rattle.moves.specs.Groups.{move_rule}

-- Tree S, of 6 taxa: rows 0-6, 1-6, 6-7, 2-7, 7-8, 3-8, 8-9, 4-9, 5-9.
unfoldable pub tree_S : List ℕ
tree_S =
    0 ∷ 6 ∷ 1 ∷ 6 ∷ 6 ∷ 7 ∷ 2 ∷ 7 ∷ 7 ∷ 8 ∷ 3 ∷ 8 ∷ 8 ∷ 9 ∷ 4 ∷ 9 ∷ 5 ∷ 9 ∷ []

-- The three kinds of move.
abbrev pub NNI : ℕ → ℕ → ℕ → Move
NNI e x y = record { kind = 1; first = e; second = x; third = y }

abbrev pub SPR : ℕ → ℕ → Move
SPR a b = record { kind = 2; first = a; second = b; third = 0 }

abbrev pub TBR : ℕ → ℕ → ℕ → Move
TBR a b c = record { kind = 3; first = a; second = b; third = c }

-- A row of the table: a move on tree S, a set of taxa, the distance.
pub data Case : Type 0 where
  case : Move → ℕ → ℕ → Case

-- P1 to P11, in order. Taxon 0 is the last digit of a set.
unfoldable pub cases : List Case
cases =
    case (NNI 4 3 5) 0b111111 2
    ∷ case (NNI 4 3 5) 0b011101 2
    ∷ case (NNI 4 3 5) 0b110011 0
    ∷ case (NNI 4 3 5) 0b000000 0
    ∷ case (SPR 0 7) 0b111111 6
    ∷ case (SPR 0 7) 0b001111 2
    ∷ case (SPR 0 7) 0b000111 0
    ∷ case (SPR 0 7) 0b111110 0
    ∷ case (TBR 4 0 7) 0b111111 4
    ∷ case (TBR 4 0 7) 0b011011 0
    ∷ case (TBR 4 0 7) 0b001111 2
    ∷ []

-- The move passes its checks; the distance of tree S and the tree after it is
-- the one in the table, and so is the distance by the papers' rule.
unfoldable pub holds : Case → Bool
holds (case m y d) =
    kind_right m && rows_right 6 m && fits 6 tree_S m && any_moves 6 tree_S m
    && eqb (dist 6 tree_S (moved 6 tree_S m) y) d && eqb (move_rule 6 tree_S m y) d

-- Every row on the list holds.
unfoldable pub all_hold : List Case → Bool
all_hold [] = true
all_hold (c ∷ cs) = holds c && all_hold cs
