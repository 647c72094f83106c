-- A job's fields: tag, length, content, and which tag is allowed where.
use Rattle.std.specs.Prelude.{ℕ, ◌+◌, ◌*◌, Bool, ◌&&◌, ◌||◌, List, [], ◌∷◌, eqb, ltb, leb, length, get_or, take, drop}
use Rattle.calls.specs.declared.Refusal.{Refusal}
use Rattle.taxa.specs.Most.{most_partitions}
use Rattle.taxa.specs.Sets.{pick}
use Rattle.calls.specs.Calls.{Check, ◌else◌}
use Rattle.tree.specs.Editions.{Edition, narrow}
use Rattle.moves.specs.Moves.{Move}

-- ---- a field: one-byte tag, two-byte length (high byte first), content

-- The tag and the stated length of the field at an offset, and its content
-- where that length is l.
abbrev pub tag_at : List ℕ → ℕ → ℕ
tag_at job at = get_or job at 0

abbrev pub stated_at : List ℕ → ℕ → ℕ
stated_at job at = get_or job (at + 1) 0 * 256 + get_or job (at + 2) 0

abbrev pub content_at : List ℕ → ℕ → ℕ → List ℕ
content_at job at l = take l (drop (at + 3) job)

-- A number in bytes, the high byte first.
unfoldable pub high_first : ℕ → List ℕ → ℕ
high_first a [] = a
high_first a (b ∷ bs) = high_first (a * 256 + b) bs

abbrev pub number_in : List ℕ → ℕ
number_in bs = high_first 0 bs

-- A move: the byte of its kind, then three row numbers.
abbrev pub move_in_of : Edition → List ℕ → Move
move_in_of E bs =
    record {
      kind = get_or bs 0 0;
      first = E.number bs 1;
      second = E.number bs (1 + E.bytes);
      third = E.number bs (1 + 2 * E.bytes);
    }

abbrev pub move_in : List ℕ → Move
move_in = move_in_of narrow

-- How long the contents are: n, a partition and a move.
abbrev pub taxa_long : Edition → ℕ
taxa_long E = E.bytes

abbrev pub part_long : Edition → ℕ
part_long E = E.set

abbrev pub move_long : Edition → ℕ
move_long E = 1 + 3 * E.bytes

-- Where the table's field stands: after the tag, the length and n.
abbrev pub table_place : Edition → ℕ
table_place E = 3 + taxa_long E

-- ---- order and length

-- The tag is allowed here: n once, first; the table once, second; then 1 to 64
-- partitions; then moves to the end.
unfoldable pub allowed_of : Edition → ℕ → ℕ → ℕ → ℕ → Bool
allowed_of E at parts moves tag =
    pick (eqb at 0) (eqb tag 1)
    (pick (eqb at (table_place E)) (eqb tag 2)
    (pick (eqb parts 0) (eqb tag 3)
    (pick (eqb moves 0) (eqb tag 4 || eqb tag 3 && ltb parts most_partitions) (eqb tag 4))))

abbrev pub allowed : ℕ → ℕ → ℕ → ℕ → Bool
allowed = allowed_of narrow

-- The tag and the two bytes of the length are there.
abbrev pub headed : List ℕ → ℕ → Bool
headed job at = leb (at + 3) (length job)

-- The field at an offset is there to its end.
abbrev pub complete : List ℕ → ℕ → ℕ → Bool
complete job at l = leb (at + 3 + l) (length job)

-- The field at an offset has the length l and is there to its end.
abbrev pub length_right : List ℕ → ℕ → ℕ → Bool
length_right job at l = headed job at && eqb (stated_at job at) l && complete job at l

-- 12: the length of a field that must be l is another, or the field is cut
-- short.
abbrev pub length_checks : List ℕ → ℕ → ℕ → List Check
length_checks job at l = (length_right job at l else Refusal.Field) ∷ []
