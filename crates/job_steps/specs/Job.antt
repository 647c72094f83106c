-- A job's fields, the step over one of them, and the listing of a whole job,
-- in document 01's order. An edition settles how numbers stand in bytes.
use Rattle.std.specs.Prelude.{ℕ, zero, suc, ◌+◌, Bool, not, ◌&&◌, ◌||◌, List, [], ◌∷◌, ◌++◌, eqb, ltb, leb, length}
use Rattle.calls.specs.declared.Refusal.{Refusal}
use Rattle.calls.specs.Refusals.{number_of}
use Rattle.calls.specs.Calls.{Said, gives, refuses, refuses_at, judged, placed_at, then_said, ◌else◌}
use Rattle.taxa.specs.Sets.{pick}
use Rattle.tree.specs.Editions.{Edition, narrow}
use Rattle.tree.specs.Tree.{rows}
use Rattle.tree.specs.Refusals.{count_checks_of, table_checks_of, tree_checks_of}
use Rattle.tree.specs.Refusals.{partition_checks, all_seen, partitions_checks}
use Rattle.moves.specs.Moves.{Move, moved, move_checks}
use Rattle.fields.specs.Fields.{tag_at, stated_at, content_at, number_in, move_in_of}
use Rattle.fields.specs.Fields.{taxa_long, part_long, move_long, table_place}
use Rattle.fields.specs.Fields.{allowed_of, headed, complete, length_checks}
use Rattle.lines.specs.Lines.{end_line, refused_line}
use Rattle.move_listing.specs.Listing.{lines_of}

-- ---- what a job has told before an offset
pub record Known : Type 0 where
  pub at : ℕ
  pub taxa : ℕ
  pub table : List ℕ
  pub parts : List ℕ
  pub moves : ℕ

abbrev pub nothing : Known
nothing = record { at = 0; taxa = 0; table = []; parts = []; moves = 0 }

-- ---- the fields

-- Tag 1: n.
abbrev pub taxa_field_of : Edition → List ℕ → ℕ → Said ℕ
taxa_field_of E job at =
    let n = E.number job (at + 3) in
    judged (length_checks job at (taxa_long E) ++ count_checks_of E n) n

-- Tag 2: the table. A wrong stated length is 2, and is judged before the field
-- is tested for being cut short.
abbrev pub table_field_of : Edition → List ℕ → ℕ → ℕ → Said (List ℕ)
table_field_of E job at n =
    let l = E.long (rows n) in
    let b = content_at job at l in
    judged ((headed job at else Refusal.Field) ∷ (eqb (stated_at job at) l else Refusal.Length)
    ∷ (complete job at l else Refusal.Field) ∷ table_checks_of E n b) b

-- Tag 3: a partition.
abbrev pub partition_field_of : Edition → List ℕ → ℕ → ℕ → Said ℕ
partition_field_of E job at n =
    let y = number_in (content_at job at (part_long E)) in
    judged (length_checks job at (part_long E) ++ partition_checks n y) y

-- Tag 4: a move, on the tree the last left. It is a call of its own, with the
-- checks of one; 1 to 6 and 16 have passed before.
abbrev pub move_field_of : Edition → List ℕ → ℕ → ℕ → List ℕ → List ℕ → Said Move
move_field_of E job at n b ys =
    let m = move_in_of E (content_at job at (move_long E)) in
    judged (length_checks job at (move_long E) ++ tree_checks_of E n b ++ partitions_checks n ys
    ++ move_checks n (E.read b) m) m

-- ---- the step over one field

-- What a field gives: what is known after it and its lines; or that the job is
-- over. It says one of these, or a refusal and its place.
pub data Fielded : Type 0 where
  next : Known → List ℕ → Fielded
  over : Fielded

abbrev pub Outcome : Type 0
Outcome = Said Fielded

-- The place of a refusal is the offset of the field's tag.
abbrev pub after : {A : Type 0} → ℕ → Said A → (A → Outcome) → Outcome
after at s f = then_said (placed_at at s) f

-- What is known after n, after the table, after a partition and after a move.
abbrev pub with_taxa_of : Edition → ℕ → ℕ → Known
with_taxa_of E at n =
    record { at = at + (3 + taxa_long E); taxa = n; table = []; parts = []; moves = 0 }

abbrev pub with_table : ℕ → ℕ → List ℕ → Known
with_table at n b =
    record { at = at + 3 + length b; taxa = n; table = b; parts = []; moves = 0 }

abbrev pub with_partition_of : Edition → Known → ℕ → Known
with_partition_of E k y =
    record {
      at = k.at + (3 + part_long E);
      taxa = k.taxa;
      table = k.table;
      parts = k.parts ++ y
          ∷ [];
      moves = k.moves;
    }

abbrev pub with_move_of : Edition → Known → Move → Known
with_move_of E k m =
    let u = moved k.taxa (E.read k.table) m in
    record {
      at = k.at + (3 + move_long E);
      taxa = k.taxa;
      table = E.write u;
      parts = k.parts;
      moves = k.moves + 1;
    }

-- The step over a field of each tag; putStep is that over the table of a tree.
abbrev pub taxa_step_of : Edition → List ℕ → ℕ → Outcome
taxa_step_of E job at =
    after at (taxa_field_of E job at) (λ n. gives (next (with_taxa_of E at n) []))

abbrev pub put_step : ℕ → ℕ → List ℕ → Outcome
put_step at n b = gives (next (with_table at n b) [])

abbrev pub table_step_of : Edition → List ℕ → ℕ → ℕ → Outcome
table_step_of E job at n = after at (table_field_of E job at n) (put_step at n)

abbrev pub partition_step_of : Edition → List ℕ → Known → Outcome
partition_step_of E job k =
    after k.at (partition_field_of E job k.at k.taxa)
    (λ y. gives (next (with_partition_of E k y) []))

abbrev pub move_step_of : Edition → List ℕ → Known → Outcome
move_step_of E job k =
    after k.at (move_field_of E job k.at k.taxa k.table k.parts)
    (λ m. gives (next (with_move_of E k m)
    (lines_of k.taxa (E.read k.table) k.parts m (k.moves + 1))))

-- The field with an allowed tag.
unfoldable pub tagged_step_of : Edition → List ℕ → Known → ℕ → Outcome
tagged_step_of E job k tag =
    pick (eqb tag 1) (taxa_step_of E job k.at)
    (pick (eqb tag 2) (table_step_of E job k.at k.taxa)
    (pick (eqb tag 3) (partition_step_of E job k) (move_step_of E job k)))

-- Partitions have been read, and no move: the next field may be the first
-- after the partitions. Up to the table's field stand n and the table, whatever
-- a state says of partitions.
abbrev pub parts_read_of : Edition → Known → Bool
parts_read_of E k = ltb (table_place E) k.at && leb 1 (length k.parts) && eqb k.moves 0

-- 16 is not given: partitions are not what was read last, or each taxon is in
-- one.
abbrev pub seen_so_far_of : Edition → Known → Bool
seen_so_far_of E k = not (parts_read_of E k) || all_seen k.taxa k.parts

-- The end of a job of so many bytes. One that ends too early between fields is
-- 12, and 16 is judged where it ends after its partitions; both at its length.
abbrev pub end_step_of : Edition → ℕ → Known → Outcome
end_step_of E long k =
    after long (judged ((leb 1 (length k.parts) else Refusal.Field)
    ∷ (seen_so_far_of E k else Refusal.Unseen) ∷ []) (tt {0})) (λ u. gives over)

-- A field with this tag. 16 is judged at the first field after the partitions,
-- which has a tag other than 3, before that field is; then whether the tag is
-- allowed here, length and completeness, then content.
abbrev pub tag_step_of : Edition → List ℕ → Known → ℕ → Outcome
tag_step_of E job k tag =
    after k.at (judged (((eqb tag 3 || seen_so_far_of E k) else Refusal.Unseen)
    ∷ (allowed_of E k.at (length k.parts) k.moves tag else Refusal.Field) ∷ [])
    (tt {0})) (λ u. tagged_step_of E job k tag)

-- The next field, or the end of the job.
unfoldable pub field_of : Edition → List ℕ → Known → Outcome
field_of E job k =
    pick (leb (length job) k.at) (end_step_of E (length job) k)
    (tag_step_of E job k (tag_at job k.at))

-- ---- the whole job

-- The most bytes in a job.
abbrev pub longest : ℕ
longest = 65535

-- The lines that a field gives and those that follow it, or the closing line.
unfoldable pub lines_after : ℕ → Outcome → (Known → List ℕ) → List ℕ
lines_after moves (gives (next k ls)) more = ls ++ more k
lines_after moves (gives over) more = end_line moves
lines_after moves (refuses r) more = refused_line (number_of r) 0
lines_after moves (refuses_at r p) more = refused_line (number_of r) p

-- The lines from what is known on, within f fields.
unfoldable pub listing_from_of : Edition → ℕ → List ℕ → Known → List ℕ
listing_from_of E zero job k = []
listing_from_of E (suc f) job k =
    lines_after k.moves (field_of E job k) (listing_from_of E f job)

-- 13 is checked first, with place 0; then field by field.
unfoldable pub listing_of : Edition → List ℕ → List ℕ
listing_of E job =
    pick (ltb longest (length job)) (refused_line (number_of Refusal.Long) 0)
    (listing_from_of E (suc (length job)) job nothing)

-- ---- in the narrow edition
abbrev pub taxa_field : List ℕ → ℕ → Said ℕ
taxa_field = taxa_field_of narrow

abbrev pub table_field : List ℕ → ℕ → ℕ → Said (List ℕ)
table_field = table_field_of narrow

abbrev pub partition_field : List ℕ → ℕ → ℕ → Said ℕ
partition_field = partition_field_of narrow

abbrev pub move_field : List ℕ → ℕ → ℕ → List ℕ → List ℕ → Said Move
move_field = move_field_of narrow

abbrev pub with_taxa : ℕ → ℕ → Known
with_taxa = with_taxa_of narrow

abbrev pub with_partition : Known → ℕ → Known
with_partition = with_partition_of narrow

abbrev pub with_move : Known → Move → Known
with_move = with_move_of narrow

abbrev pub taxa_step : List ℕ → ℕ → Outcome
taxa_step = taxa_step_of narrow

abbrev pub table_step : List ℕ → ℕ → ℕ → Outcome
table_step = table_step_of narrow

abbrev pub partition_step : List ℕ → Known → Outcome
partition_step = partition_step_of narrow

abbrev pub move_step : List ℕ → Known → Outcome
move_step = move_step_of narrow

abbrev pub tagged_step : List ℕ → Known → ℕ → Outcome
tagged_step = tagged_step_of narrow

abbrev pub parts_read : Known → Bool
parts_read = parts_read_of narrow

abbrev pub seen_so_far : Known → Bool
seen_so_far = seen_so_far_of narrow

abbrev pub end_step : ℕ → Known → Outcome
end_step = end_step_of narrow

abbrev pub tag_step : List ℕ → Known → ℕ → Outcome
tag_step = tag_step_of narrow

abbrev pub field : List ℕ → Known → Outcome
field = field_of narrow

abbrev pub listing_from : ℕ → List ℕ → Known → List ℕ
listing_from = listing_from_of narrow

abbrev pub listing : List ℕ → List ℕ
listing = listing_of narrow
