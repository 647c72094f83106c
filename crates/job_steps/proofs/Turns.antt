-- The fields that a step goes past: which tag, which checks it passed, and
-- what is known after it. Assumes nothing.
use mathlib.Core.Path.{◌≡◌, refl, ap, sym, ◌∙◌}
use mathlib.Core.Logic.{◌⊎◌, inl, inr}
use mathlib.Core.Bool.{Bool, true, false, ◌&&◌, ◌||◌}
use mathlib.Core.List.{List, [], ◌∷◌, ◌++◌}
use Prim.Native.Nat.{ℕ, ◌+◌, ◌*◌, ◌^◌, ◌<◌}
use native.Mathlib.Omega.{arith}
use lib.Dec.{eqb, ltb, leb}
use lib.ListN.{length, get_or}
use borrow.Author.Tests.{eqb-true, eqb-false, ltb-true}
use Rattle.calls.specs.declared.Refusal.{Refusal}
use Rattle.taxa.specs.Most.{most, most_partitions}
use Rattle.taxa.specs.Sets.{pick, in_some}
use Rattle.taxa.proofs.Bools.{and_left, and_right, or_cases}
use Rattle.tree.specs.Tree.{rows}
use Rattle.calls.specs.Calls.{Check, judged, Pass, gives, ◌else◌}
use Rattle.tree.specs.Refusals.{count_checks, table_checks, tree_checks, partition_checks, all_seen}
use Rattle.tree.specs.Refusals.{partitions_checks}
use Rattle.calls.proofs.CheckLaws.{pass_after}
use Rattle.tree.proofs.Seen.{seen_in}
use Rattle.moves.specs.Moves.{Move, move_checks}
use Rattle.fields.specs.Fields.{tag_at, stated_at, content_at, number_in, move_in, allowed_of, allowed}
use Rattle.fields.specs.Fields.{headed, complete, length_checks}
use Rattle.move_listing.specs.Listing.{lines_of}
use Rattle.job_steps.specs.Job.{Known, Outcome, next, over, after, with_taxa, with_table}
use Rattle.job_steps.specs.Job.{with_partition, with_move, taxa_step, table_step, partition_step}
use Rattle.job_steps.specs.Job.{move_step, tagged_step, seen_so_far, end_step, tag_step, field}
use Rattle.job_steps.specs.Job.{field_of}
use Rattle.job_steps.specs.Job.{tagged_step_of}

-- A step past a field: n, the table, a partition or a move.
pub data Turn (job : List ℕ) (k k' : Known) (ls : List ℕ) : Type 0 where
  read-taxa : (n : ℕ) → k.at ≡ 0 → complete job k.at 1 ≡ true → (leb 4 n && leb n most) ≡ true
      → k' ≡ with_taxa k.at n → ls ≡ [] → Turn job k k' ls
  read_table : (t : List ℕ) → k.at ≡ 4 → complete job k.at (2 * rows k.taxa) ≡ true
      → Pass (table_checks k.taxa t) → k' ≡ with_table k.at k.taxa t → ls ≡ []
      → Turn job k k' ls
  read_partition : (y : ℕ) → (k.at ≡ 0 → ⊥) → (k.at ≡ 4 → ⊥) → length k.parts < most_partitions
      → complete job k.at 8 ≡ true → ltb y (2 ^ k.taxa) ≡ true → k' ≡ with_partition k y
      → ls ≡ []
      → Turn job k k' ls
  read-move : (m : Move) → (k.at ≡ 0 → ⊥) → (k.at ≡ 4 → ⊥) → complete job k.at 4 ≡ true
      → all_seen k.taxa k.parts ≡ true → Pass (move_checks k.taxa k.table m)
      → k' ≡ with_move k m → ls ≡ lines_of k.taxa k.table k.parts m (k.moves + 1)
      → Turn job k k' ls

-- Checks that give an outcome other than a refusal have all passed.
after_next : {A : Type 0} (at : ℕ) (cs : List Check) (a : A) (f : A → Outcome) (k : Known)
    (ls : List ℕ) → after at (judged cs a) f ≡ gives (next k ls)
    → Pass cs × (f a ≡ gives (next k ls))
unfolding judged
after_next at [] a f k ls h = (tt, h)
after_next at ((true else r) ∷ cs) a f k ls h = let w = after_next at cs a f k ls h in
    ((refl, w.0), w.1)
after_next at ((false else r) ∷ cs) a f k ls h =
    absurd (let z : ◌≡◌ {A = ℕ} 0 1 = cc in omega arith)

-- The end of a job is no step past a field.
not_over : (k : Known) (ls : List ℕ) → gives over ≡ gives (next k ls) → ◌≡◌ {A = ℕ} 0 1
not_over k ls h = cc

-- Two equal steps past a field leave the same known.
next_known : (a b : Known) (ls ms : List ℕ) → gives (next a ls) ≡ gives (next b ms) → b ≡ a
next_known a b ls ms h = cc

-- Two equal steps past a field give the same lines.
next_lines : (a b : Known) (ls ms : List ℕ) → gives (next a ls) ≡ gives (next b ms) → ms ≡ ls
next_lines a b ls ms h = cc

-- The tags that are allowed, and where.
data Tag (at parts tag : ℕ) : Type 0 where
  one : at ≡ 0 → tag ≡ 1 → Tag at parts tag
  two : at ≡ 4 → tag ≡ 2 → Tag at parts tag
  three : (at ≡ 0 → ⊥) → (at ≡ 4 → ⊥) → parts < most_partitions → tag ≡ 3 → Tag at parts tag
  four : (at ≡ 0 → ⊥) → (at ≡ 4 → ⊥) → tag ≡ 4 → Tag at parts tag

-- An allowed tag is one of these.
allowed_tag : (at parts moves tag : ℕ) → allowed at parts moves tag ≡ true → Tag at parts tag
unfolding allowed_of
allowed_tag at parts moves tag h =
    go (eqb at 0) (eqb at 4) (eqb parts 0) (eqb moves 0) refl refl refl h
  where
    more : (at ≡ 0 → ⊥) → (at ≡ 4 → ⊥)
        → (eqb tag 4 ≡ true) ⊎ ((eqb tag 3 && ltb parts most_partitions) ≡ true) → Tag at parts tag
    more p q (inl w) = four p q (eqb-true tag 4 w)
    more p q (inr w) = three p q
        (ltb-true parts most_partitions (and_right (eqb tag 3) (ltb parts most_partitions) w))
        (eqb-true tag 3 (and_left (eqb tag 3) (ltb parts most_partitions) w))

    go : (a b c d : Bool) → eqb at 0 ≡ a → eqb at 4 ≡ b → eqb parts 0 ≡ c
        → pick a (eqb tag 1) (pick b (eqb tag 2)
        (pick c (eqb tag 3) (pick d (eqb tag 4 || eqb tag 3 && ltb parts most_partitions)
        (eqb tag 4)))) ≡ true → Tag at parts tag
    go true b c d p q r w = one (eqb-true at 0 p) (eqb-true tag 1 w)
    go false true c d p q r w = two (eqb-true at 4 q) (eqb-true tag 2 w)
    go false false true d p q r w =
        three (eqb-false at 0 p) (eqb-false at 4 q) (let e = eqb-true parts 0 r in omega arith)
        (eqb-true tag 3 w)
    go false false false true p q r w =
        more (eqb-false at 0 p) (eqb-false at 4 q)
        (or_cases (eqb tag 4) (eqb tag 3 && ltb parts most_partitions) w)
    go false false false false p q r w =
        four (eqb-false at 0 p) (eqb-false at 4 q) (eqb-true tag 4 w)

module _ (job : List ℕ) (k : Known) where
  -- Tag 1 is the step over n.
  of_one : (tag : ℕ) → tag ≡ 1 → tagged_step job k tag ≡ taxa_step job k.at
  unfolding tagged_step_of
  of_one tag e = ap (tagged_step job k) e

  -- Tag 2 is the step over the table.
  of_two : (tag : ℕ) → tag ≡ 2 → tagged_step job k tag ≡ table_step job k.at k.taxa
  unfolding tagged_step_of
  of_two tag e = ap (tagged_step job k) e

  -- Tag 3 is the step over a partition.
  of_three : (tag : ℕ) → tag ≡ 3 → tagged_step job k tag ≡ partition_step job k
  unfolding tagged_step_of
  of_three tag e = ap (tagged_step job k) e

  -- Tag 4 is the step over a move.
  of_four : (tag : ℕ) → tag ≡ 4 → tagged_step job k tag ≡ move_step job k
  unfolding tagged_step_of
  of_four tag e = ap (tagged_step job k) e

  -- A step past a field finds an allowed tag and goes by it.
  field_next : (k' : Known) (ls : List ℕ) → field job k ≡ gives (next k' ls)
      → (allowed k.at (length k.parts) k.moves (tag_at job k.at) ≡ true)
      × (tagged_step job k (tag_at job k.at) ≡ gives (next k' ls))
  unfolding field_of
  field_next k' ls h = go (leb (length job) k.at) h
    where
      tag : ℕ
      tag = tag_at job k.at

      go : (a : Bool) → pick a (end_step (length job) k) (tag_step job k tag) ≡ gives (next k' ls)
          → (allowed k.at (length k.parts) k.moves tag ≡ true)
          × (tagged_step job k tag ≡ gives (next k' ls))
      go true w =
          let p = after_next (length job)
          ((leb 1 (length k.parts) else Refusal.Field) ∷ (seen_so_far k else Refusal.Unseen)
          ∷ []) (tt {0}) (λ (u : Unit {0}). gives over) k' ls w in
          absurd (let z : ◌≡◌ {A = ℕ} 0 1 = not_over k' ls p.1 in omega arith)
      go false w =
          let p = after_next k.at
          (((eqb tag 3 || seen_so_far k) else Refusal.Unseen)
          ∷ (allowed k.at (length k.parts) k.moves tag else Refusal.Field) ∷ [])
          (tt {0}) (λ (u : Unit {0}). tagged_step job k tag) k' ls w in
          (p.0.1.0, p.1)

  -- Every step past a field is one of the four.
  pub turn : (k' : Known) (ls : List ℕ) → field job k ≡ gives (next k' ls) → Turn job k k' ls
  turn k' ls h = go (allowed_tag k.at (length k.parts) k.moves tag w.0)
    where
      w : (allowed k.at (length k.parts) k.moves (tag_at job k.at) ≡ true)
          × (tagged_step job k (tag_at job k.at) ≡ gives (next k' ls))
      w = field_next k' ls h

      tag : ℕ
      tag = tag_at job k.at

      whole : (l : ℕ) → (headed job k.at && eqb (stated_at job k.at) l && complete job k.at
          l) ≡ true → complete job k.at l ≡ true
      whole l p = and_right (headed job k.at && eqb (stated_at job k.at) l)
          (complete job k.at l) p

      go : Tag k.at (length k.parts) tag → Turn job k k' ls
      go (one a e) =
          let n = get_or job (k.at + 3) 0 in
          let p = after_next k.at (length_checks job k.at 1 ++ count_checks n) n
          (λ (x : ℕ). gives (next (with_taxa k.at x) [])) k' ls (sym (of_one tag e) ∙ w.1) in
          read-taxa n a (whole 1 p.0.0) p.0.1.0
          (next_known (with_taxa k.at n) k' [] ls p.1)
          (next_lines (with_taxa k.at n) k' [] ls p.1)
      go (two a e) =
          let n = k.taxa in
          let t = content_at job k.at (2 * rows n) in
          let p = after_next k.at
          ((headed job k.at else Refusal.Field)
          ∷ (eqb (stated_at job k.at) (2 * rows n) else Refusal.Length)
          ∷ (complete job k.at (2 * rows n) else Refusal.Field) ∷ table_checks n t) t
          (λ (x : List ℕ). gives (next (with_table k.at n x) [])) k' ls
          (sym (of_two tag e) ∙ w.1) in
          read_table t a p.0.1.1.0 p.0.1.1.1
          (next_known (with_table k.at n t) k' [] ls p.1)
          (next_lines (with_table k.at n t) k' [] ls p.1)
      go (three a b c e) =
          let y = number_in (content_at job k.at 8) in
          let p = after_next k.at (length_checks job k.at 8 ++ partition_checks k.taxa y) y
          (λ (x : ℕ). gives (next (with_partition k x) [])) k' ls
          (sym (of_three tag e) ∙ w.1) in
          read_partition y a b c (whole 8 p.0.0) p.0.1.0
          (next_known (with_partition k y) k' [] ls p.1)
          (next_lines (with_partition k y) k' [] ls p.1)
      go (four a b e) =
          let m = move_in (content_at job k.at 4) in
          let cs = partitions_checks k.taxa k.parts ++ move_checks k.taxa k.table m in
          let lines = lines_of k.taxa k.table k.parts m (k.moves + 1) in
          let p = after_next k.at
          (length_checks job k.at 4 ++ tree_checks k.taxa k.table ++ partitions_checks
          k.taxa k.parts ++ move_checks k.taxa k.table m) m
          (λ (x : Move). gives (next (with_move k x)
          (lines_of k.taxa k.table k.parts x (k.moves + 1)))) k' ls
          (sym (of_four tag e) ∙ w.1) in
          let q = pass_after (tree_checks k.taxa k.table) cs p.0.1 in
          read-move m a b (whole 4 p.0.0) q.1.0 q.1.1
          (next_known (with_move k m) k' lines ls p.1)
          (next_lines (with_move k m) k' lines ls p.1)

  -- Where a field gives lines, each taxon is in a partition.
  pub field-seen : (k' : Known) (ls : List ℕ) → field job k ≡ gives (next k' ls) → (ls ≡ [] → ⊥)
      → (i : ℕ) → i < k.taxa → in_some k.parts i ≡ true
  field-seen k' ls h some i l = go (turn k' ls h)
    where
      go : Turn job k k' ls → in_some k.parts i ≡ true
      go (read-taxa n a c b e none) = absurd (some none)
      go (read_table t a c p e none) = absurd (some none)
      go (read_partition y a b few c r e none) = absurd (some none)
      go (read-move m a b c all p e ls-are) = seen_in k.taxa k.parts all i l
