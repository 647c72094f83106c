-- Everything known in a job is sound, and no step's lines are more than the
-- lent memory holds. Assumes nothing.
use mathlib.Core.Path.{◌≡◌, refl, sym, ap, subst}
use mathlib.Core.Bool.{Bool, true, ◌&&◌}
use mathlib.Core.List.{List, [], ◌∷◌, ◌++◌}
use Prim.Native.Nat.{ℕ, ◌+◌, ◌*◌, ◌^◌, ◌≤◌, ◌<◌}
use native.Mathlib.Omega.{arith}
use lib.Dec.{ltb, leb}
use lib.ListN.{length, length-append}
use borrow.Author.Tests.{eqb-true, ltb-true, leb-true, le-leb}
use Rattle.taxa.specs.Most.{most, most_partitions}
use Rattle.taxa.specs.Sets.{size}
use Rattle.taxa.proofs.Bools.{and_left, and_right, and_both}
use Rattle.taxa.proofs.Sizes.{size_le}
use Rattle.tree.specs.Tree.{rows}
use Rattle.tree.specs.Splits.{splits, dist_by, dist, distances_by, distances}
use Rattle.calls.specs.Calls.{Pass, gives}
use Rattle.tree.specs.Refusals.{each, all_seen, table_checks, Accepted}
use Rattle.tree.proofs.Lists.{lacks-most}
use Rattle.tree.proofs.Members.{members-count, members-is}
use Rattle.tree.proofs.RefusalLaws.{pass_accepted}
use Rattle.tree.proofs.Seen.{seen_more}
use Rattle.moves.specs.Moves.{Move, moved, move_checks}
use Rattle.moves.proofs.AnyMove.Moved.{moved_accepted}
use Rattle.group_rule.specs.Zeros.{zeros}
use Rattle.group_rule.proofs.Judging.{distances-length}
use Rattle.lines.specs.Lines.{verdict_line}
use Rattle.lines.proofs.Widths.{verdict_few, saved_few}
use Rattle.saved.specs.Saved.{saved_of}
use Rattle.move_lines.specs.MoveLines.{verdict_lines, move_lines}
use Rattle.saved.proofs.SavedLaws.{saved_le}
use Rattle.move_lines.proofs.LineLaws.{lines_length}
use Rattle.job_steps.specs.Job.{Known, nothing, next, with_taxa, with_table, with_partition}
use Rattle.job_steps.specs.Job.{with_move}
use Rattle.job_steps.specs.Job.{field, longest}
use Rattle.job_steps.specs.Runs.{enough}
use Rattle.job_steps.specs.Sound.{Stage, from_start, at_table, past-table, Sound}
use Rattle.job_steps.proofs.Turns.{Turn, read-taxa, read_table, read_partition, read-move}
use Rattle.job_steps.proofs.Turns.{turn}

-- ---- what each stage says

-- Between n and the table n is right.
count-right : {k : Known} → k.at ≡ 4 → Stage k → (leb 4 k.taxa && leb k.taxa most) ≡ true
count-right a (from_start e) = let z = ap (λ (x : Known). x.at) e in absurd (omega arith)
count-right {k} a (at_table b big few t p m) =
    and_both (leb 4 k.taxa) (leb k.taxa most) (le-leb 4 k.taxa big)
    (le-leb k.taxa most few)
count-right a (past-table l t p) = absurd (omega arith)

-- After the table it is accepted, and each partition is right.
past : {k : Known} → (k.at ≡ 0 → ⊥) → (k.at ≡ 4 → ⊥) → Stage k
    → (4 < k.at) × Accepted k.taxa k.table
    × (each (λ y. ltb y (2 ^ k.taxa)) k.parts ≡ true)
past a b (from_start e) = absurd (a (ap (λ (x : Known). x.at) e))
past a b (at_table e big few t p m) = absurd (b e)
past a b (past-table l t p) = (l, t, p)

-- A test that holds of each number on a list and of one more holds of each
-- with it.
each_more : (f : ℕ → Bool) (ys : List ℕ) (y : ℕ) → each f ys ≡ true → f y ≡ true
    → each f (ys ++ y ∷ []) ≡ true
unfolding each
each_more f [] y h e = and_both (f y) true e refl
each_more f (x ∷ ys) y h e = and_both (f x) (each f (ys ++ y ∷ [])) (and_left (f x) (each f ys) h)
    (each_more f ys y (and_right (f x) (each f ys) h) e)

-- ---- a step goes on in the job

-- A step past a field goes on in the job and not past its end, whatever was
-- known before.
pub field_forward : (job : List ℕ) (k k' : Known) (ls : List ℕ) → field job k ≡ gives (next k' ls)
    → (k.at < k'.at) × (k'.at ≤ length job)
field_forward job k k' ls h = go (turn job k k' ls h)
  where
    to : (q : Known) → k' ≡ q → k.at < q.at → q.at ≤ length job
        → (k.at < k'.at) × (k'.at ≤ length job)
    to q e l w = subst (λ (z : Known). (k.at < z.at) × (z.at ≤ length job)) (sym e) (l, w)

    go : Turn job k k' ls → (k.at < k'.at) × (k'.at ≤ length job)
    go (read-taxa n a c b e l) =
        to (with_taxa k.at n) e (omega arith)
        (omega (arith, leb-true (k.at + 3 + 1) (length job) c))
    go (read_table t a c p e l) =
        let whole = leb-true (k.at + 3 + 2 * rows k.taxa) (length job) c in
        let long = eqb-true (length t) (2 * rows k.taxa) p.0 in
        to (with_table k.at k.taxa t) e (omega arith) (omega (arith, whole, long))
    go (read_partition y a b few c r e l) =
        to (with_partition k y) e (omega arith)
        (omega (arith, leb-true (k.at + 3 + 8) (length job) c))
    go (read-move m a b c all p e l) =
        to (with_move k m) e (omega arith) (omega (arith, leb-true (k.at + 3 + 4) (length job) c))

-- ---- a step keeps it sound

-- Before the first field all is sound.
pub sound_start : (job : List ℕ) → Sound job nothing
sound_start job =
    record {
      within = omega arith;
      few-moves = omega arith;
      few-parts = omega arith;
      seen = λ d. absurd (d refl);
      stage = from_start refl;
    }

module _ {job : List ℕ} {k : Known} (s : Sound job k) where
  -- After n.
  sound_taxa : (n : ℕ) → (with_taxa k.at n).at ≤ length job → k.at ≡ 0
      → (leb 4 n && leb n most) ≡ true
      → Sound job (with_taxa k.at n)
  sound_taxa n w a b =
      let big = leb-true 4 n (and_left (leb 4 n) (leb n most) b) in
      let few = leb-true n most (and_right (leb 4 n) (leb n most) b) in
      record {
        within = w;
        few-moves = omega arith;
        few-parts = omega arith;
        seen = λ d. absurd (d refl);
        stage = at_table (omega arith) big few refl refl refl;
      }

  -- After the table.
  sound_table : (t : List ℕ) → (with_table k.at k.taxa t).at ≤ length job → k.at ≡ 4
      → Pass (table_checks k.taxa t)
      → Sound job (with_table k.at k.taxa t)
  unfolding each
  sound_table t w a p =
      record {
        within = w;
        few-moves = omega arith;
        few-parts = omega arith;
        seen = λ d. absurd (d refl);
        stage = past-table (omega arith) (pass_accepted k.taxa t (count-right a s.stage, p))
            refl;
      }

  module _ (a : k.at ≡ 0 → ⊥) (b : k.at ≡ 4 → ⊥) where
    abbrev read : (4 < k.at) × Accepted k.taxa k.table
        × (each (λ y. ltb y (2 ^ k.taxa)) k.parts ≡ true)
    read = past a b s.stage

    -- After a partition.
    sound_partition : (y : ℕ) → (with_partition k y).at ≤ length job
        → length k.parts < most_partitions
        → ltb y (2 ^ k.taxa) ≡ true → Sound job (with_partition k y)
    sound_partition y w few r =
        record {
          within = w;
          few-moves = omega (arith, s.few-moves);
          few-parts = omega (arith, length-append k.parts (y ∷ []));
          seen = λ d. seen_more k.taxa k.parts y (s.seen d);
          stage = past-table (omega (arith, read.0)) read.1
              (each_more (λ x. ltb x (2 ^ k.taxa)) k.parts y read.2 r);
        }

    -- After a move.
    sound_move : (m : Move) → (with_move k m).at ≤ length job → all_seen k.taxa k.parts ≡ true
        → Pass (move_checks k.taxa k.table m) → Sound job (with_move k m)
    sound_move m w all p =
        record {
          within = w;
          few-moves = omega (arith, s.few-moves);
          few-parts = s.few-parts;
          seen = λ d. all;
          stage = past-table (omega (arith, read.0))
              (moved_accepted k.taxa k.table m read.1 p) read.2;
        }

  -- What is known after a step past a field is sound.
  pub sound_next : (k' : Known) (ls : List ℕ) → field job k ≡ gives (next k' ls) → Sound job k'
  sound_next k' ls h = go (turn job k k' ls h)
    where
      to : (q : Known) → k' ≡ q → (q.at ≤ length job → Sound job q) → Sound job k'
      to q e f = subst (Sound job) (sym e) (f (rw e at (field_forward job k k' ls h).1))

      go : Turn job k k' ls → Sound job k'
      go (read-taxa n a c b e l) = to (with_taxa k.at n) e (λ w. sound_taxa n w a b)
      go (read_table t a c p e l) = to (with_table k.at k.taxa t) e (λ w. sound_table t w a p)
      go (read_partition y a b few c r e l) =
          to (with_partition k y) e (λ w. sound_partition a b y w few r)
      go (read-move m a b c all p e l) = to (with_move k m) e (λ w. sound_move a b m w all p)

-- ---- a step's lines

-- The distance of two trees is small.
dist-few : (n : ℕ) (t u : List ℕ) (y : ℕ) → Accepted n t → Accepted n u → ltb y (2 ^ n) ≡ true
    → dist n t u y < 2 ^ 64
unfolding dist_by
dist-few n t u y a b l =
    let w = ltb-true y (2 ^ n) l in
    omega (
      arith,
      a.few,
      lacks-most (splits n t y) (splits n u y),
      lacks-most (splits n u y) (splits n t y),
      members-count y a.valid w,
      members-count y b.valid w,
      members-is (size n y),
      size_le n y,
    )

-- The lines of some partitions have few bytes.
verdicts_few : (n : ℕ) (t u : List ℕ) (m p : ℕ) (ys : List ℕ) → Accepted n t → Accepted n u
    → m < 2 ^ 64 → p + length ys < 2 ^ 64 → each (λ y. ltb y (2 ^ n)) ys ≡ true
    → length (verdict_lines m p (distances n t u ys)) ≤ 80 * length ys
unfolding verdict_lines distances_by each
verdicts_few n t u m p [] a b hm hp h = omega arith
verdicts_few n t u m p (y ∷ ys) a b hm hp h =
    let d = dist n t u y in
    let l = dist-few n t u y a b (and_left (ltb y (2 ^ n)) (each (λ x. ltb x (2 ^ n)) ys) h) in
    let ih = verdicts_few n t u m (p + 1) ys a b hm (omega (arith, hp))
    (and_right (ltb y (2 ^ n)) (each (λ x. ltb x (2 ^ n)) ys) h) in
    omega (
      arith,
      length-append (verdict_line m p d) (verdict_lines m (p + 1) (distances n t u ys)),
      verdict_few m p d hm (omega (arith, hp)) l,
      ih,
    )

-- The lines of a move have few bytes.
move_lines_few : (n : ℕ) (t u ys : List ℕ) (k : ℕ) → Accepted n t → Accepted n u → k < 2 ^ 64
    → length ys ≤ most_partitions → each (λ y. ltb y (2 ^ n)) ys ≡ true
    → length (move_lines n k ys (distances n t u ys)) ≤ enough
move_lines_few n t u ys k a b hk few h =
    let ds = distances n t u ys in
    let s = saved_of n ys ds in
    omega (
      arith,
      lines_length k ds s (zeros ds) refl,
      verdicts_few n t u k 1 ys a b hk (omega (arith, few)) h,
      distances-length n t u ys,
      saved_few k s (zeros ds) (length ds) hk
          (omega (arith, few, saved_le n ys ds, distances-length n t u ys)),
    )

-- So a step's lines fit memory for one move's.
pub lines_few : {job : List ℕ} {k : Known} → Sound job k → k.moves ≤ longest
    → (k' : Known) (ls : List ℕ) → field job k ≡ gives (next k' ls) → length ls ≤ enough
lines_few {job} {k} s few k' ls h = go (turn job k k' ls h)
  where
    none : ls ≡ [] → length ls ≤ enough
    none e = omega (arith, ap length e)

    go : Turn job k k' ls → length ls ≤ enough
    go (read-taxa n a c b e l) = none l
    go (read_table t a c p e l) = none l
    go (read_partition y a b c d r e l) = none l
    go (read-move m a b c all p e l) =
        let w = past a b s.stage in
        omega (
          arith,
          ap length l,
          move_lines_few k.taxa k.table (moved k.taxa k.table m) k.parts
              (k.moves + 1) w.1 (moved_accepted k.taxa k.table m w.1 p)
              (omega (arith, few)) s.few-parts w.2,
        )
