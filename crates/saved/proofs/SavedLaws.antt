-- The number saved is counted partition by partition. No more are saved than
-- are the same. The width in which taxa are counted does not matter. Of two
-- trees those saved are those unchanged of four or more taxa, and the others
-- that are unchanged are all of fewer. Assumes nothing.
use mathlib.Core.Path.{◌≡◌, refl, ap₂}
use mathlib.Core.Bool.{Bool, true, false, not, ◌&&◌, and-true}
use Rattle.std.proofs.Common.{cond}
use Rattle.std.specs.List.{filter, zip}
use mathlib.Core.List.{List, [], ◌∷◌}
use Prim.Native.Nat.{ℕ, ◌+◌, ◌^◌, ◌≤◌, ◌<◌, zero-le}
use native.Mathlib.Nat.{add-le-add}
use native.Mathlib.Omega.{arith}
use lib.Dec.{eqb, ltb, leb}
use lib.ListN.{length}
use borrow.Author.Tests.{ltb-true, leb-false, eq-eqb}
use Rattle.taxa.specs.Sets.{pick, tally, size}
use Rattle.taxa.proofs.Bools.{and_left, and_right, and_false_r}
use Rattle.taxa.proofs.Sets.{has_below}
use Rattle.taxa.proofs.Sizes.{tally_le, size-wide}
use Rattle.tree.specs.Tree.{Valid}
use Rattle.tree.specs.Splits.{dist, distances_by, distances, unchanged}
use Rattle.tree.specs.Refusals.{each}
use Rattle.tree.proofs.FewTaxa.{few_same}
use Rattle.group_rule.specs.Zeros.{zeros}
use Rattle.group_rule.proofs.Judging.{zeros_le}
use Rattle.saved.specs.Saved.{four_or_more, counts_as_saved, saved_of, of_four_or_more, how_many_fewer}

-- ---- one partition

-- what counts as saved has distance 0
counted_same : (n y d : ℕ) → counts_as_saved n y d ≡ true → eqb d 0 ≡ true
unfolding counts_as_saved
counted_same n y d h = and_left (eqb d 0) (four_or_more n y) h

-- the taxa of y are below n, so it may be counted in any width from n on
counted-wide : (n w y d : ℕ) → n ≤ w → y < 2 ^ n
    → counts_as_saved w y d ≡ counts_as_saved n y d
unfolding counts_as_saved four_or_more
counted-wide n w y d h bound =
    rw (size-wide n w y h (λ i p. has_below n y i bound p))

-- ---- a list of partitions
-- no more are saved than are the same
saved_le_same : (n : ℕ) (ys ds : List ℕ) → saved_of n ys ds ≤ zeros ds
unfolding saved_of zeros
saved_le_same n [] ds = zero-le
saved_le_same n (y ∷ ys) [] = zero-le
saved_le_same n (y ∷ ys) (d ∷ ds) =
    add-le-add
    (tally_le (counts_as_saved n y d) (eqb d 0) (counted_same n y d))
    (saved_le_same n ys ds)

pub saved_le : (n : ℕ) (ys ds : List ℕ) → saved_of n ys ds ≤ length ds
saved_le n ys ds = omega (arith, saved_le_same n ys ds, zeros_le ds)

pub saved_wide : (n w : ℕ) (ys ds : List ℕ) → n ≤ w
    → each (λ y. ltb y (2 ^ n)) ys ≡ true → saved_of w ys ds ≡ saved_of n ys ds
unfolding saved_of each
saved_wide n w [] ds h right = refl
saved_wide n w (y ∷ ys) [] h right = refl
saved_wide n w (y ∷ ys) (d ∷ ds) h right =
    let p = ltb y (2 ^ n) in
    let q = each (λ z. ltb z (2 ^ n)) ys in
    ap₂ (λ (b : Bool) (k : ℕ). tally b + k)
    (counted-wide n w y d h (ltb-true y (2 ^ n) (and_left p q right)))
    (saved_wide n w ys ds h (and_right p q right))

-- They are those that are picked among the partitions with their distances.
pub saved_zip : (n : ℕ) (ys ds : List ℕ)
    → length (filter (λ p. counts_as_saved n p.0 p.1) (zip ys ds)) ≡ saved_of n ys ds
unfolding saved_of
saved_zip n [] ds = refl
saved_zip n (y ∷ ys) [] = refl
saved_zip n (y ∷ ys) (d ∷ ds) = go (saved_zip n ys ds) (counts_as_saved n y d)
  where
    l : List (ℕ × ℕ)
    l = filter (λ p. counts_as_saved n p.0 p.1) (zip ys ds)

    go : length l ≡ saved_of n ys ds → (b : Bool)
        → length (cond b ((y, d) ∷ l) l) ≡ tally b + saved_of n ys ds
    go e true = omega (arith, e)
    go e false = omega (arith, e)

-- ---- the distances of two trees
-- those saved are those unchanged of the partitions of four or more taxa
pub saved_unchanged : (n : ℕ) (t u ys : List ℕ)
    → saved_of n ys (distances n t u ys) ≡ unchanged n t u (of_four_or_more n ys)
unfolding saved_of counts_as_saved distances_by of_four_or_more unchanged
saved_unchanged n t u [] = refl
saved_unchanged n t u (y ∷ ys) =
    go (saved_unchanged n t u ys) (four_or_more n y)
  where
    l : List ℕ
    l = of_four_or_more n ys

    go : saved_of n ys (distances n t u ys) ≡ unchanged n t u l → (b : Bool)
        → tally (eqb (dist n t u y) 0 && b) + saved_of n ys (distances n t u ys)
        ≡ unchanged n t u (pick b (y ∷ l) l)
    go ih true = rw (and-true (eqb (dist n t u y) 0), ih)
    go ih false = rw (and_false_r (eqb (dist n t u y) 0)) (omega (arith, ih))

-- and the others that are unchanged are all of fewer
pub others-unchanged : (n : ℕ) (t u ys : List ℕ) → Valid n t → Valid n u
    → each (λ y. ltb y (2 ^ n)) ys ≡ true
    → unchanged n t u ys
    ≡ unchanged n t u (of_four_or_more n ys) + how_many_fewer n ys
unfolding unchanged of_four_or_more how_many_fewer four_or_more each
others-unchanged n t u [] first second right = omega arith
others-unchanged n t u (y ∷ ys) first second right =
    go (others-unchanged n t u ys first second (and_right p q right))
    (leb 4 (size n y)) refl
  where
    p : Bool
    p = ltb y (2 ^ n)

    q : Bool
    q = each (λ z. ltb z (2 ^ n)) ys

    l : List ℕ
    l = of_four_or_more n ys

    go : unchanged n t u ys ≡ unchanged n t u l + how_many_fewer n ys
        → (b : Bool) → leb 4 (size n y) ≡ b
        → tally (eqb (dist n t u y) 0) + unchanged n t u ys
        ≡ unchanged n t u (pick b (y ∷ l) l)
        + (tally (not b) + how_many_fewer n ys)
    go ih true e = omega (arith, ih)
    go ih false e =
        let bound = ltb-true y (2 ^ n) (and_left p q right) in
        let few : size n y < 4 = leb-false 4 (size n y) e in
        let same = few_same n y bound few first second in
        rw (eq-eqb (dist n t u y) 0 same) (omega (arith, ih))
