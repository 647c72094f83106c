-- Which side is written, case by case; that this is a fair choice; and that the
-- side without the lowest taxon, written before request #102, is one too.
-- Nothing else in tree looks inside `flips`. Assumes nothing.
use mathlib.Core.Path.{◌≡◌, refl, sym, ap, ap₂, ◌∙◌}
use mathlib.Core.Logic.{◌⊎◌, inl, inr}
use mathlib.Core.Bool.{Bool, true, false, not, ◌&&◌, true≢false}
use Prim.Native.Nat.{ℕ, ◌^◌, ◌≤◌, ◌<◌}
use native.Mathlib.Omega.{arith}
use lib.Arith.{lt_of_le-ne}
use lib.Bits.{bit_and}
use lib.Dec.{eqb, ltb}
use borrow.Author.Tests.{ltb-true, ltb-false, lt-ltb, le-ltb, eqb-true, eqb-false, eq-eqb, ne_eqb}
use Rattle.taxa.specs.Sets.{pick, has, less, some, size, lowest, Sub}
use Rattle.taxa.proofs.Bools.{either, and_both, ◌⊕◌}
use Rattle.taxa.proofs.Sets.{has_and, has-less, has_below, has-lowest, sub_inside, sub_less, sub_lt}
use Rattle.taxa.proofs.Sets.{some-has, some_mono, some_false, some-lowest, lowest_lt, lowest-wide}
use Rattle.taxa.proofs.Sizes.{size_pos, size_none, size-wide}
use Rattle.tree.specs.Splits.{meets, split_by, holds_lowest, flips, split}
use Rattle.tree.proofs.Choices.{Like, Fair, side_like, other_by, own_by}

-- ---- the side without the lowest taxon
lowest_even : (n y s s' i : ℕ) (d : Bool) → y < 2 ^ n → has y i ≡ true
    → Like y d s s' → holds_lowest n y s ≡ (d ⊕ holds_lowest n y s')
unfolding holds_lowest
lowest_even n y s s' i d bound h same =
    same (lowest n y) (has-lowest n y i (has_below n y i bound h) h)

lowest-kept : (n y s : ℕ) → y < 2 ^ n
    → some (split_by holds_lowest n y s) ≡ true → meets y s ≡ true
unfolding meets split_by holds_lowest
lowest-kept n y s bound h = go (has s (lowest n y)) refl h
  where
    -- where a side of y is not empty, the lowest taxon is there
    there : (x : ℕ) → Sub x y → some x ≡ true → has y (lowest n y) ≡ true
    there x sub p = some-lowest n y bound (some_mono x y sub p)

    go : (c : Bool) → has s (lowest n y) ≡ c
        → some (pick c (less y s) (bit_and s y)) ≡ true
        → (some (bit_and s y) && some (less y s)) ≡ true
    go true e h =
        let p = there (less y s) (sub_less y s) h in
        let q = has_and s y (lowest n y) ∙ ap₂ ◌&&◌ e p in
        and_both (some (bit_and s y)) (some (less y s))
        (some-has (bit_and s y) (lowest n y) q) h
    go false e h =
        let p = there (bit_and s y) (sub_inside y s) h in
        let q = has-less y s (lowest n y) ∙ ap₂ (λ (u v : Bool). u && not v) p e in
        and_both (some (bit_and s y)) (some (less y s))
        h (some-has (less y s) (lowest n y) q)

pub lowest_fair : Fair holds_lowest
lowest_fair = record { even = lowest_even; kept = lowest-kept }

-- ---- the smaller side; with equal sides, the one without the lowest taxon
module _ (n y s : ℕ) where
  other_smaller : size n (less y s) < size n (bit_and s y) → flips n y s ≡ true
  unfolding flips
  other_smaller h =
      let d = ne_eqb (size n (bit_and s y)) (size n (less y s)) (λ e.
      omega (arith, h, e)) in
      rw d (lt-ltb (size n (less y s)) (size n (bit_and s y)) h)

  own_smaller : size n (bit_and s y) < size n (less y s) → flips n y s ≡ false
  unfolding flips
  own_smaller h =
      let d = ne_eqb (size n (bit_and s y)) (size n (less y s)) (λ e.
      omega (arith, h, e)) in
      rw d (le-ltb (size n (less y s)) (size n (bit_and s y)) (omega (arith, h)))

  equal_sides : size n (bit_and s y) ≡ size n (less y s)
      → flips n y s ≡ holds_lowest n y s
  unfolding flips
  equal_sides h = rw (eq-eqb (size n (bit_and s y)) (size n (less y s)) h)

  -- the smaller side is written
  pub inside-written : size n (bit_and s y) < size n (less y s)
      → bit_and s y ≡ split n y s
  inside-written h = own_by flips n y s (own_smaller h)

  pub outside_written : size n (less y s) < size n (bit_and s y)
      → less y s ≡ split n y s
  outside_written h = other_by flips n y s (other_smaller h)

  -- with equal sides, the one without the lowest taxon of y
  module _ (equal : size n (bit_and s y) ≡ size n (less y s)) where
    pub inside_tie : has s (lowest n y) ≡ false → bit_and s y ≡ split n y s
    unfolding holds_lowest
    inside_tie h = own_by flips n y s (equal_sides equal ∙ h)

    pub outside_tie : has s (lowest n y) ≡ true → less y s ≡ split n y s
    unfolding holds_lowest
    outside_tie h = other_by flips n y s (equal_sides equal ∙ h)

-- ---- for one pair of sides it is one and the same
-- exchanged sizes turn the choice over, and so does the lowest taxon
turned : (a b : ℕ) (p q : Bool) → p ≡ not q
    → pick (eqb a b) p (ltb b a) ≡ not (pick (eqb b a) q (ltb a b))
turned a b p q h = go (either (eqb a b)) (either (ltb a b))
  where
    back : eqb a b ≡ false → b ≡ a → ⊥
    back e d = eqb-false a b e (sym d)

    go : (eqb a b ≡ true) ⊎ (eqb a b ≡ false)
        → (ltb a b ≡ true) ⊎ (ltb a b ≡ false)
        → pick (eqb a b) p (ltb b a) ≡ not (pick (eqb b a) q (ltb a b))
    go (inl e) l = rw (e, eq-eqb b a (sym (eqb-true a b e))) h
    go (inr e) (inl l) =
        rw (e, ne_eqb b a (back e), l) (le-ltb b a (omega (arith, ltb-true a b l)))
    go (inr e) (inr l) =
        rw (e, ne_eqb b a (back e), l)
        (lt-ltb b a (lt_of_le-ne (ltb-false a b l) (back e)))

flips_even : (n y s s' i : ℕ) (d : Bool) → y < 2 ^ n → has y i ≡ true
    → Like y d s s' → flips n y s ≡ (d ⊕ flips n y s')
unfolding flips
flips_even n y s s' i false bound h same =
    rw (
      side_like false false y s s' same,
      side_like true false y s s' same,
      lowest_even n y s s' i false bound h same,
    )
flips_even n y s s' i true bound h same =
    rw (side_like false true y s s' same, side_like true true y s s' same)
    (turned (size n (less y s')) (size n (bit_and s' y))
    (holds_lowest n y s) (holds_lowest n y s')
    (lowest_even n y s s' i true bound h same))

-- ---- where a side is empty, that one is written
some_size : (n x y : ℕ) → Sub x y → y < 2 ^ n → some x ≡ true → 0 < size n x
some_size n x y sub bound p =
    let b = sub_lt n x y sub bound in
    size_pos n x (lowest n x) (lowest_lt n x b p) (some-lowest n x b p)

flips-kept : (n y s : ℕ) → y < 2 ^ n → some (split n y s) ≡ true
    → meets y s ≡ true
unfolding meets
flips-kept n y s bound h =
    go (either (some (bit_and s y))) (either (some (less y s)))
    (either (flips n y s))
  where
    never : (x : ℕ) → some x ≡ false → x ≡ split n y s → ⊥
    never x e q = true≢false (sym h ∙ ap some (sym q) ∙ e)

    empty : (x : ℕ) → some x ≡ false → size n x ≡ 0
    empty x e = ap (size n) (some_false x e) ∙ size_none n

    go : (some (bit_and s y) ≡ true) ⊎ (some (bit_and s y) ≡ false)
        → (some (less y s) ≡ true) ⊎ (some (less y s) ≡ false)
        → (flips n y s ≡ true) ⊎ (flips n y s ≡ false)
        → (some (bit_and s y) && some (less y s)) ≡ true
    go (inl p) (inl q) f = and_both (some (bit_and s y)) (some (less y s)) p q
    go (inl p) (inr q) f =
        let l = some_size n (bit_and s y) y (sub_inside y s) bound p in
        absurd (never (less y s) q
        (outside_written n y s (omega (arith, l, empty (less y s) q))))
    go (inr p) q (inr f) = absurd (never (bit_and s y) p (own_by flips n y s f))
    go (inr p) (inr q) (inl f) =
        absurd (never (less y s) q (other_by flips n y s f))
    go (inr p) (inl q) (inl f) =
        let l = some_size n (less y s) y (sub_less y s) bound q in
        absurd (never (bit_and s y) p
        (inside-written n y s (omega (arith, l, empty (bit_and s y) p))))

pub flips_fair : Fair flips
flips_fair = record { even = flips_even; kept = flips-kept }

-- ---- the width in which the taxa are counted does not matter
pub flips-wide : (n w y s : ℕ) → n ≤ w → y < 2 ^ n → some y ≡ true
    → flips w y s ≡ flips n y s
unfolding flips holds_lowest Sub
flips-wide n w y s h bound p =
    rw (
      size-wide n w (bit_and s y) h (λ i q.
          has_below n y i bound (sub_inside y s i q)),
      size-wide n w (less y s) h (λ i q.
          has_below n y i bound (sub_less y s i q)),
      lowest-wide n w y h bound p,
    )
