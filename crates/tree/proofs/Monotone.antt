-- Demand 3: the distance over a set of taxa is no more than over a larger set,
-- for any two tables. Nothing about trees is used. The splits over the two sets
-- may be written by two choices of side. With one set for both, this says that
-- the choice does not change the distance.
-- A split over the smaller set that the one table has and the other lacks
-- comes from one over the larger set, by the same row; the other table
-- lacks that one too, or cutting it down would give the first. Different ones
-- come from different ones, since cutting down gives them back.
-- Assumes nothing.
use mathlib.Core.Path.{◌≡◌, refl, sym, ap, ap₂, ◌∙◌}
use mathlib.Core.Logic.{◌⊎◌, inl, inr, ◌↔◌}
use mathlib.Core.Bool.{true, false, true≢false}
use mathlib.Core.List.{List, [], ◌∷◌}
use Prim.Native.Nat.{ℕ, ◌^◌, ◌≤◌, ◌<◌}
use native.Mathlib.Nat.{le_refl, le_antisymm, add-le-add}
use native.Mathlib.Omega.{arith}
use lib.Dec.{eqb}
use borrow.Author.Tests.{eqb-true, eq-eqb}
use Rattle.taxa.specs.Sets.{some, Sub}
use Rattle.taxa.proofs.Bools.{either, or_left, or_right, bool_eq}
use Rattle.taxa.proofs.Sets.{sub_lt}
use Rattle.taxa.proofs.Sizes.{tally_le, sub_refl}
use Rattle.tree.specs.Lists.{mem, lacks}
use Rattle.tree.specs.Splits.{side, Choice, split_by, splits_by, dist_by}
use Rattle.tree.specs.Splits.{holds_lowest, flips, splits, dist}
use Rattle.tree.specs.Splits.{distances_by, distances, unchanged, Gains}
use Rattle.tree.proofs.Lists.{lacks_le, lacks-none, none-lacks, asc_eq}
use Rattle.tree.proofs.Choices.{Fair, some_by, twice_by, meets_mono, asc_by, into, out_of}
use Rattle.tree.proofs.SideWritten.{lowest_fair, flips_fair}
use Rattle.tree.proofs.SplitLaws.{splits_asc}

-- ---- by any two choices of side, c for the smaller set and c' for the larger
module _
    (c c' : Choice) (fair : Fair c)
    (n y₁ y₂ : ℕ) (sub : Sub y₁ y₂) (bound₂ : y₂ < 2 ^ n)
  where
    bound : y₁ < 2 ^ n
    bound = sub_lt n y₁ y₂ sub bound₂

    lifted : (t u : List ℕ) (x : ℕ) → mem x (splits_by c n t y₁) ≡ true
        → mem x (splits_by c n u y₁) ≡ false
        → (z : ℕ) × (mem z (splits_by c' n t y₂) ≡ true)
        × (mem z (splits_by c' n u y₂) ≡ false) × (split_by c n y₁ z ≡ x)
    lifted t u x h lack =
        let w = out_of c n t y₁ x h in
        let s = side n t w.0 in
        let z = split_by c' n y₂ s in
        let back : split_by c n y₁ z ≡ x
        = twice_by c c' fair n y₁ y₂ sub bound s ∙ sym w.3 in (
          z,
          into c' n t y₂ w.0 w.1 (meets_mono y₁ y₂ s sub w.2),
          none z back (ap some w.3 ∙ some_by c n y₁ s w.2),
          back,
        )
      where
        none : (z : ℕ) → split_by c n y₁ z ≡ x → some x ≡ true
            → mem z (splits_by c' n u y₂) ≡ false
        none z back nonzero = go (either (mem z (splits_by c' n u y₂)))
          where
            go : (mem z (splits_by c' n u y₂) ≡ true) ⊎ (mem z (splits_by c' n u y₂) ≡ false)
                → mem z (splits_by c' n u y₂) ≡ false
            go (inr e) = e
            go (inl e) =
                let w = out_of c' n u y₂ z e in
                let s = side n u w.0 in
                let same : split_by c n y₁ s ≡ x
                = sym (twice_by c c' fair n y₁ y₂ sub bound s)
                ∙ ap (split_by c n y₁) (sym w.3) ∙ back in
                let there = into c n u y₁ w.0 w.1
                (fair.kept n y₁ s bound (ap some same ∙ nonzero)) in
                absurd (true≢false (sym there
                ∙ ap (λ (v : ℕ). mem v (splits_by c n u y₁)) same ∙ lack))

    lacks_mono : (t u : List ℕ)
        → lacks (splits_by c n t y₁) (splits_by c n u y₁)
        ≤ lacks (splits_by c' n t y₂) (splits_by c' n u y₂)
    lacks_mono t u =
        lacks_le (split_by c n y₁) (splits_by c n t y₁) (splits_by c n u y₁)
        (splits_by c' n t y₂) (splits_by c' n u y₂) (asc_by c n t y₁) (lifted t u)

    by_mono : (t u : List ℕ) → dist_by c n t u y₁ ≤ dist_by c' n t u y₂
    unfolding dist_by
    by_mono t u = add-le-add (lacks_mono t u) (lacks_mono u t)

-- ---- the distance is the same by every fair choice of side
module _
    (c c' : Choice) (fair : Fair c) (fair' : Fair c')
    (n : ℕ) (t u : List ℕ)
  where
    pub by_any : (y : ℕ) → y < 2 ^ n → dist_by c n t u y ≡ dist_by c' n t u y
    by_any y bound =
        le_antisymm
        (by_mono c c' fair n y y (sub_refl y) bound t u)
        (by_mono c' c fair' n y y (sub_refl y) bound t u)

    each_any : (ys : List ℕ) → ((y : ℕ) → mem y ys ≡ true → y < 2 ^ n)
        → distances_by c n t u ys ≡ distances_by c' n t u ys
    unfolding distances_by mem
    each_any [] h = refl
    each_any (y ∷ ys) h =
        ap₂ ◌∷◌
        (by_any y (h y (or_left (eqb y y) (mem y ys) (eq-eqb y y refl))))
        (each_any ys (λ z p. h z (or_right (eqb z y) (mem z ys) p)))

-- and so what it was when the side without the lowest taxon of y was written
pub dist-lowest : (n : ℕ) (t u : List ℕ) (y : ℕ) → y < 2 ^ n
    → dist n t u y ≡ dist_by holds_lowest n t u y
dist-lowest = by_any flips holds_lowest flips_fair lowest_fair

pub distances-lowest : (n : ℕ) (t u ys : List ℕ)
    → ((y : ℕ) → mem y ys ≡ true → y < 2 ^ n)
    → distances n t u ys ≡ distances_by holds_lowest n t u ys
distances-lowest = each_any flips holds_lowest flips_fair lowest_fair

-- ---- with the side that is written
module _ (n y₁ y₂ : ℕ) (sub : Sub y₁ y₂) (bound₂ : y₂ < 2 ^ n) where
  pub dist_mono : (t u : List ℕ) → dist n t u y₁ ≤ dist n t u y₂
  dist_mono = by_mono flips flips flips_fair n y₁ y₂ sub bound₂

  -- so more species never turn changed into same
  pub same_mono : (t u : List ℕ) → dist n t u y₂ ≡ 0 → dist n t u y₁ ≡ 0
  same_mono t u h = omega (arith, dist_mono t u)

-- ---- a list of partitions
-- where partitions only gain species, the number that are the same never rises
pub unchanged_mono : (n : ℕ) (t u ys zs : List ℕ) → Gains n ys zs
    → unchanged n t u zs ≤ unchanged n t u ys
unfolding unchanged
unchanged_mono n t u [] [] g = le_refl 0
unchanged_mono n t u [] (z ∷ zs) g = absurd g
unchanged_mono n t u (y ∷ ys) [] g = absurd g
unchanged_mono n t u (y ∷ ys) (z ∷ zs) g =
    add-le-add
    (tally_le (eqb (dist n t u z) 0) (eqb (dist n t u y) 0) (λ h.
    eq-eqb (dist n t u y) 0 (same_mono n y z g.0 g.1 t u (eqb-true (dist n t u z) 0 h))))
    (unchanged_mono n t u ys zs g.2)

-- ---- the same exactly when the induced split sets are equal
pub same_iff : (n : ℕ) (t u : List ℕ) (y : ℕ)
    → (dist n t u y ≡ 0) ↔ (splits n t y ≡ splits n u y)
unfolding dist_by
same_iff n t u y = (
  λ h. asc_eq (splits n t y) (splits n u y) (splits_asc n t y) (splits_asc n u y) (λ z.
      bool_eq (mem z (splits n t y)) (mem z (splits n u y))
      (none-lacks (splits n t y) (splits n u y) (omega arith) z)
      (none-lacks (splits n u y) (splits n t y) (omega arith) z)),
  λ h. omega (
    arith,
    lacks-none (splits n t y) (splits n u y) (λ z p. ap (mem z) (sym h) ∙ p),
    lacks-none (splits n u y) (splits n t y) (λ z p. ap (mem z) h ∙ p),
  ),
)
