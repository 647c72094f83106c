-- Fewer than four taxa never change: over them any two valid tables of the same
-- n have the same splits.
-- Of the two sides of such a split one is a single taxon, and the row of that
-- taxon makes the same split in every tree. Assumes nothing.
use mathlib.Core.Path.{◌≡◌, refl, sym, ap, ◌∙◌}
use mathlib.Core.Logic.{◌⊎◌, inl, inr}
use mathlib.Core.Bool.{Bool, true, false}
use mathlib.Core.List.{List}
use Prim.Native.Nat.{ℕ, ◌^◌, ◌≤◌, ◌<◌}
use native.Mathlib.Omega.{arith}
use lib.Bits.{bit_and}
use lib.Dec.{ltb}
use borrow.Author.Tests.{ltb-true, ltb-false}
use Rattle.taxa.specs.Sets.{pick, less, some, size, lowest, Sub}
use Rattle.taxa.proofs.Bools.{either, and_left, and_right}
use Rattle.taxa.proofs.Sets.{sub_inside, sub_less, sub_lt, some-lowest, lowest_lt}
use Rattle.taxa.proofs.Sizes.{sub_refl, size_cut, size_one}
use Rattle.tree.specs.Tree.{Valid}
use Rattle.tree.specs.Lists.{mem}
use Rattle.tree.specs.Splits.{side, meets, split_by, flips, split, splits, dist_by, dist}
use Rattle.tree.proofs.Lists.{lacks-none}
use Rattle.tree.proofs.Choices.{twice_by, out_of}
use Rattle.tree.proofs.SideWritten.{flips_fair}
use Rattle.tree.proofs.SplitLaws.{kept_out}
use Rattle.tree.proofs.Growth.{leaf_in}

module _ (n y : ℕ) (bound : y < 2 ^ n) (few : size n y < 4) where
  -- a split that is kept is that of one taxon
  single : (s : ℕ) → meets y s ≡ true
      → (i : ℕ) × (i < n) × (split n y s ≡ split n y (2 ^ i))
  unfolding meets split_by
  single s kept = go (either (ltb (size n (bit_and s y)) 2))
    where
      of_side : (b : Bool) (x : ℕ) → x ≡ pick b (less y s) (bit_and s y)
          → Sub x y → some x ≡ true → size n x ≤ 1
          → (i : ℕ) × (i < n) × (split n y s ≡ split n y (2 ^ i))
      of_side b x e sub there one =
          let low = sub_lt n x y sub bound in
          let own = size_one n x (lowest n x) low (some-lowest n x low there) one in (
            lowest n x,
            lowest_lt n x low there,
            sym (twice_by flips (λ m z r. b) flips_fair n y y (sub_refl y) bound s)
                ∙ ap (split n y) (sym e ∙ own),
          )

      go : (ltb (size n (bit_and s y)) 2 ≡ true) ⊎ (ltb (size n (bit_and s y)) 2 ≡ false)
          → (i : ℕ) × (i < n) × (split n y s ≡ split n y (2 ^ i))
      go (inl h) =
          of_side false (bit_and s y) refl (sub_inside y s)
          (and_left (some (bit_and s y)) (some (less y s)) kept)
          (omega (arith, ltb-true (size n (bit_and s y)) 2 h))
      go (inr h) =
          of_side true (less y s) refl (sub_less y s)
          (and_right (some (bit_and s y)) (some (less y s)) kept)
          (omega (arith, few, size_cut n y s, ltb-false (size n (bit_and s y)) 2 h))

  -- so the splits of one tree are all on the list of another
  shared : (t u : List ℕ) → Valid n u → (x : ℕ) → mem x (splits n t y) ≡ true
      → mem x (splits n u y) ≡ true
  shared t u valid x h =
      let w = out_of flips n t y x h in
      let v = single (side n t w.0) w.2 in
      let e : x ≡ split n y (2 ^ v.0) = w.3 ∙ v.2 in
      let kept = (kept_out n t y bound x h).kept in
      ap (λ (z : ℕ). mem z (splits n u y)) e
      ∙ leaf_in y v.0 valid bound v.1 (ap some (sym e) ∙ kept)

  pub few_same : {t u : List ℕ} → Valid n t → Valid n u → dist n t u y ≡ 0
  unfolding dist_by
  few_same {t} {u} first second = omega (
    arith,
    lacks-none (splits n t y) (splits n u y) (shared t u second),
    lacks-none (splits n u y) (splits n t y) (shared u t first),
  )
