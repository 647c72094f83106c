-- Laws of a row's split over y as it is written. Most hold for every fair
-- choice of side and are taken here for the one that is made. Assumes nothing.
use mathlib.Core.Path.{◌≡◌, sym, ap, ap₂, ◌∙◌}
use mathlib.Core.Logic.{◌⊎◌, inl, inr}
use mathlib.Core.Bool.{Bool, true, false, ◌&&◌, true≢false}
use mathlib.Core.List.{List}
use Prim.Native.Nat.{ℕ, ◌^◌, ◌≤◌, ◌<◌}
use native.Mathlib.Omega.{arith}
use lib.Dec.{ltb}
use lib.Bits.{bit_and, and_zero_r}
use lib.Pow.{pow_pos}
use borrow.Author.Tests.{lt-ltb}
use Rattle.taxa.specs.Sets.{pick, has, less, some, Sub}
use Rattle.taxa.proofs.Bools.{either, and_true_l, ◌⊕◌, xor_cancel}
use Rattle.taxa.proofs.Sets.{has_mod, has_below, some_zero, some_false}
use Rattle.tree.specs.Tree.{lo, rows, part}
use Rattle.tree.specs.Lists.{mem, Asc}
use Rattle.tree.specs.Splits.{side, meets, flips, split_by, split, splits}
use Rattle.tree.proofs.Choices.{Like, same_by, some_by, like_by, twice_by, num_by, asc_by}
use Rattle.tree.proofs.Choices.{into, out_of}
use Rattle.tree.proofs.SideWritten.{flips_fair, flips-wide}
use Rattle.tree.proofs.Bridges.{Table}
use Rattle.tree.proofs.Colourings.{Parts, parts_unique, row-parts}

-- ---- two splits have one number exactly when they are the same pair
pub split_eq : (n y s s' : ℕ) (bound : y < 2 ^ n) (d : Bool) → Like y d s s'
    → split n y s ≡ split n y s'
split_eq = like_by flips flips_fair

pub split_same : (n y s s' : ℕ) → split n y s ≡ split n y s'
    → (d : Bool) × Like y d s s'
split_same = same_by flips

-- so equal splits part the same pairs of taxa
pub split-pairs : (n y s s' : ℕ) → split n y s ≡ split n y s' → (i j : ℕ)
    → has y i ≡ true → has y j ≡ true
    → (has s i ⊕ has s j) ≡ (has s' i ⊕ has s' j)
split-pairs n y s s' e i j hi hj =
    let w = split_same n y s s' e in
    ap₂ ◌⊕◌ (w.1 i hi) (w.1 j hj) ∙ xor_cancel w.0 (has s' i) (has s' j)

-- cut down twice is cut down once
pub split-split : (n y₁ y₂ : ℕ) → Sub y₁ y₂ → y₁ < 2 ^ n → (s : ℕ)
    → split n y₁ (split n y₂ s) ≡ split n y₁ s
split-split = twice_by flips flips flips_fair

-- ---- a number is 0 exactly when no split is kept
pub some-meets : (n y s : ℕ) → y < 2 ^ n → some (split n y s) ≡ true
    → meets y s ≡ true
some-meets = flips_fair.kept

pub meets-some : (n y s : ℕ) → meets y s ≡ true → some (split n y s) ≡ true
meets-some = some_by flips

pub no_split : (n y s : ℕ) → y < 2 ^ n → meets y s ≡ false → split n y s ≡ 0
no_split n y s bound h = go (either (some (split n y s)))
  where
    go : (some (split n y s) ≡ true) ⊎ (some (split n y s) ≡ false)
        → split n y s ≡ 0
    go (inl e) = absurd (true≢false (sym (some-meets n y s bound e) ∙ h))
    go (inr e) = some_false (split n y s) e

-- over an empty partition no set makes a split
pub nothing-split : (n s : ℕ) → split n 0 s ≡ 0
unfolding meets
nothing-split n s =
    no_split n 0 s (pow_pos n) (ap (λ (b : Bool). b && some (less 0 s))
    (ap some (and_zero_r s) ∙ some_zero))

-- ---- the number does not depend on the width in which the taxa are counted
pub split-wide : (n w y s : ℕ) → n ≤ w → y < 2 ^ n → split w y s ≡ split n y s
unfolding split_by
split-wide n w y s h bound = go (either (some y))
  where
    go : (some y ≡ true) ⊎ (some y ≡ false) → split w y s ≡ split n y s
    go (inl p) =
        ap (λ (b : Bool). pick b (less y s) (bit_and s y))
        (flips-wide n w y s h bound p)
    go (inr p) =
        let e = some_false y p in rw e (nothing-split w s ∙ sym (nothing-split n s))

-- ---- the number of a row, from any set that the row alone leaves
abbrev pub num : ℕ → List ℕ → ℕ → ℕ → ℕ
num = num_by flips

pub side-has : (n : ℕ) (t : List ℕ) (r i : ℕ) → i < n
    → has (side n t r) i ≡ has (part n t r (lo t r)) i
unfolding side
side-has n t r i h =
    has_mod n (part n t r (lo t r)) i
    ∙ and_true_l (ltb i n) (has (part n t r (lo t r)) i) (lt-ltb i n h)

pub num_of : {n : ℕ} {t : List ℕ} → 4 ≤ n → Table n t → (y r s : ℕ) → y < 2 ^ n
    → r < rows n → Parts n t r s → num n t y r ≡ split n y s
num_of {n} {t} big tab y r s bound h p =
    let u = parts_unique tab.connected big (row-parts big tab r h) p in
    split_eq n y (side n t r) s bound u.0 (λ i q.
    let l : i < n = has_below n y i bound q in
    side-has n t r i l ∙ u.1 i (omega arith))

-- ---- members of the list, by rows
-- a row whose split over y is x
pub record KeptRow (n : ℕ) (t : List ℕ) (y x : ℕ) : Type 0 where
  pub row : ℕ
  pub lt : row < rows n
  pub kept : some x ≡ true
  pub is : x ≡ num n t y row

module _ (n : ℕ) (t : List ℕ) (y : ℕ) (bound : y < 2 ^ n) where
  pub kept_in : (x r : ℕ) → r < rows n → some x ≡ true → x ≡ num n t y r
      → mem x (splits n t y) ≡ true
  kept_in x r h p e =
      ap (λ (z : ℕ). mem z (splits n t y)) e
      ∙ into flips n t y r h
      (some-meets n y (side n t r) bound (ap some (sym e) ∙ p))

  pub kept_out : (x : ℕ) → mem x (splits n t y) ≡ true → KeptRow n t y x
  kept_out x h =
      let w = out_of flips n t y x h in
      record {
        row = w.0;
        lt = w.1;
        kept = ap some w.3 ∙ meets-some n y (side n t w.0) w.2;
        is = w.3;
      }

pub splits_asc : (n : ℕ) (t : List ℕ) (y : ℕ) → Asc (splits n t y)
splits_asc = asc_by flips

-- zero is never a split's number
pub zero_never : (n : ℕ) (t : List ℕ) (y : ℕ) → y < 2 ^ n
    → mem 0 (splits n t y) ≡ true → ⊥
zero_never n t y bound h =
    true≢false (sym (kept_out n t y bound 0 h).kept ∙ some_zero)
