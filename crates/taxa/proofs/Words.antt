-- What the machine's operations on a word say of the set that it stands for.
-- Assumes nothing.
use mathlib.Core.Path.{◌≡◌, refl, sym, ap, ap₂, ◌∙◌}
use mathlib.Core.Logic.{◌⊎◌, inl, inr}
use mathlib.Core.Bool.{true, false}
use Prim.Native.Nat.{ℕ, zero, suc, ◌+◌, ◌-◌, ◌/◌, ◌%◌, ◌^◌, ◌<◌}
use native.Mathlib.Nat.{pow-suc}
use native.Mathlib.Omega.{arith}
use lib.Arith.{lt-one}
use lib.Count.{ones, ones_step}
use lib.Dec.{eqb, ltb, leb}
use lib.Pow.{pow_pos, pow_mono}
use borrow.Author.Tests.{leb-true, leb-false, lt-ltb, le-ltb}
use Rattle.taxa.specs.Sets.{tally, has, size, full}
use Rattle.taxa.proofs.Bools.{either}
use Rattle.taxa.proofs.Sets.{low2, has-low, has_suc}

-- ---- the number of ones is the number of members
size-half : (k s : ℕ) → size (suc k) s ≡ tally (has s 0) + size k (s / 2)
unfolding size
size-half zero s = refl
size-half (suc k) s =
    ap₂ ◌+◌ (ap tally (has_suc s k)) (size-half k s) ∙ omega arith

tally-low : (y : ℕ) → y % 2 ≡ tally (has y 0)
tally-low y = go (low2 y)
  where
    go : (y % 2 ≡ 0) ⊎ (y % 2 ≡ 1) → y % 2 ≡ tally (has y 0)
    go (inl e) = e ∙ sym (ap tally (has-low y ∙ ap (λ (x : ℕ). eqb x 1) e))
    go (inr e) = e ∙ sym (ap tally (has-low y ∙ ap (λ (x : ℕ). eqb x 1) e))

ones_zero : ones 0 ≡ 0
unfolding ones
ones_zero = refl

pub ones_size : (k y : ℕ) → y < 2 ^ k → ones y ≡ size k y
unfolding size
ones_size zero y h = ap ones (lt-one h) ∙ ones_zero
ones_size (suc k) y h =
    ones_step y
    ∙ ap₂ ◌+◌ (tally-low y) (ones_size k (y / 2) (omega (arith, pow-suc 2 k)))
    ∙ sym (size-half k y)

-- ---- all n taxa: twice the highest bit, less one, without a step past the word
pub full-fits : (h w : ℕ) → h < w → 2 ^ h - 1 + 2 ^ h < 2 ^ w
full-fits h w l = omega (arith, pow_mono {i = suc h} l, pow-suc 2 h, pow_pos h)

pub full_is : (n : ℕ) → 0 < n → 2 ^ (n - 1) - 1 + 2 ^ (n - 1) ≡ full n
full_is zero l = absurd (omega arith)
full_is (suc k) l =
    let e : suc k - 1 ≡ k = omega arith in
    rw e (omega (arith, pow-suc 2 k, pow_pos k))

pub within-is : (n y : ℕ) → leb y (full n) ≡ ltb y (2 ^ n)
within-is n y = go (either (leb y (full n)))
  where
    go : (leb y (full n) ≡ true) ⊎ (leb y (full n) ≡ false) → leb y (full n) ≡ ltb y (2 ^ n)
    go (inl e) = e ∙ sym (lt-ltb y (2 ^ n) (omega (arith, leb-true y (full n) e, pow_pos n)))
    go (inr e) = e ∙ sym (le-ltb y (2 ^ n) (omega (arith, leb-false y (full n) e, pow_pos n)))
