-- A set meets Y, or it misses Y. Assumes nothing.
use mathlib.Core.Path.{◌≡◌, refl, sym, ap, ap₂, ◌∙◌}
use mathlib.Core.Logic.{inl, inr}
use mathlib.Core.Bool.{Bool, true, false, ◌&&◌, true≢false}
use Prim.Native.Nat.{ℕ, ◌%◌, ◌^◌, ◌<◌}
use native.Mathlib.Nat.{lt_of_le_of_lt}
use lib.Bits.{bit_and, and_le_r}
use lib.Dec.{ltb}
use borrow.Author.Tests.{lt-ltb}
use Rattle.taxa.specs.Sets.{has, some, lowest}
use Rattle.taxa.proofs.Bools.{Either, either, and_left, and_right, and_true_l, and_false_r}
use Rattle.taxa.proofs.Sets.{has_and, has_mod, has-none, has_below, ext, some_false, some-lowest}

-- no member of Y is in s
abbrev pub Miss : ℕ → ℕ → Type 0
Miss Y s = (i : ℕ) → has Y i ≡ true → has s i ≡ false

-- some member of Y is in s
pub record Met (Y s : ℕ) : Type 0 where
  pub taxon : ℕ
  pub in_Y : has Y taxon ≡ true
  pub in_s : has s taxon ≡ true

-- ---- by the test
pub some-met : (n Y s : ℕ) → Y < 2 ^ n → some (bit_and s Y) ≡ true → Met Y s
some-met n Y s b h =
    let i = lowest n (bit_and s Y) in
    let w : (has s i && has Y i) ≡ true
    = sym (has_and s Y i) ∙ some-lowest n (bit_and s Y) (lt_of_le_of_lt (and_le_r s Y) b) h in
    record {
      taxon = i;
      in_Y = and_right (has s i) (has Y i) w;
      in_s = and_left (has s i) (has Y i) w;
    }

pub none_miss : (Y s : ℕ) → some (bit_and s Y) ≡ false → Miss Y s
none_miss Y s h i w = go (has s i) refl
  where
    go : (b : Bool) → has s i ≡ b → b ≡ false
    go false e = refl
    go true e =
        let no : has (bit_and s Y) i ≡ false
        = ap (λ (x : ℕ). has x i) (some_false (bit_and s Y) h) ∙ has-none i in
        absurd (true≢false (sym (has_and s Y i ∙ ap₂ ◌&&◌ e w) ∙ no))

-- where Y is below 2 ^ n, what a set has at n and above does not count
pub meet_below : (n s Y : ℕ) → Y < 2 ^ n → bit_and (s % 2 ^ n) Y ≡ bit_and s Y
meet_below n s Y bound = ext (bit_and (s % 2 ^ n) Y) (bit_and s Y) (λ i.
    has_and (s % 2 ^ n) Y i
    ∙ ap (λ (b : Bool). b && has Y i) (has_mod n s i)
    ∙ go i (either (has Y i))
    ∙ sym (has_and s Y i))
  where
    go : (i : ℕ) → Either (has Y i) → (ltb i n && has s i && has Y i) ≡ (has s i && has Y i)
    go i (inl h) =
        ap (λ (b : Bool). b && has Y i)
        (and_true_l (ltb i n) (has s i) (lt-ltb i n (has_below n Y i bound h)))
    go i (inr h) = rw h (and_false_r (ltb i n && has s i) ∙ sym (and_false_r (has s i)))
