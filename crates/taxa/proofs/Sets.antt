-- Membership: of the bit operations, of a power of two, of all bits below n;
-- sets are equal by their members; the lowest member.
-- Assumes nothing.
use mathlib.Core.Path.{◌≡◌, refl, sym, ap, ap₂, ◌∙◌, subst}
use mathlib.Core.Logic.{◌⊎◌, inl, inr}
use mathlib.Core.Bool.{Bool, true, false, not, ◌&&◌, ◌||◌, true≢false, false≢true}
use Prim.Native.Nat.{ℕ, zero, suc, ◌-◌, ◌/◌, ◌%◌, ◌^◌, ◌≤◌, ◌<◌}
use native.Mathlib.Nat.{mod-lt, mod-eq_of_lt, div-one, zero-div, div-add-mod', zero-lt-suc, le_refl}
use native.Mathlib.Nat.{pow-suc, mul-div_cancel, mul-mod_left, div-div-eq-div-mul, pow-succ'}
use native.Mathlib.Omega.{arith}
use lib.Arith.{lt-one, bin_ind, digits_div, digits_mod, mod-mul}
use lib.Bits.{bit_and, bit_or, bit_xor, and_shr, or_shr, xor_shr, and_mod, or_mod, xor_mod}
use lib.Count.{count_trailing_zeros, under}
use lib.Dec.{eqb, ltb, leb-zero, leb-suc-zero, leb-suc-suc, eqb-zero-suc, eqb-suc-zero, eqb-suc-suc}
use lib.Pow.{pow_pos, ones_split}
use borrow.Author.Tests.{ltb-true, ltb-false, eqb-true, ne_eqb, not-false}
use Rattle.taxa.proofs.Bools.{either, and_left, and_right, and_imp, ◌⊕◌}
use Rattle.taxa.specs.Sets.{bit, has, add, less, some, lowest, Sub}

-- a digit is 0 or 1
pub low2 : (x : ℕ) → (x % 2 ≡ 0) ⊎ (x % 2 ≡ 1)
low2 x = go (x % 2) (mod-lt x (zero-lt-suc 1))
  where
    go : (d : ℕ) → d < 2 → (d ≡ 0) ⊎ (d ≡ 1)
    go zero h = inl refl
    go (suc zero) h = inr refl
    go (suc (suc d)) h = absurd (omega arith)

-- an operation on numbers of one digit, f, is an operation on tests, g
OnDigits : (ℕ → ℕ → ℕ) → (Bool → Bool → Bool) → Type 0
OnDigits f g = (x y : ℕ) → (x ≡ 0) ⊎ (x ≡ 1) → (y ≡ 0) ⊎ (y ≡ 1)
    → eqb (f x y) 1 ≡ g (eqb x 1) (eqb y 1)

on_digits : (f : ℕ → ℕ → ℕ) (g : Bool → Bool → Bool) → eqb (f 0 0) 1 ≡ g false false
    → eqb (f 0 1) 1 ≡ g false true
    → eqb (f 1 0) 1 ≡ g true false → eqb (f 1 1) 1 ≡ g true true → OnDigits f g
unfolding OnDigits
on_digits f g p00 p01 p10 p11 x y (inl p) (inl q) = rw (p, q) p00
on_digits f g p00 p01 p10 p11 x y (inl p) (inr q) = rw (p, q) p01
on_digits f g p00 p01 p10 p11 x y (inr p) (inl q) = rw (p, q) p10
on_digits f g p00 p01 p10 p11 x y (inr p) (inr q) = rw (p, q) p11

-- one law for the three operations
module _ (f : ℕ → ℕ → ℕ) (g : Bool → Bool → Bool) (d : OnDigits f g)
    (shr : (a b k : ℕ) → f a b / 2 ^ k ≡ f (a / 2 ^ k) (b / 2 ^ k))
    (low : (a b k : ℕ) → f a b % 2 ^ k ≡ f (a % 2 ^ k) (b % 2 ^ k)) where
  has_op : (a b i : ℕ) → has (f a b) i ≡ g (has a i) (has b i)
  unfolding has OnDigits
  has_op a b i =
      ap (λ (x : ℕ). eqb (x % 2) 1) (shr a b i)
      ∙ ap (λ (x : ℕ). eqb x 1) (low (a / 2 ^ i) (b / 2 ^ i) 1)
      ∙ d (bit a i) (bit b i) (low2 (a / 2 ^ i)) (low2 (b / 2 ^ i))

pub has_and : (a b i : ℕ) → has (bit_and a b) i ≡ (has a i && has b i)
has_and = has_op bit_and ◌&&◌ (on_digits bit_and ◌&&◌ refl refl refl refl) and_shr and_mod

pub has_or : (a b i : ℕ) → has (bit_or a b) i ≡ (has a i || has b i)
has_or = has_op bit_or ◌||◌ (on_digits bit_or ◌||◌ refl refl refl refl) or_shr or_mod

pub has_xor : (a b i : ℕ) → has (bit_xor a b) i ≡ (has a i ⊕ has b i)
has_xor = has_op bit_xor ◌⊕◌ (on_digits bit_xor ◌⊕◌ refl refl refl refl) xor_shr xor_mod

-- the digit at 0, and those above it
pub has-low : (s : ℕ) → has s 0 ≡ eqb (s % 2) 1
unfolding has
has-low s = ap (λ (x : ℕ). eqb (x % 2) 1) (div-one s)

pub has_suc : (s i : ℕ) → has s (suc i) ≡ has (s / 2) i
unfolding has
has_suc s i = ap (λ (x : ℕ). eqb (x % 2) 1) (ap (λ (x : ℕ). s / x) (pow-succ' 2 i)
    ∙ sym (div-div-eq-div-mul s 2 (2 ^ i)))

pub has-none : (i : ℕ) → has 0 i ≡ false
unfolding has
has-none i = ap (λ (x : ℕ). eqb (x % 2) 1) (zero-div (2 ^ i))

-- a power of two has the one member
half_pow : (i : ℕ) → 2 ^ suc i / 2 ≡ 2 ^ i
half_pow i = ap (λ (x : ℕ). x / 2) (pow-suc 2 i) ∙ mul-div_cancel (2 ^ i) (zero-lt-suc 1)

even_pow : (i : ℕ) → 2 ^ suc i % 2 ≡ 0
even_pow i = ap (λ (x : ℕ). x % 2) (pow-suc 2 i) ∙ mul-mod_left (2 ^ i) 2

pub has_pow : (i j : ℕ) → has (2 ^ i) j ≡ eqb i j
has_pow zero zero = has-low 1
has_pow zero (suc j) = has_suc 1 j ∙ has-none j ∙ sym (eqb-zero-suc j)
has_pow (suc i) zero = has-low (2 ^ suc i) ∙ ap (λ (x : ℕ). eqb x 1) (even_pow i)
    ∙ sym (eqb-suc-zero i)
has_pow (suc i) (suc j) = has_suc (2 ^ suc i) j ∙ ap (λ (x : ℕ). has x j) (half_pow i) ∙ has_pow i j
    ∙ sym (eqb-suc-suc i j)

-- the members below n
half_mod : (s n : ℕ) → s % 2 ^ suc n / 2 ≡ s / 2 % 2 ^ n
half_mod s n =
    ap (λ (x : ℕ). s % x / 2) (pow-suc 2 n)
    ∙ ap (λ (x : ℕ). x / 2) (mod-mul s (pow_pos n) (zero-lt-suc 1))
    ∙ digits_div (s / 2 % 2 ^ n) (mod-lt s (zero-lt-suc 1))

odd_mod : (s n : ℕ) → s % 2 ^ suc n % 2 ≡ s % 2
odd_mod s n =
    ap (λ (x : ℕ). s % x % 2) (pow-suc 2 n)
    ∙ ap (λ (x : ℕ). x % 2) (mod-mul s (pow_pos n) (zero-lt-suc 1))
    ∙ digits_mod (s / 2 % 2 ^ n) (mod-lt s (zero-lt-suc 1))

pub has_mod : (n s i : ℕ) → has (s % 2 ^ n) i ≡ (ltb i n && has s i)
has_mod zero s i = ap (λ (x : ℕ). has x i) (lt-one (mod-lt s (pow_pos 0))) ∙ has-none i
    ∙ ap (λ (b : Bool). b && has s i) (sym (leb-suc-zero i))
has_mod (suc n) s zero =
    has-low (s % 2 ^ suc n) ∙ ap (λ (x : ℕ). eqb x 1) (odd_mod s n) ∙ sym (has-low s)
    ∙ ap (λ (b : Bool). b && has s 0) (sym (leb-suc-suc 0 n ∙ leb-zero n))
has_mod (suc n) s (suc i) =
    has_suc (s % 2 ^ suc n) i ∙ ap (λ (x : ℕ). has x i) (half_mod s n) ∙ has_mod n (s / 2) i
    ∙ ap₂ ◌&&◌ (sym (leb-suc-suc (suc i) n)) (sym (has_suc s i))

-- all below n
ones_odd : (n : ℕ) → (2 ^ suc n - 1) % 2 ≡ 1
ones_odd n = ap (λ (x : ℕ). (2 ^ x - 1) % 2) (sym (native.Mathlib.Numerals.add-one n))
    ∙ ap (λ (x : ℕ). x % 2) (ones_split n 1) ∙ digits_mod (2 ^ n - 1) (le_refl 2)

ones_half : (n : ℕ) → (2 ^ suc n - 1) / 2 ≡ 2 ^ n - 1
ones_half n = ap (λ (x : ℕ). (2 ^ x - 1) / 2) (sym (native.Mathlib.Numerals.add-one n))
    ∙ ap (λ (x : ℕ). x / 2) (ones_split n 1) ∙ digits_div (2 ^ n - 1) (le_refl 2)

pub has_ones : (n i : ℕ) → has (2 ^ n - 1) i ≡ ltb i n
has_ones zero i = has-none i ∙ sym (leb-suc-zero i)
has_ones (suc n) zero = has-low (2 ^ suc n - 1) ∙ ap (λ (x : ℕ). eqb x 1) (ones_odd n)
    ∙ sym (leb-suc-suc 0 n ∙ leb-zero n)
has_ones (suc n) (suc i) = has_suc (2 ^ suc n - 1) i ∙ ap (λ (x : ℕ). has x i) (ones_half n)
    ∙ has_ones n i ∙ sym (leb-suc-suc (suc i) n)

-- ---- sets with the same members are equal
digit_eq : (x y : ℕ) → eqb (x % 2) 1 ≡ eqb (y % 2) 1 → x % 2 ≡ y % 2
digit_eq x y = go (x % 2) (y % 2) (low2 x) (low2 y)
  where
    go : (p q : ℕ) → (p ≡ 0) ⊎ (p ≡ 1) → (q ≡ 0) ⊎ (q ≡ 1) → eqb p 1 ≡ eqb q 1 → p ≡ q
    go p q (inl a) (inl b) e = a ∙ sym b
    go p q (inr a) (inr b) e = a ∙ sym b
    go p q (inl a) (inr b) e = absurd (false≢true (rw (a, b) at e))
    go p q (inr a) (inl b) e = absurd (true≢false (rw (a, b) at e))

Same : ℕ → ℕ → Type 0
Same a b = (i : ℕ) → has a i ≡ has b i

same_half : (a b : ℕ) → Same a b → Same (a / 2) (b / 2)
unfolding Same
same_half a b h i = sym (has_suc a i) ∙ h (suc i) ∙ has_suc b i

same_low : (a b : ℕ) → Same a b → a % 2 ≡ b % 2
unfolding Same
same_low a b h = digit_eq a b (sym (has-low a) ∙ h 0 ∙ has-low b)

same_join : (a b : ℕ) → a / 2 ≡ b / 2 → a % 2 ≡ b % 2 → a ≡ b
same_join a b p q = omega (arith, div-add-mod' a 2, div-add-mod' b 2)

empty_zero : (a : ℕ) → Same 0 a → 0 ≡ a
empty_zero =
    bin_ind (λ (a : ℕ). Same 0 a → 0 ≡ a) (λ h. refl)
    (λ a ih h. same_join 0 a (ih (same_half 0 a h)) (same_low 0 a h))

same_eq : (a b : ℕ) → Same a b → a ≡ b
same_eq =
    bin_ind (λ (a : ℕ). (b : ℕ) → Same a b → a ≡ b) empty_zero
    (λ a ih b h. same_join a b (ih (b / 2) (same_half a b h)) (same_low a b h))

pub ext : (a b : ℕ) → ((i : ℕ) → has a i ≡ has b i) → a ≡ b
unfolding Same
ext a b h = same_eq a b h

-- ---- the same for two sets below 2 ^ k, whose members above k need no look
pub has_below : (k s i : ℕ) → s < 2 ^ k → has s i ≡ true → i < k
has_below k s i h p = ltb-true i k
    (and_left (ltb i k) (has s i) (sym (has_mod k s i) ∙ ap (λ (x : ℕ). has x i) (mod-eq_of_lt h)
    ∙ p))

pub ext_below : (k a b : ℕ) → a < 2 ^ k → b < 2 ^ k → ((i : ℕ) → i < k → has a i ≡ has b i) → a ≡ b
ext_below k a b ha hb h = ext a b (λ i. go i (either (ltb i k)))
  where
    go : (i : ℕ) → (ltb i k ≡ true) ⊎ (ltb i k ≡ false) → has a i ≡ has b i
    go i (inl p) = h i (ltb-true i k p)
    go i (inr p) = out a ha ∙ sym (out b hb)
      where
        out : (s : ℕ) → s < 2 ^ k → has s i ≡ false
        out s hs = ap (λ (x : ℕ). has x i) (sym (mod-eq_of_lt hs)) ∙ has_mod k s i
            ∙ ap (λ (t : Bool). t && has s i) p

-- ---- adding, taking away, being empty
pub has-add : (s i j : ℕ) → has (add s i) j ≡ (has s j || eqb i j)
unfolding add
has-add s i j = has_or s (2 ^ i) j ∙ ap (λ (t : Bool). has s j || t) (has_pow i j)

less_test : (p q : Bool) → (q ⊕ (p && q)) ≡ (q && not p)
less_test true true = refl
less_test true false = refl
less_test false true = refl
less_test false false = refl

pub has-less : (y s i : ℕ) → has (less y s) i ≡ (has y i && not (has s i))
unfolding less
has-less y s i = has_xor y (bit_and s y) i ∙ ap (λ (t : Bool). has y i ⊕ t) (has_and s y i)
    ∙ less_test (has s i) (has y i)

pub some-has : (s i : ℕ) → has s i ≡ true → some s ≡ true
unfolding some
some-has s i p = ap not (ne_eqb s 0
    (λ e. false≢true (sym (ap (λ (x : ℕ). has x i) e ∙ has-none i) ∙ p)))

pub some_zero : some 0 ≡ false
unfolding some
some_zero = refl

-- ---- subset
pub sub_and : (a b : ℕ) → Sub a b → bit_and a b ≡ a
unfolding Sub
sub_and a b h = ext (bit_and a b) a (λ i. has_and a b i ∙ and_imp (has a i) (has b i) (h i))

-- both sides of y that s makes lie within y
pub sub_inside : (y s : ℕ) → Sub (bit_and s y) y
unfolding Sub
sub_inside y s i q = and_right (has s i) (has y i) (sym (has_and s y i) ∙ q)

pub sub_less : (y s : ℕ) → Sub (less y s) y
unfolding Sub
sub_less y s i q = and_left (has y i) (not (has s i)) (sym (has-less y s i) ∙ q)

pub sub_lt : (n a b : ℕ) → Sub a b → b < 2 ^ n → a < 2 ^ n
sub_lt n a b h l = native.Mathlib.Nat.lt_of_le_of_lt
    (subst (λ (x : ℕ). x ≤ b) (sub_and a b h) (lib.Bits.and_le_r a b)) l

-- ---- the lowest member is one, and none is below it
lowest_in : (n y i : ℕ) → i < n → has y i ≡ true → has y (count_trailing_zeros n y) ≡ true
unfolding count_trailing_zeros
lowest_in zero y i h p = absurd (omega arith)
lowest_in (suc n) y i h p = go (λ j hj pj. lowest_in n (y / 2) j hj pj) (low2 y) i h p
  where
    go : ((j : ℕ) → j < n → has (y / 2) j ≡ true → has (y / 2) (count_trailing_zeros n (y / 2)) ≡ true)
        → (y % 2 ≡ 0) ⊎ (y % 2 ≡ 1) → (i : ℕ) → i < suc n → has y i ≡ true
        → has y (under (y % 2) (count_trailing_zeros n (y / 2))) ≡ true
    go ih (inr q) i h p = rw q (has-low y ∙ ap (λ (x : ℕ). eqb x 1) q)
    go ih (inl q) zero h p = absurd
        (false≢true (ap (λ (x : ℕ). eqb x 1) (sym q) ∙ sym (has-low y) ∙ p))
    go ih (inl q) (suc i) h p =
        rw q (has_suc y (count_trailing_zeros n (y / 2)) ∙ ih i (omega arith) (sym (has_suc y i) ∙ p))

lowest_under : (n y i : ℕ) → i < count_trailing_zeros n y → has y i ≡ false
unfolding count_trailing_zeros
lowest_under zero y i h = absurd (omega arith)
lowest_under (suc n) y i h = go (λ j hj. lowest_under n (y / 2) j hj) (low2 y) i h
  where
    go : ((j : ℕ) → j < count_trailing_zeros n (y / 2) → has (y / 2) j ≡ false) → (y % 2 ≡ 0) ⊎ (y % 2 ≡ 1)
        → (i : ℕ) → i < under (y % 2) (count_trailing_zeros n (y / 2)) → has y i ≡ false
    go ih (inr q) i h = let h' : i < under 1 (count_trailing_zeros n (y / 2)) = rw q at h in
        absurd (omega arith)
    go ih (inl q) zero h = has-low y ∙ ap (λ (x : ℕ). eqb x 1) q
    go ih (inl q) (suc i) h =
        let h' : suc i < under 0 (count_trailing_zeros n (y / 2)) = rw q at h in
        has_suc y i ∙ ih i (omega arith)

pub has-lowest : (n y i : ℕ) → i < n → has y i ≡ true → has y (lowest n y) ≡ true
unfolding lowest
has-lowest n y i h p = lowest_in n y i h p

pub none_under : (n y i : ℕ) → i < lowest n y → has y i ≡ false
unfolding lowest
none_under n y i h = lowest_under n y i h

-- ---- being empty, and having a member
pub some_false : (s : ℕ) → some s ≡ false → s ≡ 0
unfolding some
some_false s e = eqb-true s 0 (not-false (eqb s 0) e)

pub none_zero : (s : ℕ) → ((i : ℕ) → has s i ≡ true → ⊥) → s ≡ 0
none_zero s h = ext s 0 (λ i. go i (either (has s i)) ∙ sym (has-none i))
  where
    go : (i : ℕ) → (has s i ≡ true) ⊎ (has s i ≡ false) → has s i ≡ false
    go i (inl p) = absurd (h i p)
    go i (inr p) = p

-- a set that has a member below no k is empty, so one that is not empty has
-- one
pub some_by : (s : ℕ) → (some s ≡ false → ⊥) → some s ≡ true
some_by s h = go (either (some s))
  where
    go : (some s ≡ true) ⊎ (some s ≡ false) → some s ≡ true
    go (inl q) = q
    go (inr q) = absurd (h q)

pub some_mono : (a b : ℕ) → Sub a b → some a ≡ true → some b ≡ true
unfolding Sub
some_mono a b sub p = some_by b (λ q.
    true≢false (sym p ∙ ap some
    (none_zero a (λ i h. true≢false (sym (sub i h) ∙ ap (λ (x : ℕ). has x i) (some_false b q)
    ∙ has-none i))) ∙ some_zero))

pub some-lowest : (n y : ℕ) → y < 2 ^ n → some y ≡ true → has y (lowest n y) ≡ true
some-lowest n y b p = go (either (has y (lowest n y)))
  where
    go : (has y (lowest n y) ≡ true) ⊎ (has y (lowest n y) ≡ false) → has y (lowest n y) ≡ true
    go (inl q) = q
    go (inr q) =
        absurd (true≢false (sym p
        ∙ ap some (none_zero y (λ i h. true≢false
        (sym (has-lowest n y i (has_below n y i b h) h) ∙ q))) ∙ some_zero))

-- ---- the lowest member of a set below 2 ^ n does not depend on how far one looks
pub lowest_lt : (n y : ℕ) → y < 2 ^ n → some y ≡ true → lowest n y < n
lowest_lt n y b p = has_below n y (lowest n y) b (some-lowest n y b p)

pub lowest-wide : (n w y : ℕ) → n ≤ w → y < 2 ^ n → some y ≡ true → lowest w y ≡ lowest n y
lowest-wide n w y h b p =
    go (either (ltb (lowest w y) (lowest n y))) (either (ltb (lowest n y) (lowest w y)))
  where
    b' : y < 2 ^ w
    b' = native.Mathlib.Nat.lt_of_lt_of_le b (lib.Pow.pow_mono h)

    go : (ltb (lowest w y) (lowest n y) ≡ true) ⊎ (ltb (lowest w y) (lowest n y) ≡ false)
        → (ltb (lowest n y) (lowest w y) ≡ true) ⊎ (ltb (lowest n y) (lowest w y) ≡ false)
        → lowest w y ≡ lowest n y
    go (inl u) v = absurd (true≢false (sym (some-lowest w y b' p)
        ∙ none_under n y (lowest w y) (ltb-true (lowest w y) (lowest n y) u)))
    go (inr u) (inl v) = absurd
        (true≢false (sym (some-lowest n y b p)
        ∙ none_under w y (lowest n y) (ltb-true (lowest n y) (lowest w y) v)))
    go (inr u) (inr v) = omega (
      arith,
      ltb-false (lowest w y) (lowest n y) u,
      ltb-false (lowest n y) (lowest w y) v,
    )
