-- The byte of a digit at a place, and the taxa that begin with a digit. Assumes
-- nothing.
use Rattle.std.specs.Prelude.{Some, None, if◌then◌else◌, ◌-◌, ◌||◌, not}
use Rattle.std.proofs.lemmas.Option.{gets}
use Rattle.std.proofs.lemmas.Bool.Decides.{nat_tests}
use mathlib.Core.Path.{◌≡◌, refl, sym, ap, ◌∙◌}
use mathlib.Core.Logic.{◌⊎◌, inl, inr}
use mathlib.Core.Bool.{Bool, true, false, true≢false, ◌&&◌}
use mathlib.Core.List.{List}
use Prim.Native.Nat.{ℕ, ◌+◌, ◌*◌, ◌/◌, ◌%◌, ◌^◌, ◌≤◌, ◌<◌}
use native.Mathlib.Nat.{mod-lt, div-eq_of_lt, lt_of_lt_of_le, div-div-eq-div-mul}
use native.Mathlib.Omega.{arith}
use lib.Dec.{eqb, ltb}
use lib.ListN.{length, get_or, drop, drop_of_length-le}
use lib.Pow.{pow_pos, pow_mono, pow-add}
use lib.Seq.{drop-cons}
use borrow.Author.Tests.{lt-ltb, ltb-true, ltb-false}
use Rattle.taxa.specs.Most.{most}
use Rattle.taxa.specs.Sets.{has, some, lowest}
use Rattle.taxa.proofs.Bools.{either, and_left, and_right, and_both, or_cases}
use Rattle.taxa.proofs.Bools.{or_neither}
use Rattle.taxa.proofs.Sets.{has_below, has_mod, some-has, some-lowest}
use Rattle.newick_labels.specs.Between.{Stop, stands, digit_at, seconds, begun}

-- ---- the digit at a place
pub digit_is : (s : List ℕ) (at : ℕ)
    → digit_at s at ≡ (if stands s at then Some (get_or s at 0 - 48) else None)
unfolding digit_at
digit_is s at = refl

-- what the code reads
pub ruleset digits = (digit_is, gets)

module _ (s : List ℕ) (at : ℕ) where
  -- back from the digit to the byte
  pub digit_byte : (a : ℕ) → digit_at s at ≡ Some a
      → (at < length s) × (get_or s at 0 ≡ 48 + a) × (a < 10)
  unfolding digit_at
  digit_byte a e = grind (arith, nat_tests)

  -- and from the byte to the digit
  pub byte_digit : (a : ℕ) → at < length s → get_or s at 0 ≡ 48 + a → a < 10
      → digit_at s at ≡ Some a
  unfolding digit_at
  byte_digit a l e h = grind (arith, nat_tests)

  pub no_digit : digit_at s at ≡ None → Stop (drop at s)
  unfolding digit_at Stop
  no_digit e = go (either (ltb at (length s)))
    where
      go : (ltb at (length s) ≡ true) ⊎ (ltb at (length s) ≡ false)
          → Stop (drop at s)
      go (inl l) = rw (drop-cons s at 0 (ltb-true at (length s) l)) (grind (arith, nat_tests))
      go (inr l) = rw (drop_of_length-le s (ltb-false at (length s) l)) tt

-- ---- no taxon is the most or above
pub has_not : (u d : ℕ) → u < 2 ^ most → most ≤ d → false ≡ has u d
has_not u d l h = go (either (has u d))
  where
    go : (has u d ≡ true) ⊎ (has u d ≡ false) → false ≡ has u d
    go (inl m) = absurd (omega (arith, has_below most u d l m))
    go (inr m) = sym m

-- ---- the taxa that begin with a digit
has_shift : (u k i : ℕ) → has (u / 2 ^ k) i ≡ has u (k + i)
unfolding has
has_shift u k i =
    ap (λ (x : ℕ). eqb (x % 2) 1)
    (div-div-eq-div-mul u (2 ^ k) (2 ^ i) ∙ ap (λ (x : ℕ). u / x) (sym (pow-add 2 k i)))

has-seconds : (u a i : ℕ)
    → has (seconds u a) i ≡ (ltb i 10 && has u (10 * a + i))
has-seconds u a i =
    has_mod 10 (u / 2 ^ (10 * a)) i
    ∙ ap (λ (p : Bool). ltb i 10 && p) (has_shift u (10 * a) i)

-- no taxon has a first digit above 6 and a second one
pub no_seconds : (u a : ℕ) → u < 2 ^ most → 6 < a → seconds u a ≡ 0
no_seconds u a l k =
    ap (λ (x : ℕ). x % 2 ^ 10)
    (div-eq_of_lt (lt_of_lt_of_le l (pow_mono {i = most} (omega arith))))

pub begun_is : (u a : ℕ) → begun u a ≡ (has u a || (ltb 0 a && not (eqb (seconds u a) 0)))
unfolding begun some
begun_is u a = refl

-- what the code tests
pub ruleset heads = (begun_is, no_seconds, nat_tests)

-- d begins with the digit a
pub data Begins (a d : ℕ) : Type 0 where
  alone : d ≡ a → Begins a d
  with_second : 0 < a → (i : ℕ) → i < 10 → d ≡ 10 * a + i → Begins a d

module _ (u a : ℕ) where
  -- what the test means
  pub begun-some : begun u a ≡ true → (d : ℕ) × (has u d ≡ true) × Begins a d
  unfolding begun
  begun-some e = go (or_cases (has u a) (ltb 0 a && some (seconds u a)) e)
    where
      go : (has u a ≡ true) ⊎ ((ltb 0 a && some (seconds u a)) ≡ true)
          → (d : ℕ) × (has u d ≡ true) × Begins a d
      go (inl h) = (a, h, alone refl)
      go (inr h) =
          let i = lowest 10 (seconds u a) in
          let m = sym (has-seconds u a i)
          ∙ some-lowest 10 (seconds u a) (mod-lt (u / 2 ^ (10 * a)) (pow_pos 10))
          (and_right (ltb 0 a) (some (seconds u a)) h) in (
            10 * a + i,
            and_right (ltb i 10) (has u (10 * a + i)) m,
            with_second (ltb-true 0 a (and_left (ltb 0 a) (some (seconds u a)) h)) i
                (ltb-true i 10 (and_left (ltb i 10) (has u (10 * a + i)) m)) refl,
          )

  pub begun-none : begun u a ≡ false → (d : ℕ) → has u d ≡ true → Begins a d → ⊥
  unfolding begun
  begun-none e d h (alone p) =
      true≢false (sym h ∙ ap (has u) p ∙ (or_neither (has u a) (ltb 0 a && some (seconds u a)) e).0)
  begun-none e d h (with_second l i k p) =
      let m = has-seconds u a i ∙ and_both (ltb i 10) (has u (10 * a + i)) (lt-ltb i 10 k)
      (sym (ap (has u) p) ∙ h) in
      true≢false (sym (and_both (ltb 0 a) (some (seconds u a)) (lt-ltb 0 a l)
      (some-has (seconds u a) i m))
      ∙ (or_neither (has u a) (ltb 0 a && some (seconds u a)) e).1)
