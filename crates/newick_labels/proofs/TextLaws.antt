-- Labels as text: the digits of a number below 100, and where a label ends.
-- Assumes nothing.
use mathlib.Core.Path.{◌≡◌, sym, ap, ap₂, ◌∙◌}
use mathlib.Core.Logic.{◌⊎◌, inl, inr}
use mathlib.Core.Bool.{true, false, true≢false, ◌&&◌}
use mathlib.Core.List.{List, [], ◌∷◌, ◌++◌}
use Prim.Native.Nat.{ℕ, suc, ◌+◌, ◌/◌, ◌%◌, ◌≤◌, ◌<◌}
use native.Mathlib.Nat.{mod-eq_of_lt}
use native.Mathlib.Omega.{arith}
use lib.Dec.{ltb}
use lib.ListN.{length, take, get_or}
use lib.Seq.{take-suc, append_snoc}
use borrow.Author.Tests.{lt-ltb, le-leb, ltb-true, ltb-false}
use Rattle.taxa.proofs.Bools.{either}
use Rattle.io.specs.Digits.{hex_digit_ascii}
use Rattle.lines.specs.Lines.{decimal}
use Rattle.lines.proofs.Widths.{fewest_decimal}
use Rattle.newick_labels.specs.Between.{digit, Stop, Ends}

-- ---- lists

-- one byte more before a place
pub step : (s x : List ℕ) (i : ℕ) → i < length s
    → take (suc i) s ++ x ≡ take i s ++ (get_or s i 0 ∷ x)
step s x i h =
    ap (λ (l : List ℕ). l ++ x) (take-suc s i 0 h)
    ∙ append_snoc (take i s) (get_or s i 0) x

pub cancel : (a x y : List ℕ) → a ++ x ≡ a ++ y → x ≡ y
cancel [] x y e = e
cancel (b ∷ a) x y e = cancel a x y (cc)

-- ---- digits
glyph_is : (d : ℕ) → d < 10 → hex_digit_ascii d ≡ 48 + d
glyph_is d h = rw (lt-ltb d 10 h)

pub one_digit : (d : ℕ) → d < 10 → decimal d ≡ (48 + d) ∷ []
one_digit d h =
    sym (fewest_decimal d 1 (omega arith, omega arith, λ l. absurd (omega arith)))
    ∙ ap (λ (b : ℕ). b ∷ []) (ap hex_digit_ascii (mod-eq_of_lt h) ∙ glyph_is d h)

pub two_digits : (d : ℕ) → 10 ≤ d → d < 100
    → decimal d ≡ (48 + d / 10) ∷ (48 + d % 10) ∷ []
two_digits d g h =
    let low : d / 10 < 10 = omega arith in
    sym (fewest_decimal d 2 (omega arith, omega arith, λ l. omega arith))
    ∙ ap₂ (λ (a b : ℕ). a ∷ b ∷ [])
    (ap hex_digit_ascii (mod-eq_of_lt low) ∙ glyph_is (d / 10) low) (glyph_is (d % 10) (omega arith))

-- a digit's byte is one
digit-is : (d : ℕ) → d < 10 → digit (48 + d) ≡ true
digit-is d h =
    ap₂ ◌&&◌ (le-leb 48 (48 + d) (omega arith)) (le-leb (48 + d) 57 (omega arith))

-- no stop begins with one
pub digit_goes_on : (d : ℕ) (w : List ℕ) → d < 10 → Stop ((48 + d) ∷ w) → ⊥
unfolding Stop
digit_goes_on d w h e = true≢false (sym (digit-is d h) ∙ e)

-- ---- a label below 100, and what follows it, by its first bytes
pub data Spelt (d : ℕ) (w t : List ℕ) : Type 0 where
  single : d < 10 → t ≡ (48 + d) ∷ w → Spelt d w t
  double : 10 ≤ d → t ≡ (48 + d / 10) ∷ (48 + d % 10) ∷ w → Spelt d w t

pub spelt : (d : ℕ) (w : List ℕ) → d < 100 → Spelt d w (decimal d ++ w)
spelt d w h = go (either (ltb d 10))
  where
    go : (ltb d 10 ≡ true) ⊎ (ltb d 10 ≡ false) → Spelt d w (decimal d ++ w)
    go (inl p) = single (ltb-true d 10 p) (rw (one_digit d (ltb-true d 10 p)))
    go (inr p) =
        double (ltb-false d 10 p) (rw (two_digits d (ltb-false d 10 p) h))

-- two labels below 100, each read to its end, are one where their texts are
pub label_settled : (d e : ℕ) (w v : List ℕ) → d < 100 → e < 100 → Ends d w
    → Ends e v → decimal d ++ w ≡ decimal e ++ v → (d ≡ e) × (w ≡ v)
label_settled d e w v hd he ends stops same =
    go (decimal d ++ w) (decimal e ++ v) same (spelt d w hd) (spelt e v he)
  where
    go : (t r : List ℕ) → t ≡ r → Spelt d w t → Spelt e v r → (d ≡ e) × (w ≡ v)
    go t r q (single l p) (single k o) =
        let f : 48 + d ≡ 48 + e = cc in
        (omega arith, cc)
    go t r q (single l p) (double k o) =
        let f : 48 + d ≡ 48 + e / 10 = cc in
        let z : w ≡ (48 + e % 10) ∷ v = cc in
        absurd (digit_goes_on (e % 10) v (omega arith) (rw z at (ends (omega arith) l)))
    go t r q (double l p) (single k o) =
        let f : 48 + d / 10 ≡ 48 + e = cc in
        let z : v ≡ (48 + d % 10) ∷ w = cc in
        absurd (digit_goes_on (d % 10) w (omega arith) (rw z at (stops (omega arith) k)))
    go t r q (double l p) (double k o) =
        let f : 48 + d / 10 ≡ 48 + e / 10 = cc in
        let g : 48 + d % 10 ≡ 48 + e % 10 = cc in
        (omega arith, cc)
