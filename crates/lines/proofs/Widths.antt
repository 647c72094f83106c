-- A number's decimal digits are as many as `io::decimal` answers, and lines
-- have few bytes. Assumes nothing.
use mathlib.Core.Path.{◌≡◌, refl, ap, sym, ◌∙◌}
use mathlib.Core.Bool.{Bool, true, false}
use mathlib.Core.List.{[], ◌∷◌, ◌++◌, append_assoc}
use mathlib.Core.Logic.{◌⊎◌, inl, inr, ⊎_elim}
use Prim.Native.Nat.{ℕ, zero, suc, ◌+◌, ◌*◌, ◌-◌, ◌/◌, ◌%◌, ◌^◌, ◌≤◌, ◌<◌}
use native.Mathlib.Nat.{one-le-pow}
use native.Mathlib.Numerals.{add-one}
use native.Mathlib.Omega.{arith, pow_step}
use lib.ListN.{length, length-append}
use mir.Syntax.{w64}
use mir.Val.{Fits}
use lib.Dec.{eqb, ltb, leb}
use borrow.Author.Tests.{lt-ltb, le-ltb, ltb-true, ltb-false, le-leb, lt-leb, eq-eqb, ne_eqb}
use borrow.Author.Tests.{eqb-true, eqb-false}
use Rattle.taxa.specs.Sets.{pick}
use Rattle.taxa.proofs.Bools.{either}
use Rattle.io.specs.Digits.{last_digits, hex_digit_ascii, IsDigitCount}
use Rattle.lines.specs.Lines.{width_to, decimal, none_word, full_word, pt_word, bin_from, bin}
use Rattle.lines.specs.Lines.{class_name, blank, feed, same_word, changed_word, saved_word}
use Rattle.lines.specs.Lines.{end_word, refused_word, at_word, verdict_line, saved_line, end_line}
use Rattle.lines.specs.Lines.{refused_line}

pub digits_length : (k n : ℕ) → length (last_digits 10 k n) ≡ k
digits_length zero n = refl
digits_length (suc k) n = length-append (last_digits 10 k (n / 10)) (hex_digit_ascii (n % 10) ∷ [])
    ∙ omega (arith, digits_length k (n / 10))

width_one : (f n : ℕ) → n < 10 → width_to f n ≡ 1
unfolding width_to
width_one zero n l = refl
width_one (suc f) n l = rw (lt-ltb n 10 l)

width_more : (f n : ℕ) → 10 ≤ n → width_to (suc f) n ≡ suc (width_to f (n / 10))
unfolding width_to
width_more f n g = rw (le-ltb n 10 g)

-- ---- the fewest digits are unique
least : (n r : ℕ) → IsDigitCount 10 1 n (suc (suc r)) → 10 ^ suc r ≤ n
least n r w = let e : suc (suc r) - 1 ≡ suc r = omega arith in rw e at (w.2 (omega arith))

pub fewest_width : (f n r : ℕ) → n ≤ f → IsDigitCount 10 1 n r → r ≡ width_to f n
fewest_width f n zero h w = absurd (omega (arith, w.0))
fewest_width f n (suc zero) h w = sym (width_one f n (omega (arith, w.1)))
fewest_width zero n (suc (suc r)) h w =
    absurd (omega (arith, least n r w, one-le-pow (suc r) 10 (omega arith)))
fewest_width (suc f) n (suc (suc r)) h w =
    let big : 10 ^ suc r ≤ n = least n r w in
    let less : n < 10 ^ suc (suc r) = w.1 in
    let one : 0 < 10 ^ r = one-le-pow r 10 (omega arith) in
    let ten : 10 ≤ n = omega (arith, big, one, pow_step 10 r) in
    let next : IsDigitCount 10 1 (n / 10) (suc r) = (
      omega arith,
      omega (arith, less, pow_step 10 (suc r)),
      λ _. let e : suc r - 1 ≡ r = omega arith in rw e (omega (arith, big, pow_step 10 r)),
    ) in
    ap suc (fewest_width f (n / 10) (suc r) (omega arith) next) ∙ sym (width_more f n ten)

-- ---- a digit at a time
width_fuel : (f g n : ℕ) → n ≤ f → n ≤ g → width_to f n ≡ width_to g n
width_fuel zero g n h k = width_one zero n (omega arith) ∙ sym (width_one g n (omega arith))
width_fuel (suc f) zero n h k =
    width_one (suc f) n (omega arith) ∙ sym (width_one zero n (omega arith))
width_fuel (suc f) (suc g) n h k =
    go (either (ltb n 10)) (width_fuel f g (n / 10) (omega arith) (omega arith))
  where
    go : (ltb n 10 ≡ true) ⊎ (ltb n 10 ≡ false) → width_to f (n / 10) ≡ width_to g (n / 10)
        → width_to (suc f) n ≡ width_to (suc g) n
    go (inl w) e = width_one (suc f) n (ltb-true n 10 w)
        ∙ sym (width_one (suc g) n (ltb-true n 10 w))
    go (inr w) e = width_more f n (ltb-false n 10 w) ∙ ap suc e
        ∙ sym (width_more g n (ltb-false n 10 w))

pub decimal-length : (n : ℕ) → length (decimal n) ≡ width_to n n
unfolding decimal
decimal-length n = digits_length (width_to n n) n

pub decimal_one : {n : ℕ} → n < 10 → 1 ≡ length (decimal n)
decimal_one {n} l = sym (decimal-length n ∙ width_one n n l)

pub decimal_more : {n : ℕ} → 10 ≤ n → length (decimal (n / 10)) + 1 ≡ length (decimal n)
decimal_more {n = zero} g = absurd (omega arith)
decimal_more {n = suc f} g =
    let e : width_to f (suc f / 10) ≡ width_to (suc f / 10) (suc f / 10) =
    width_fuel f (suc f / 10) (suc f / 10) (omega arith) (omega arith) in
    let d = decimal-length (suc f / 10) in
    sym (decimal-length (suc f) ∙ width_more f (suc f) g ∙ omega (arith, e, d))

pub fewest_decimal : (n r : ℕ) → IsDigitCount 10 1 n r → last_digits 10 r n ≡ decimal n
unfolding decimal
fewest_decimal n r w = ap (λ (k : ℕ). last_digits 10 k n) (fewest_width n n r (omega arith) w)

-- ---- few bytes
width_few : (f n k : ℕ) → n < 10 ^ suc k → width_to f n ≤ suc k
unfolding width_to
width_few f n zero l = omega (arith, width_one f n (omega (arith, l)))
width_few zero n (suc k) l = omega arith
width_few (suc f) n (suc k) l =
    ⊎_elim
    (λ s. omega (arith, width_one (suc f) n (ltb-true n 10 s)))
    (λ g. omega (
      arith,
      width_more f n (ltb-false n 10 g),
      width_few f (n / 10) k (omega (arith, l, pow_step 10 (suc k))),
    ))
    (either (ltb n 10))

pub decimal_below : (n k : ℕ) → n < 10 ^ suc k → length (decimal n) ≤ suc k
decimal_below n k l = omega (arith, decimal-length n, width_few n n k l)

pub decimal-few : (n : ℕ) → n < 2 ^ 64 → length (decimal n) ≤ 20
decimal-few n l = decimal_below n 19 (omega (arith, l))

-- the same of a number in the code, as a rule for `omega`
pub number-few : {n : ℕ} → Fits w64 n → length (decimal n) ≤ 20
number-few f = decimal-few _ f.fits

-- ---- the class
bin-few : (f i s k : ℕ) → bin_from f i s k ≤ i + f
unfolding bin_from
bin-few zero i s k = omega arith
bin-few (suc f) i s k = go (leb (10 * s) (i * k)) (bin-few f (suc i) s k)
  where
    go : (b : Bool) → bin_from f (suc i) s k ≤ suc i + f
        → pick b i (bin_from f (suc i) s k) ≤ i + suc f
    go true h = omega arith
    go false h = omega (arith, h)

-- the search for it, a turn of the loop at a time; c is what it comes to
module _ (s k i : ℕ) {c : ℕ} where
  pub bin-here : i < 10 → 10 * s ≤ i * k → bin_from (10 - i) i s k ≡ c → i ≡ c
  unfolding bin_from
  bin-here l h =
      let e : 10 - i ≡ suc (9 - i) = omega arith in
      rw (e, le-leb (10 * s) (i * k) h) (λ q. q)

  pub bin-next : i < 10 → i * k < 10 * s → bin_from (10 - i) i s k ≡ c
      → bin_from (10 - (i + 1)) (i + 1) s k ≡ c
  unfolding bin_from
  bin-next l h =
      let e : 10 - i ≡ suc (9 - i) = omega arith in
      let e2 : 10 - (i + 1) ≡ 9 - i = omega arith in
      rw (e, e2, lt-leb (10 * s) (i * k) h, add-one) (λ q. q)

  pub bin-last : 10 ≤ i → bin_from (10 - i) i s k ≡ c → i ≡ c
  unfolding bin_from
  bin-last h = let e : 10 - i ≡ 0 = omega arith in rw e (λ q. q)

pub ruleset bin_steps = (bin-here, bin-next, bin-last)

module _ (s k : ℕ) where
  pub class_none : s ≡ 0 → class_name s k ≡ none_word
  unfolding class_name
  class_none h = rw (eq-eqb s 0 h)

  pub class_full : (s ≡ 0 → ⊥) → s ≡ k → class_name s k ≡ full_word
  unfolding class_name
  class_full n h = rw (ne_eqb s 0 n, eq-eqb s k h)

  pub class_part : (s ≡ 0 → ⊥) → (s ≡ k → ⊥) → class_name s k ≡ pt_word ++ decimal (bin s k)
  unfolding class_name
  class_part n h = rw (ne_eqb s 0 n, ne_eqb s k h)

  pub none-bytes : s ≡ 0 → length (class_name s k) ≡ 4
  unfolding none_word
  none-bytes h = rw (class_none h)

  pub full-bytes : (s ≡ 0 → ⊥) → s ≡ k → length (class_name s k) ≡ 4
  unfolding full_word
  full-bytes n h = rw (class_full n h)

  pub part_bytes : (s ≡ 0 → ⊥) → (s ≡ k → ⊥) → {i : ℕ} → i ≡ bin s k
      → length (class_name s k) ≡ 2 + length (decimal i)
  unfolding pt_word
  part_bytes n h e = rw (class_part n h, e) (omega arith)

  pub class_few : length (class_name s k) ≤ 4
  class_few =
      ⊎_elim
      (λ z. omega (arith, none-bytes (eqb-true s 0 z)))
      (λ z. ⊎_elim
      (λ e. omega (arith, full-bytes (eqb-false s 0 z) (eqb-true s k e)))
      (λ e. omega (
        arith,
        part_bytes (eqb-false s 0 z) (eqb-false s k e) refl,
        decimal_below (bin s k) 1 (omega (arith, bin-few 9 1 s k)),
      ))
      (either (eqb s k)))
      (either (eqb s 0))

pub ruleset class_bytes = (none-bytes, full-bytes, part_bytes)

-- ---- the lines
module _ (m p d : ℕ) where
  pub same_pieces : d ≡ 0 → verdict_line m p d ≡ decimal m ++ blank ++ decimal p ++ same_word
  unfolding verdict_line
  same_pieces h = rw (eq-eqb d 0 h)

  pub changed_pieces : (d ≡ 0 → ⊥)
      → verdict_line m p d ≡ decimal m ++ blank ++ decimal p ++ changed_word ++ decimal d ++ feed
  unfolding verdict_line
  changed_pieces h = rw (ne_eqb d 0 h) (simp append_assoc)

  pub same_bytes : d ≡ 0 → length (verdict_line m p d) ≡ length (decimal m) + 1 + length (decimal p)
      + 8
  unfolding same_word
  same_bytes h = rw (same_pieces h) (simp length-append (omega arith))

  pub changed_bytes : (d ≡ 0 → ⊥)
      → length (verdict_line m p d) ≡ length (decimal m) + 1 + length (decimal p) + 9 + length
      (decimal d) + 1
  unfolding changed_word
  changed_bytes h = rw (changed_pieces h) (simp length-append (omega arith))

  pub verdict_least : length (decimal m) + 1 + length (decimal p) ≤ length (verdict_line m p d)
  verdict_least = ⊎_elim (λ z. omega (arith, same_bytes (eqb-true d 0 z)))
      (λ z. omega (arith, changed_bytes (eqb-false d 0 z))) (either (eqb d 0))

  pub verdict_few : m < 2 ^ 64 → p < 2 ^ 64 → d < 2 ^ 64 → length (verdict_line m p d) ≤ 80
  verdict_few hm hp hd =
      ⊎_elim
      (λ z. omega (arith, same_bytes (eqb-true d 0 z), decimal-few m hm, decimal-few p hp))
      (λ z. omega (
        arith,
        changed_bytes (eqb-false d 0 z),
        decimal-few m hm,
        decimal-few p hp,
        decimal-few d hd,
      ))
      (either (eqb d 0))

pub ruleset verdict_bytes = (verdict_least, same_bytes, changed_bytes)

module _ (m s c k : ℕ) where
  pub saved_bytes : length (saved_line m s c k)
      ≡ length (decimal m) + 7 + length (decimal s) + 1 + length (class_name c k) + 1
  unfolding saved_line saved_word
  saved_bytes = simp length-append (omega arith)

  pub saved_few : m < 2 ^ 64 → s < 2 ^ 64 → length (saved_line m s c k) ≤ 60
  saved_few hm hs =
      omega (arith, saved_bytes, decimal-few m hm, decimal-few s hs, class_few c k)

pub end_bytes : (m : ℕ) → length (end_line m) ≡ 4 + length (decimal m) + 1
unfolding end_line end_word
end_bytes m = simp length-append (omega arith)

pub refused-bytes : (r p : ℕ)
    → length (refused_line r p) ≡ 8 + length (decimal r) + 4 + length (decimal p) + 1
unfolding refused_line refused_word at_word
refused-bytes r p = simp length-append (omega arith)

pub ruleset line_bytes = (saved_bytes, end_bytes, refused-bytes)
