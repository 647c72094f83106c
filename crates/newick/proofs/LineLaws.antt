-- What the digits of a line say of the number that it is. Assumes nothing.
use Rattle.std.specs.Prelude.{Option, Some, None}
use Rattle.std.proofs.lemmas.Option.{none-some, same_Some}
use mathlib.Core.Path.{◌≡◌, refl, sym, ap, ap₂, ◌∙◌}
use mathlib.Core.Logic.{◌⊎◌, inl, inr, ⊎_elim}
use mathlib.Core.Bool.{true, false}
use mathlib.Core.List.{List, [], ◌∷◌}
use Prim.Native.Nat.{ℕ, ◌+◌, ◌*◌, ◌/◌, ◌%◌, ◌≤◌, ◌<◌}
use native.Mathlib.Omega.{arith}
use lib.Dec.{ltb}
use lib.ListN.{length, get_or}
use borrow.Author.Tests.{ltb-true, ltb-false}
use Rattle.taxa.proofs.Bools.{either}
use Rattle.newick_labels.specs.Between.{digit_at}
use Rattle.newick_labels.proofs.HeadLaws.{digit_byte, byte_digit}
use Rattle.newick_labels.proofs.TextLaws.{one_digit, two_digits}
use Rattle.newick.specs.Input.{Number, LineSays}

-- ---- lines of one byte and of two
one_byte : (s : List ℕ) → length s ≡ 1 → s ≡ get_or s 0 0 ∷ []
one_byte [] e = absurd (omega (arith, e))
one_byte (a ∷ []) e = refl
one_byte (a ∷ b ∷ s) e = absurd (omega (arith, e))

two_bytes : (s : List ℕ) → length s ≡ 2 → s ≡ get_or s 0 0 ∷ get_or s 1 0 ∷ []
two_bytes [] e = absurd (omega (arith, e))
two_bytes (a ∷ []) e = absurd (omega (arith, e))
two_bytes (a ∷ b ∷ []) e = refl
two_bytes (a ∷ b ∷ c ∷ s) e = absurd (omega (arith, e))

-- The digits of a line that is a number: one, or two of which the first is no
-- zero.
record One (s : List ℕ) (m : ℕ) : Type 0 where
  long : length s ≡ 1
  is : digit_at s 0 ≡ Some m
  some : 0 < m
  few : m < 10

record Two (s : List ℕ) (m : ℕ) : Type 0 where
  a : ℕ
  b : ℕ
  long : length s ≡ 2
  first : digit_at s 0 ≡ Some a
  some : 0 < a
  last : digit_at s 1 ≡ Some b
  is : 10 * a + b ≡ m

module _ (s : List ℕ) where
  spelt : (m : ℕ) → Number s m → One s m ⊎ Two s m
  spelt m q = go (either (ltb m 10))
    where
      go : (ltb m 10 ≡ true) ⊎ (ltb m 10 ≡ false) → One s m ⊎ Two s m
      go (inl l) =
          let h : m < 10 = ltb-true m 10 l in
          let e : s ≡ (48 + m) ∷ [] = q.is ∙ one_digit m h in
          let k : length s ≡ 1 = ap length e in
          inl (record {
            long = k;
            is = byte_digit s 0 m (omega (arith, k)) (ap (λ (x : List ℕ). get_or x 0 0) e) h;
            some = q.some;
            few = h;
          })
      go (inr l) =
          let h : 10 ≤ m = ltb-false m 10 l in
          let e : s ≡ (48 + m / 10) ∷ (48 + m % 10) ∷ [] = q.is ∙ two_digits m h q.few in
          let k : length s ≡ 2 = ap length e in
          inr (record {
            a = m / 10;
            b = m % 10;
            long = k;
            first = byte_digit s 0 (m / 10) (omega (arith, k))
                (ap (λ (x : List ℕ). get_or x 0 0) e) (omega (arith, q.few));
            some = omega (arith, h);
            last = byte_digit s 1 (m % 10) (omega (arith, k))
                (ap (λ (x : List ℕ). get_or x 1 0) e) (omega arith);
            is = omega arith;
          })

  none : ((m : ℕ) → One s m → ⊥) → ((m : ℕ) → Two s m → ⊥) → LineSays s None
  none h k = λ m q. ⊎_elim (h m) (k m) (spelt m q)

  -- ---- at each test of the code
  pub no_digit : digit_at s 0 ≡ None → LineSays s None
  no_digit e = none (λ m o. absurd (none-some _ (sym e ∙ o.is)))
      (λ m o. absurd (none-some _ (sym e ∙ o.first)))

  pub zero_first : {a : ℕ} → digit_at s 0 ≡ Some a → a ≡ 0 → LineSays s None
  zero_first {a} e h = none
      (λ m o. absurd (omega (arith, o.some, same_Some a m (sym e ∙ o.is))))
      (λ m o. absurd (omega (arith, o.some, same_Some a o.a (sym e ∙ o.first))))

  pub no_second : length s ≡ 2 → digit_at s 1 ≡ None → LineSays s None
  no_second k e = none (λ m o. absurd (omega (arith, o.long)))
      (λ m o. absurd (none-some _ (sym e ∙ o.last)))

  pub other_length : (length s ≡ 1 → ⊥) → (length s ≡ 2 → ⊥) → LineSays s None
  other_length k j = none (λ m o. k o.long) (λ m o. j o.long)

  module _ {a : ℕ} (L : digit_at s 0 ≡ Some a) (some : a ≡ 0 → ⊥) where
    -- the byte there is the digit a
    lead : (0 < length s) × (get_or s 0 0 ≡ 48 + a) × (a < 10)
    lead = digit_byte s 0 a L

    pub one_line : length s ≡ 1 → LineSays s (Some a)
    one_line e =
        record {
          some = omega arith;
          few = omega (arith, lead.2);
          is = one_byte s e ∙ ap (λ (x : ℕ). x ∷ []) lead.1 ∙ sym (one_digit a lead.2);
        }

    pub two_line : {b : ℕ} → digit_at s 1 ≡ Some b → length s ≡ 2 → LineSays s (Some (10 * a + b))
    two_line {b} q e =
        let m = 10 * a + b in
        let p = digit_byte s 1 b q in
        let x : 48 + a ≡ 48 + m / 10 = omega (arith, p.2) in
        let y : 48 + b ≡ 48 + m % 10 = omega (arith, p.2) in
        record {
          some = omega arith;
          few = omega (arith, lead.2, p.2);
          is = two_bytes s e
              ∙ ap₂ (λ (x y : ℕ). x ∷ y ∷ []) (lead.1 ∙ x) (p.1 ∙ y)
              ∙ sym (two_digits m (omega arith) (omega (arith, lead.2, p.2)));
        }

  -- ---- one answer
  number_one : (j k : ℕ) → Number s j → Number s k → j ≡ k
  number_one j k a b = go (spelt j a) (spelt k b)
    where
      go : One s j ⊎ Two s j → One s k ⊎ Two s k → j ≡ k
      go (inl x) (inl y) = same_Some j k (sym x.is ∙ y.is)
      go (inl x) (inr y) = absurd (omega (arith, x.long, y.long))
      go (inr x) (inl y) = absurd (omega (arith, x.long, y.long))
      go (inr x) (inr y) =
          omega (
            arith,
            x.is,
            y.is,
            same_Some x.a y.a (sym x.first ∙ y.first),
            same_Some x.b y.b (sym x.last ∙ y.last),
          )

  -- a line says one number
  pub line_one : (j k : Option ℕ) → LineSays s j → LineSays s k → j ≡ k
  line_one (Some j) (Some k) a b = ap Some (number_one j k a b)
  line_one (Some j) None a b = absurd (b j a)
  line_one None (Some k) a b = absurd (a k b)
  line_one None None a b = refl
