-- How many numbers a list lacks of another, where both ascend. Assumes nothing.
use mathlib.Core.Path.{◌≡◌, refl, ap, ◌∙◌}
use mathlib.Core.Logic.{◌⊎◌, inl, inr}
use mathlib.Core.List.{List, [], ◌∷◌}
use mathlib.Core.Bool.{Bool, true, false, ◌||◌}
use Prim.Native.Nat.{ℕ, ◌+◌, ◌-◌, ◌≤◌, ◌<◌}
use native.Mathlib.Omega.{arith}
use lib.ListN.{length}
use lib.Dec.{eqb}
use borrow.Author.Tests.{eq-eqb, ne_eqb, eqb-true}
use Rattle.taxa.proofs.Bools.{or_cases, or_right}
use Rattle.tree.specs.Lists.{mem, lacks, Over, Asc}
use Rattle.tree.proofs.Lists.{lacks_nil}

over-all : (y x : ℕ) (xs : List ℕ) → y < x → Over x xs → Over y (x ∷ xs)
unfolding mem
over-all y x xs l h z p = go (or_cases (eqb z x) (mem z xs) p)
  where
    go : (eqb z x ≡ true) ⊎ (mem z xs ≡ true) → y < z
    go (inl q) = omega (arith, eqb-true z x q)
    go (inr q) = omega (arith, h z q)

over_not : (x : ℕ) (l : List ℕ) → Over x l → mem x l ≡ false
over_not x l h = go (mem x l) refl
  where
    go : (b : Bool) → mem x l ≡ b → b ≡ false
    go true e = let i = h x e in absurd (omega arith)
    go false e = refl

-- a number below all of xs is of no use to it
lacks_skip : (xs : List ℕ) (y : ℕ) (ys : List ℕ) → Over y xs → lacks xs (y ∷ ys) ≡ lacks xs ys
unfolding lacks mem
lacks_skip [] y ys h = refl
lacks_skip (x ∷ xs) y ys h =
    let less : y < x = h x (ap (λ (b : Bool). b || mem x xs) (eq-eqb x x refl)) in
    rw (
      ne_eqb x y (λ q. omega arith),
      lacks_skip xs y ys (λ z p. h z (or_right (eqb z x) (mem z xs) p)),
    )

-- What was passed of the lists a and b is compared, l and r are left, and both
-- have the same w of what was passed.
pub record Compared (a b : List ℕ) (w : ℕ) (l r : List ℕ) : Type 0 where
  pub left : Asc l
  pub right : Asc r
  pub few : w + length l ≤ length a
  pub rest : lacks a b + w + length l ≡ length a + lacks l r

module _ {a b : List ℕ} {w : ℕ} where
  -- one of the lists is at its end
  pub compared_left : {l r : List ℕ} → Compared a b w l r → length l ≡ 0 → length a - w ≡ lacks a b
  unfolding lacks
  compared_left {l = []} C e = omega (arith, C.rest, C.few)
  compared_left {l = x ∷ xs} C e = absurd (omega (arith, e))

  pub compared_right : {l r : List ℕ} → Compared a b w l r → length r ≡ 0 → length a - w ≡ lacks a b
  compared_right {l = l} {r = []} C e = omega (arith, C.rest, C.few, lacks_nil l)
  compared_right {l = l} {r = y ∷ ys} C e = absurd (omega (arith, e))

  module _ {x y : ℕ} {xs ys : List ℕ} (C : Compared a b w (x ∷ xs) (y ∷ ys)) where
    -- a number below what is left of a is of no use to it
    pub compared_pass : y < x → Compared a b w (x ∷ xs) ys
    compared_pass h = record {
      left = C.left;
      right = C.right.1;
      few = C.few;
      rest = C.rest ∙ ap (λ (k : ℕ). length a + k) (lacks_skip (x ∷ xs) y ys (over-all y x xs h C.left.0));
    }

    pub compared_both : y ≡ x → Compared a b (w + 1) xs (y ∷ ys)
    unfolding lacks mem
    compared_both e = record {
      left = C.left.1;
      right = C.right;
      few = omega (arith, C.few);
      rest = omega (arith, (rw (eq-eqb x y (omega (arith, e))) at C.rest));
    }

    pub compared_alone : x < y → Compared a b w xs (y ∷ ys)
    unfolding lacks
    compared_alone h = record {
      left = C.left.1;
      right = C.right;
      few = omega (arith, C.few);
      rest = omega (arith, (rw (over_not x (y ∷ ys) (over-all x y ys h C.right.0)) at C.rest));
    }
