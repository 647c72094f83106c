-- A row of a valid table seen from one of its ends: the other end, the rows
-- that go on from there, and the row's side from what lies with the end.
-- Assumes nothing.
use mathlib.Core.Path.{◌≡◌, refl, sym, ap, ap₂, ◌∙◌}
use mathlib.Core.Logic.{◌⊎◌, inl, inr}
use mathlib.Core.Bool.{Bool, true, false, not, ◌&&◌, ◌||◌}
use mathlib.Core.List.{List}
use Prim.Native.Nat.{ℕ, ◌^◌, ◌%◌, ◌≤◌, ◌<◌}
use native.Mathlib.Omega.{arith}
use lib.Dec.{eqb, ltb}
use borrow.Author.Tests.{eqb-true, ltb-true}
use Rattle.taxa.specs.Sets.{has, less, full, size}
use Rattle.taxa.proofs.Bools.{either, or_cases, or_left, or_right}
use Rattle.taxa.proofs.Sets.{has-less, has_mod, has_ones, ext}
use Rattle.tree.specs.Tree.{lo, hi, rows, nodes, touches, far, part, Valid}
use Rattle.tree.specs.Splits.{side}
use Rattle.tree.proofs.Joins.{Joins, touch_joins, joins_touch, joins_flip, joins_differ}
use Rattle.tree.proofs.Joins.{touch-node, far-is}
use Rattle.tree.proofs.Colourings.{two-sides}
use Rattle.tree.proofs.RowCounts.{Pair, pair, leaf-only}
use Rattle.tree.proofs.Forks.{node-side, less_f, less_g, leaf-side}

-- Row e of a valid table has the end v.
pub record EndOf (n : ℕ) (t : List ℕ) (e v : ℕ) : Type 0 where
  pub valid : Valid n t
  pub row : e < rows n
  pub touch : touches t e v ≡ true

-- Row r goes on from v: what lies beyond it is a smaller part of what lies with
-- e's end v.
pub record Branch (n : ℕ) (t : List ℕ) (e v r : ℕ) : Type 0 where
  pub at : EndOf n t r v
  pub fall : size (nodes n) (part n t r (far t r v)) < size (nodes n) (part n t e v)
  pub within : (i : ℕ) → i < nodes n → has (part n t r (far t r v)) i ≡ true
      → has (part n t e v) i ≡ true

module _ {n : ℕ} {t : List ℕ} {e v : ℕ} (a : EndOf n t e v) where
  pub end_joins : Joins t e v (far t e v)
  end_joins = touch_joins t e v a.touch

  pub end_node : v < nodes n
  end_node = touch-node e a.valid a.row v a.touch

  -- ---- the other end
  back : Joins t e (far t e v) v
  back = joins_flip t e v (far t e v) end_joins

  pub far_end : EndOf n t e (far t e v)
  far_end = record { valid = a.valid; row = a.row; touch = joins_touch t e (far t e v) v back }

  pub far-far : far t e (far t e v) ≡ v
  far-far = far-is t e (far t e v) v back
      (joins_differ e a.valid a.row (far t e v) v back)

  -- ---- the two other rows at an inner end
  module _ (inner : n ≤ v) where
    pub end_pair : (f g : ℕ) × Pair n t e v f g
    end_pair = pair e v a.valid a.row a.touch inner end_node

    module _ {f g : ℕ} (K : Pair n t e v f g) where
      here : (i : ℕ) → i < nodes n
          → has (part n t e v) i ≡ (has (part n t f (far t f v)) i || has (part n t g (far t g v)) i
          || eqb v i)
      here = node-side a.valid a.row a.touch inner K

      pub first_branch : Branch n t e v f
      first_branch =
          record {
            at = record { valid = a.valid; row = K.f_lt; touch = K.f_p };
            fall = less_f a.valid a.row a.touch inner K;
            within = λ i l p. here i l
                ∙ or_left _ (eqb v i) (or_left _ (has (part n t g (far t g v)) i) p);
          }

      pub second_branch : Branch n t e v g
      second_branch =
          record {
            at = record { valid = a.valid; row = K.g_lt; touch = K.g_p };
            fall = less_g a.valid a.row a.touch inner K;
            within = λ i l p. here i l
                ∙ or_left _ (eqb v i) (or_right (has (part n t f (far t f v)) i) _ p);
          }

  -- ---- the side of the row, from what lies with the end
  pub side-lo : lo t e ≡ v → part n t e v % 2 ^ n ≡ side n t e
  unfolding side
  side-lo d = ap (λ (x : ℕ). part n t e x % 2 ^ n) (sym d)

  pub side-hi : (lo t e ≡ v → ⊥) → less (full n) (part n t e v % 2 ^ n) ≡ side n t e
  unfolding side
  side-hi d =
      ext (less (full n) (part n t e v % 2 ^ n)) (part n t e (lo t e) % 2 ^ n) (λ i.
      has-less (full n) (part n t e v % 2 ^ n) i
      ∙ ap₂ (λ (p q : Bool). p && not q) (has_ones n i) (has_mod n (part n t e v) i)
      ∙ at i (either (ltb i n))
      ∙ sym (has_mod n (part n t e (lo t e)) i))
    where
      high : hi t e ≡ v
      high = go (or_cases (eqb (lo t e) v) (eqb (hi t e) v) a.touch)
        where
          go : (eqb (lo t e) v ≡ true) ⊎ (eqb (hi t e) v ≡ true) → hi t e ≡ v
          go (inl w) = absurd (d (eqb-true (lo t e) v w))
          go (inr w) = eqb-true (hi t e) v w

      at : (i : ℕ) → (ltb i n ≡ true) ⊎ (ltb i n ≡ false)
          → (ltb i n && not (ltb i n && has (part n t e v) i))
          ≡ (ltb i n && has (part n t e (lo t e)) i)
      at i (inl w) =
          let l : i < nodes n = omega (arith, ltb-true i n w, a.valid.big) in
          rw w (sym (two-sides e v (lo t e) a.valid a.row (inr (refl, high)) i l))
      at i (inr w) = rw w

  -- ---- with a taxon lies no other row
  pub row_one : v < n → (r : ℕ) → r < rows n → has (part n t e v) (lo t r) ≡ true → r ≡ e
  row_one tax r l p =
      let low : lo t r < nodes n = omega (arith, (a.valid.order r l).0, (a.valid.order r l).1) in
      let w : v ≡ lo t r = eqb-true v (lo t r)
      (sym (leaf-side e v a.valid tax a.row a.touch (lo t r) low) ∙ p) in
      leaf-only v e a.valid tax a.row a.touch r l
      (joins_touch t r v (hi t r) (inl (sym w, refl)))
