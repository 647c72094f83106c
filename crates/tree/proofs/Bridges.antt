-- In a connected table each row parts its two ends: what is reached from its
-- first end by the other rows does not hold the second.
-- The count: each row but e adds one node at most, so with all but one of the
-- rows not all nodes are reached. Assumes nothing.
use mathlib.Core.Path.{◌≡◌, refl, sym, ap, ap₂, ◌∙◌, subst}
use mathlib.Core.Logic.{◌⊎◌, inl, inr}
use mathlib.Core.Bool.{Bool, true, false, not, ◌&&◌, ◌||◌, false≢true}
use mathlib.Core.List.{List}
use Prim.Native.Nat.{ℕ, zero, suc, ◌+◌, ◌^◌, ◌≤◌, ◌<◌}
use native.Mathlib.Nat.{le_refl}
use native.Mathlib.Omega.{arith}
use lib.Dec.{eqb}
use lib.Arith.{lt_of_le-ne}
use borrow.Author.Tests.{eqb-true, eqb-false, ne_eqb}
use Rattle.taxa.specs.Sets.{pick, has, add, tally, size, Sub}
use Rattle.taxa.proofs.Bools.{either}
use Rattle.taxa.proofs.Sets.{has-add}
use Rattle.taxa.proofs.Sizes.{tally_le, tally_one, size-all, size-add, size-only, add_in, sub_trans}
use Rattle.taxa.proofs.Sizes.{sub_add, add-has}
use Rattle.tree.specs.Tree.{lo, hi, rows, nodes, spread, round, rounds, part, Connected}
use Rattle.tree.proofs.Rounds.{Flat, Ends, part_one, part_start, part_flat}

-- ---- each row but e adds one node at most
unfoldable pub in_row : List ℕ → ℕ → ℕ → ℕ → Bool
in_row t e s r = not (eqb r e) && (has s (lo t r) && has s (hi t r))

-- how many of the first k rows, without e, have both ends in s
unfoldable pub inside : List ℕ → ℕ → ℕ → ℕ → ℕ
inside t e s zero = 0
inside t e s (suc k) = tally (in_row t e s k) + inside t e s k

and3 : (p q r q' r' : Bool) → (q ≡ true → q' ≡ true) → (r ≡ true → r' ≡ true)
    → (p && (q && r)) ≡ true → (p && (q' && r')) ≡ true
and3 true true true q' r' h l x = ap₂ ◌&&◌ (h refl) (l refl)
and3 true true false q' r' h l x = absurd (false≢true x)
and3 true false r q' r' h l x = absurd (false≢true x)
and3 false q r q' r' h l x = x

module _ (t : List ℕ) (e : ℕ) where
  in_row_sub : (a b r : ℕ) → Sub a b → in_row t e a r ≡ true → in_row t e b r ≡ true
  unfolding in_row Sub
  in_row_sub a b r h = and3 (not (eqb r e)) (has a (lo t r)) (has a (hi t r)) (has b (lo t r))
      (has b (hi t r)) (h (lo t r)) (h (hi t r))

  inside_sub : (k a b : ℕ) → Sub a b → inside t e a k ≤ inside t e b k
  unfolding inside
  inside_sub zero a b h = le_refl 0
  inside_sub (suc k) a b h =
      omega (
        arith,
        tally_le (in_row t e a k) (in_row t e b k) (in_row_sub a b k h),
        inside_sub k a b h,
      )

  inside_more : (k a b r : ℕ) → Sub a b → r < k → in_row t e a r ≡ false → in_row t e b r ≡ true
      → inside t e a k < inside t e b k
  unfolding inside
  inside_more zero a b r h l p q = absurd (omega arith)
  inside_more (suc k) a b r h l p q = go (λ l'. inside_more k a b r h l' p q) (either (eqb r k))
    where
      go : (r < k → inside t e a k < inside t e b k) → (eqb r k ≡ true) ⊎ (eqb r k ≡ false)
          → tally (in_row t e a k) + inside t e a k < tally (in_row t e b k) + inside t e b k
      go ih (inl w) =
          let p' : in_row t e a k ≡ false = ap (in_row t e a) (sym (eqb-true r k w)) ∙ p in
          let q' : in_row t e b k ≡ true = ap (in_row t e b) (sym (eqb-true r k w)) ∙ q in
          rw (p', q') (omega (arith, inside_sub k a b h))
      go ih (inr w) = omega (
        arith,
        ih (lt_of_le-ne (omega arith) (eqb-false r k w)),
        tally_le (in_row t e a k) (in_row t e b k) (in_row_sub a b k h),
      )

  inside_le : (k s : ℕ) → inside t e s k ≤ k
  unfolding inside
  inside_le zero s = le_refl 0
  inside_le (suc k) s = omega (arith, inside_le k s, tally_one (in_row t e s k))

  -- row e is not counted
  inside_lt : (k s : ℕ) → e < k → inside t e s k < k
  unfolding inside in_row
  inside_lt zero s h = absurd (omega arith)
  inside_lt (suc k) s h = go (λ l. inside_lt k s l) (either (eqb k e))
    where
      go : (e < k → inside t e s k < k) → (eqb k e ≡ true) ⊎ (eqb k e ≡ false)
          → tally (in_row t e s k) + inside t e s k < suc k
      go ih (inl w) = rw w (omega (arith, inside_le k s))
      go ih (inr w) = omega (
        arith,
        ih (lt_of_le-ne (omega arith) (λ d. eqb-false k e w (sym d))),
        tally_one (in_row t e s k),
      )

  -- no more nodes than rows inside, and one
  Few : ℕ → ℕ → ℕ → Type 0
  Few m k s = size k s ≤ suc (inside t e s m)

  few-spread : (m k r s : ℕ) → r < m → (r ≡ e → ⊥) → Few m k s
      → Few m k (spread (lo t r) (hi t r) s)
  unfolding Few in_row
  few-spread m k r s h d few = go (has s (lo t r)) (has s (hi t r)) refl refl
    where
      u : ℕ
      u = lo t r

      v : ℕ
      v = hi t r

      new : ℕ
      new = add (add s u) v

      up : Sub s new
      up = sub_trans s (add s u) new (sub_add s u) (sub_add (add s u) v)

      now_in : in_row t e new r ≡ true
      now_in = ap₂ ◌&&◌ (ap not (ne_eqb r e d))
          (ap₂ ◌&&◌ (has-add (add s u) v u ∙ ap (λ (b : Bool). b || eqb v u) (add-has s u))
          (add-has (add s u) v))

      was_out : (p q : Bool) → has s u ≡ p → has s v ≡ q → (p && q) ≡ false → in_row t e s r ≡ false
      was_out p q hp hq x = ap₂ ◌&&◌ (ap not (ne_eqb r e d)) (ap₂ ◌&&◌ hp hq ∙ x)

      go : (p q : Bool) → has s u ≡ p → has s v ≡ q
          → size k (pick (p || q) new s) ≤ suc (inside t e (pick (p || q) new s) m)
      go true true hp hq =
          let same : new ≡ s = ap (λ (x : ℕ). add x v) (add_in s u hp) ∙ add_in s v hq in
          rw same few
      go true false hp hq =
          let one : size k new ≤ suc (size k s) =
          subst (λ (x : ℕ). size k (add x v) ≤ suc (size k s)) (sym (add_in s u hp))
          (size-add k s v) in
          omega (arith, inside_more m s new r up h (was_out true false hp hq refl) now_in)
      go false true hp hq =
          let still : has (add s u) v ≡ true = has-add s u v ∙ ap (λ (b : Bool). b || eqb u v) hq in
          let one : size k new ≤ suc (size k s) =
          subst (λ (x : ℕ). size k x ≤ suc (size k s)) (sym (add_in (add s u) v still))
          (size-add k s u) in
          omega (arith, inside_more m s new r up h (was_out false true hp hq refl) now_in)
      go false false hp hq = few

  few-round : (m k j s : ℕ) → j ≤ m → Few m k s → Few m k (round t e j s)
  unfolding round
  few-round m k zero s h few = few
  few-round m k (suc j) s h few = go (few-round m k j s (omega arith) few) (eqb j e) refl
    where
      go : Few m k (round t e j s) → (c : Bool) → eqb j e ≡ c
          → Few m k (pick c (round t e j s) (spread (lo t j) (hi t j) (round t e j s)))
      go ih true w = ih
      go ih false w = few-spread m k j (round t e j s) h (eqb-false j e w) ih

  few-rounds : (m k j s : ℕ) → Few m k s → Few m k (rounds t e m j s)
  unfolding rounds
  few-rounds m k zero s few = few
  few-rounds m k (suc j) s few =
      few-round m k m (rounds t e m j s) (le_refl m) (few-rounds m k j s few)

-- ---- the theorem
pub record Table (n : ℕ) (t : List ℕ) : Type 0 where
  pub ends : Ends t (rows n) (nodes n)
  pub connected : Connected n t

module _ {n : ℕ} {t : List ℕ} (e : ℕ) (big : 4 ≤ n) (tab : Table n t) (he : e < rows n) where
  mine : ℕ
  mine = part n t e (lo t e)

  mine_few : size (nodes n) mine ≤ suc (inside t e mine (rows n))
  unfolding mine part Few
  mine_few = few-rounds t e (rows n) (nodes n) (nodes n) (2 ^ lo t e)
      (omega (arith, size-only (nodes n) (lo t e)))

  mine_first : has mine (lo t e) ≡ true
  unfolding mine
  mine_first = part_start n t e (lo t e)

  mine_flat : Flat t e (rows n) (has mine)
  unfolding mine
  mine_flat = part_flat n t e (lo t e) tab.ends (tab.ends e he).0

  -- were the second end there too, all nodes were, and they are too many
  not_both : has mine (hi t e) ≡ true → ⊥
  not_both h = omega (
    arith,
    mine_few,
    inside_lt t e (rows n) mine he,
    size-all (nodes n) mine all_in,
  )
    where
      flat : Flat t (rows n) (rows n) (has mine)
      flat r l d = go (either (eqb r e))
        where
          go : (eqb r e ≡ true) ⊎ (eqb r e ≡ false) → has mine (lo t r) ≡ has mine (hi t r)
          go (inl w) = rw (eqb-true r e w) (mine_first ∙ sym h)
          go (inr w) = mine_flat r l (eqb-false r e w)

      all_in : (i : ℕ) → i < nodes n → has mine i ≡ true
      all_in i l =
          part_one n t (rows n) 0 (has mine) flat i (tab.connected.reached i l)
          ∙ sym (part_one n t (rows n) 0 (has mine) flat (lo t e)
          (tab.connected.reached (lo t e) (tab.ends e he).0))
          ∙ mine_first

  pub second-out : has (part n t e (lo t e)) (hi t e) ≡ false
  unfolding mine
  second-out = go (either (has mine (hi t e)))
    where
      go : (has mine (hi t e) ≡ true) ⊎ (has mine (hi t e) ≡ false) → has mine (hi t e) ≡ false
      go (inl p) = absurd (not_both p)
      go (inr p) = p
