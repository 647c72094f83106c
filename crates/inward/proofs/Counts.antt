-- How many inner nodes there are, and how many of them are full: two rows came
-- to these. Assumes nothing.
use mathlib.Core.Path.{◌≡◌, sym, ap, ◌∙◌}
use mathlib.Core.Logic.{inl, inr}
use mathlib.Core.Bool.{true, false, not, ◌&&◌}
use mathlib.Core.List.{List}
use Prim.Native.Nat.{ℕ, zero, suc, ◌+◌, ◌-◌, ◌≤◌, ◌<◌}
use native.Mathlib.Omega.{arith}
use lib.Dec.{eqb, leb}
use borrow.Author.Tests.{eqb-true, eqb-false, eq-eqb, ne_eqb, leb-true, leb-false, le-leb}
use Rattle.taxa.specs.Sets.{tally}
use Rattle.taxa.proofs.Bools.{Either, either, and_left, and_both, and_false_r}
use Rattle.tree.specs.Tree.{nodes, count}
use Rattle.tree.proofs.RowCounts.{but, but_other, count_same, count-drop, count_sub, count_less}
use Rattle.node_rows.specs.Between.{free, second}
use Rattle.inward.specs.Search.{is_full, Climbs}

-- ---- how many inner nodes there are
count-from : (n m : ℕ) → count (leb n) m ≡ m - n
unfolding count
count-from n zero = omega arith
count-from n (suc m) = go (count-from n m) (either (leb n m))
  where
    go : count (leb n) m ≡ m - n → Either (leb n m)
        → tally (leb n m) + count (leb n) m ≡ suc m - n
    go ih (inl h) = rw h (omega (arith, leb-true n m h))
    go ih (inr h) = rw h (omega (arith, leb-false n m h))

inner-count : (n : ℕ) → count (leb n) (nodes n) ≡ n - 2
inner-count n = count-from n (nodes n) ∙ omega arith

-- ---- of them no more are full
module _ (n : ℕ) (a : List ℕ) where
  full-inner : (u : ℕ) → u < nodes n → is_full n a u ≡ true → leb n u ≡ true
  full-inner u l h = and_left (leb n u) _ h

  is-full : {u : ℕ} → n ≤ u → (second a u ≡ free → ⊥) → is_full n a u ≡ true
  is-full {u} inner d =
      and_both (leb n u) _ (le-leb n u inner) (ap not (ne_eqb (second a u) free d))

  pub not_full : (u : ℕ) → second a u ≡ free → is_full n a u ≡ false
  not_full u e = rw (eq-eqb (second a u) free e) (and_false_r (leb n u))

  full-few : count (is_full n a) (nodes n) ≤ n - 2
  full-few =
      omega (arith, inner-count n, count_sub (is_full n a) (leb n) (nodes n) full-inner)

  -- fewer, where an inner node is not full
  pub full_fewer : {u : ℕ} → n ≤ u → u < nodes n → second a u ≡ free
      → count (is_full n a) (nodes n) < n - 2
  full_fewer {u} inner l e =
      omega (
        arith,
        inner-count n,
        count_less (is_full n a) (leb n) (nodes n) u full-inner l (not_full u e) (le-leb n u inner),
      )

  -- as many, where each one is full
  pub full-all : ((u : ℕ) → n ≤ u → u < nodes n → second a u ≡ free → ⊥)
      → count (is_full n a) (nodes n) ≡ n - 2
  full-all h =
      omega (
        arith,
        inner-count n,
        full-few,
        count_sub (leb n) (is_full n a) (nodes n) (λ u l p.
            let inner = leb-true n u p in is-full inner (h u inner l)),
      )

pub climbs-few : {n i k g : ℕ} {t a : List ℕ} → Climbs n t a i k g → k ≤ n - 2
climbs-few {n} {a} C = omega (arith, C.counted, full-few n a)

-- ---- what was full, and is so now
module _ (n : ℕ) (a b : List ℕ) where
  same_full : (u : ℕ) → second b u ≡ second a u → is_full n b u ≡ is_full n a u
  same_full u e = ap (λ (x : ℕ). leb n u && not (eqb x free)) e

  -- as many, where no second place changes
  pub full_same : ((u : ℕ) → second b u ≡ second a u)
      → count (is_full n b) (nodes n) ≡ count (is_full n a) (nodes n)
  full_same h = count_same (is_full n b) (is_full n a) (nodes n) (λ u l. same_full u (h u))

  -- one more, where a row comes to that of an inner node alone
  pub full_more : {w : ℕ} → n ≤ w → w < nodes n → second a w ≡ free → (second b w ≡ free → ⊥)
      → ((u : ℕ) → (u ≡ w → ⊥) → second b u ≡ second a u)
      → count (is_full n b) (nodes n) ≡ suc (count (is_full n a) (nodes n))
  full_more {w} inner l e d same =
      count-drop (is_full n b) w (nodes n) (is-full n b inner d) l
      ∙ ap suc (count_same (but (is_full n b) w) (is_full n a) (nodes n)
      (λ u lu. go u (either (eqb u w))))
    where
      go : (u : ℕ) → Either (eqb u w) → but (is_full n b) w u ≡ is_full n a u
      go u (inl q) = rw q (and_false_r (is_full n b u)
          ∙ sym (ap (is_full n a) (eqb-true u w q) ∙ not_full n a w e))
      go u (inr q) =
          let ne = eqb-false u w q in
          but_other (is_full n b) w u ne ∙ same_full u (same u ne)
