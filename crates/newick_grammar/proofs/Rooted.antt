-- A table whose row v joins node v to a node above it, each inner node save the
-- last being above two rows and the last above three, is valid.
-- Assumes nothing.
use mathlib.Core.Path.{◌≡◌, refl, ap, subst}
use mathlib.Core.Logic.{◌⊎◌, inl, inr, ◌↔◌}
use mathlib.Core.Bool.{true, false}
use mathlib.Core.List.{List}
use Prim.Native.Nat.{ℕ, zero, suc, ◌+◌, ◌*◌, ◌≤◌, ◌<◌}
use native.Mathlib.Nat.{le_refl}
use native.Mathlib.Omega.{arith}
use lib.Dec.{eqb, ltb}
use lib.ListN.{length}
use borrow.Author.Tests.{ltb-true, ltb-false, eqb-true}
use Rattle.taxa.specs.Sets.{tally}
use Rattle.taxa.proofs.Bools.{either}
use Rattle.tree.specs.Tree.{lo, hi, rows, nodes, touches, count, Chain, stay, up, down, Valid}
use Rattle.tree.proofs.RowCounts.{touch-tally, count_find}
use Rattle.tree.proofs.Rounds.{reach_chain}
use Rattle.newick_grammar.proofs.Low.{low, low_in, low-out, low-next}

-- how many of the rows below m have p as their larger end
abbrev pub under : List ℕ → ℕ → ℕ → ℕ
under t p m = count (λ r. eqb (hi t r) p) m

-- no row has p as its larger end
pub under_none : (t : List ℕ) (p m : ℕ) → ((r : ℕ) → r < m → hi t r ≡ p → ⊥)
    → under t p m ≡ 0
under_none t p m h = omega (arith, some)
  where
    some : 0 < under t p m → ⊥
    some c = let f = count_find (λ r. eqb (hi t r) p) m c in
        h f.0 f.1 (eqb-true (hi t f.0) p f.2)

-- row v joins node v to a larger one, which is no taxon; two rows end so at
-- each inner node, three at the last
pub record Rooted (n : ℕ) (t : List ℕ) : Type 0 where
  pub len : length t ≡ 2 * rows n
  pub own : (r : ℕ) → r < rows n → lo t r ≡ r
  pub above : (r : ℕ) → r < rows n
      → (r < hi t r) × (n ≤ hi t r) × (hi t r < nodes n)
  pub twice : (p : ℕ) → n ≤ p
      → under t p (rows n) ≡ 2 * low (rows n) p + 3 * tally (eqb (rows n) p)

module _ {n : ℕ} {t : List ℕ} (big : 4 ≤ n) (w : Rooted n t) where
  -- the rows at a node: its own, and those below it
  at-node : (v k : ℕ) → k ≤ rows n
      → count (λ r. touches t r v) k ≡ low k v + under t v k
  unfolding count
  at-node v zero h = omega (arith, low-out 0 v (omega arith))
  at-node v (suc k) h =
      let o : lo t k ≡ k = w.own k h in
      let a = w.above k h in
      let both : tally (touches t k v) ≡ tally (eqb (lo t k) v) + tally (eqb (hi t k) v)
      = touch-tally t k v (λ e. omega (arith, a.0)) in
      let mine : tally (eqb (lo t k) v) ≡ tally (eqb k v) = ap (λ (x : ℕ). tally (eqb x v)) o in
      omega (arith, both, mine, low-next k v, at-node v k (omega arith))

  -- a chain that reaches x can go on to the last node, and back
  abbrev Tied : ℕ → ℕ → Type 0
  Tied u x = Chain n t (rows n) u x ↔ Chain n t (rows n) u (rows n)

  -- at the last node there is nothing to go
  at_last : (u x : ℕ) → rows n ≡ x → Tied u x
  at_last u x e = subst (Tied u) e (λ c. c, λ c. c)

  -- by the row of x, d being how far the last node is at most
  climb : (d u x : ℕ) → x ≤ rows n → rows n ≤ x + d → Tied u x
  climb zero u x h l = at_last u x (omega arith)
  climb (suc d) u x h l = go (climb d u) (either (ltb x (rows n)))
    where
      go : ((y : ℕ) → y ≤ rows n → rows n ≤ y + d → Tied u y)
          → (ltb x (rows n) ≡ true) ⊎ (ltb x (rows n) ≡ false) → Tied u x
      go ih (inl b) =
          let m : x < rows n = ltb-true x (rows n) b in
          let a = w.above x m in
          let k = ih (hi t x) (omega (arith, a.2)) (omega (arith, a.0)) in (
            λ c. k.0 (up x m (λ e. omega arith) (w.own x m) refl c),
            λ c. down x m (λ e. omega arith) (w.own x m) refl (k.1 c),
          )
      go ih (inr b) = at_last u x (omega (arith, ltb-false x (rows n) b))

  -- from node 0 up to the last node, and down to any
  from_zero : (v : ℕ) → v ≤ rows n → Chain n t (rows n) 0 v
  from_zero v h = (climb (rows n) 0 v h (omega arith)).1
      ((climb (rows n) 0 0 (omega arith) (omega arith)).0 stay)

  -- so each node has its rows and is reached
  pub rooted_valid : Valid n t
  rooted_valid =
      let deg : (v : ℕ) → count (λ r. touches t r v) (rows n) ≡ low (rows n) v + under t v (rows n)
      = λ v. at-node v (rows n) (le_refl (rows n)) in
      let ends : (r : ℕ) → r < rows n → (lo t r < hi t r) × (hi t r < nodes n)
      = λ r h. (omega (arith, w.own r h, (w.above r h).0), (w.above r h).2) in
      record {
        big = big;
        len = w.len;
        order = ends;
        leaf = λ v h. omega (
          arith,
          deg v,
          low_in (rows n) v (omega arith),
          under_none t v (rows n) (λ r l e. omega (arith, (w.above r l).1)),
        );
        inner = λ v h l. omega (
          arith,
          deg v,
          w.twice v h,
          low-next (rows n) v,
          low_in (suc (rows n)) v (omega arith),
        );
        connected = record {
          reached = λ v h. (reach_chain n t (rows n) 0 v
              (λ r l. (omega (arith, (ends r l).0, (ends r l).1), (ends r l).1)) (omega arith)).1
              (from_zero v (omega arith));
        };
      }
