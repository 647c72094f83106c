-- What a whole order says of the table: when all taxa are through, it holds all
-- inner nodes where and only where the table is a tree. Assumes nothing.
use mathlib.Core.Path.{◌≡◌, sym, ◌∙◌, subst}
use mathlib.Core.Logic.{inl, inr}
use mathlib.Core.Bool.{Bool, true, false, false≢true}
use mathlib.Core.List.{List}
use Prim.Native.Nat.{ℕ, zero, suc, ◌+◌, ◌-◌, ◌≤◌, ◌<◌}
use native.Mathlib.Omega.{arith}
use lib.Dec.{eqb, ltb}
use lib.Arith.{lt_of_le-ne}
use borrow.Author.Tests.{eqb-true, eqb-false, eq-eqb, ltb-true, ltb-false}
use Rattle.taxa.proofs.Bools.{Either, either, bool_eq}
use Rattle.tree.specs.Tree.{rows, nodes, touches, far, every, from_zero, Valid}
use Rattle.tree.proofs.Rounds.{part_start}
use Rattle.tree.proofs.RowCounts.{every-all, all-every, count_find}
use Rattle.table.specs.Between.{Rowed}
use Rattle.node_rows.specs.Between.{up, Near}
use Rattle.inward.specs.Between.{node, Taken, Given, Order, Inward, Arranged}
use Rattle.inward.specs.Search.{Climbs}
use Rattle.inward.proofs.Counts.{full_fewer, full-all}
use Rattle.inward.proofs.Across.{Across, across_x, across_far, across_back, across_node}
use Rattle.inward.proofs.Across.{across_zero}
use Rattle.inward.proofs.Orders.{node-meets, node_behind, state-full}
use Rattle.inward.proofs.Filled.{tree_full}

-- ---- all taxa are through, and as many nodes are full as there are inner ones:
-- no inner node is left out
whole-order : {n k : ℕ} {t a : List ℕ} → Climbs n t a n k k → k ≡ n - 2 → Inward n t a
whole-order {n} {k} {t} {a} C e = record {
  room = C.room;
  order = subst (λ (m : ℕ). Order n t a n m) e C.order;
  all = λ v inner l.
      let (j, lj, d) = state-full (C.state v inner l) (λ s.
      omega (arith, C.counted, full_fewer n a inner l s)) in
      (j, omega arith, d);
  taxa-given = C.taxa-given;
  nodes-given = λ j l. C.nodes-given j (omega arith);
}

-- ---- an order of all inner nodes
pub inward-near : {n : ℕ} {t a : List ℕ} → Inward n t a → Near n t a
inward-near I = record {
  room = I.room;
  three = λ v inner l. let (j, lj, e) = I.all v inner l in node-meets I.order lj e;
}

-- ---- from taxon 0 every node is reached, the last of the order first
module _ {n : ℕ} {t a : List ℕ} (R : Rowed n t) (I : Inward n t a) where
  -- a row behind node h is taken from node j: j comes before h
  before : (h j x : ℕ) → h < n - 2 → j < n - 2 → Taken a n h (node a j) x → j < h
  before h j x lh lj (inl p) = absurd (omega (arith, p.1, (I.order.inner j lj).0))
  before h j x lh lj (inr (i, p, q, e)) =
      omega (arith, p, I.order.once i j (omega (arith, p)) lj q)

  -- a row's end is reached where the node that it is given on to is
  reached_across : (w x : ℕ) → Across n t w x → Given n t a w x
      → ((h : ℕ) → h < n - 2 → Taken a n h w x → from_zero n t (node a h) ≡ true)
      → from_zero n t w ≡ true
  reached_across w x A G step = across_zero R A (go G)
    where
      go : Given n t a w x → from_zero n t (far t x w) ≡ true
      go (inl z) = rw z (part_start n t (rows n) 0)
      go (inr (inner, p)) =
          let (h, lh, e) = I.all (far t x w) inner (across_node R (across_far A)) in
          rw e at (step h lh (rw (across_back R A) at (node_behind I.order lh e p)))

  node-reached : (m j : ℕ) → n - 2 ≤ j + m → j < n - 2 → from_zero n t (node a j) ≡ true
  node-reached zero j h l = absurd (omega arith)
  node-reached (suc m) j h l =
      reached_across (node a j) (up a (node a j)) (across_x (I.order.meets j l))
      (I.nodes-given j l)
      (λ i li T. node-reached m i (omega (arith, before i j (up a (node a j)) li l T)) li)

  whole-reached : (v : ℕ) → v < nodes n → from_zero n t v ≡ true
  whole-reached v l = go (either (ltb v n)) (either (eqb v 0))
    where
      all-nodes : (h : ℕ) → h < n - 2 → from_zero n t (node a h) ≡ true
      all-nodes h lh = node-reached n h (omega arith) lh

      go : Either (ltb v n) → Either (eqb v 0) → from_zero n t v ≡ true
      go (inl h) (inl z) = rw (eqb-true v 0 z) (part_start n t (rows n) 0)
      go (inl h) (inr z) =
          let lv = ltb-true v n h in
          let (r, lr, tr) = count_find (λ q. touches t q v) (rows n)
          (omega (arith, R.leaf v lv)) in
          reached_across v r (record { row = lr; at = tr })
          (I.taxa-given v r (lt_of_le-ne (omega arith) (λ d. eqb-false v 0 z (sym d))) lv lr tr)
          (λ i li T. all-nodes i li)
      go (inr h) z =
          let (j, lj, e) = I.all v (ltb-false v n h) l in
          rw e at (all-nodes j lj)

-- ---- what the search for an order leaves
-- the table is a tree where every node is reached
valid_of : {n : ℕ} {t : List ℕ} → Rowed n t → every (from_zero n t) (nodes n) ≡ true → Valid n t
valid_of {n} {t} R h = record {
  big = R.ordered.big;
  len = R.ordered.len;
  order = R.ordered.order;
  leaf = R.leaf;
  inner = R.inner;
  connected = record { reached = every-all (from_zero n t) (nodes n) h };
}

-- when all taxa are through, the number of nodes tells
pub arranged_tree : {n k : ℕ} {t a : List ℕ} {b : Bool} → Rowed n t → Climbs n t a n k k
    → b ≡ eqb k (n - 2) → Arranged n t b a
arranged_tree {n} {k} {t} {a} {b} R C e = record {
  all = bool_eq b (every (from_zero n t) (nodes n))
      (λ h. all-every (from_zero n t) (nodes n) (whole-reached R (order h)))
      (λ h. e ∙ eq-eqb k (n - 2)
      (sym C.counted ∙ full-all n a (tree_full R C (valid_of R h))));
  inward = order;
}
  where
    order : b ≡ true → Inward n t a
    order h = whole-order C (eqb-true k (n - 2) (sym e ∙ h))

-- where the table is no tree
pub arranged_ring : {n : ℕ} {t a : List ℕ} → Rowed n t → (Valid n t → ⊥) → Arranged n t false a
arranged_ring {n} {t} R no_tree = record {
  all = bool_eq false (every (from_zero n t) (nodes n)) (λ h. absurd (false≢true h))
      (λ h. absurd (no_tree (valid_of R h)));
  inward = λ h. absurd (false≢true h);
}
