-- A loop over an order gathers what is right for every row: at each node from
-- the two rows behind for the row that leads on. Assumes nothing.
use mathlib.Core.Path.{◌≡◌, sym, ap, ◌∙◌}
use mathlib.Core.Logic.{◌⊎◌, inl, inr}
use mathlib.Core.Bool.{true}
use mathlib.Core.List.{List}
use Prim.Native.Nat.{ℕ, suc, ◌-◌, ◌<◌}
use native.Mathlib.Omega.{arith}
use lib.Dec.{eqb, ltb}
use lib.ListN.{get_or, set, length-set}
use lib.Seq.{get_or-set_same, get_or-set_other}
use borrow.Author.Tests.{eqb-true, eqb-false, ltb-true, ltb-false}
use Rattle.taxa.proofs.Bools.{Either, either}
use Rattle.tree.specs.Tree.{hi, rows, touches, far}
use Rattle.tree.proofs.Joins.{hi-touch}
use Rattle.table.specs.Between.{Rowed}
use Rattle.node_rows.specs.Between.{up, first, second, Meet}
use Rattle.inward.specs.Between.{node, Taken, Given, Inward, Gathered}
use Rattle.inward.proofs.Across.{Across, across_x, across_y, across_z, across_far}
use Rattle.inward.proofs.Across.{across_is}

-- what s holds for row r is right for it and its end v
abbrev Holds : (ℕ → ℕ → ℕ → Type 0) → List ℕ → ℕ → ℕ → Type 0
Holds Right s r v = Right r v (get_or s r 0)

-- ---- a node of an order and its three rows
module _ {n : ℕ} {t a : List ℕ} {j : ℕ} (I : Inward n t a) (lj : j < n - 2) where
  meets : Meet n t (node a j) (up a (node a j)) (first a (node a j)) (second a (node a j))
  meets = I.order.meets j lj

  -- the row that leads on is given on from no other node: it would be one of
  -- the two behind here
  given_other : {w r : ℕ} → Rowed n t → (w ≡ node a j → ⊥) → Across n t w r → Given n t a w r
      → r ≡ up a (node a j) → ⊥
  given_other {w} {r} R d A g e = go g
    where
      over : far t r w ≡ node a j
      over = across_is A (rw e (across_x meets)) d

      go : Given n t a w r → ⊥
      go (inl z) = omega (arith, over, z, (I.order.inner j lj).0, R.ordered.big)
      go (inr (q, inl z)) = meets.xy (sym e ∙ sym z ∙ ap (first a) over)
      go (inr (q, inr z)) = meets.xz (sym e ∙ sym z ∙ ap (second a) over)

-- ---- at a node of the order the two rows behind are right: they are taken
-- before
module _ {Right : ℕ → ℕ → ℕ → Type 0} {n : ℕ} {t a s : List ℕ} {j : ℕ} (I : Inward n t a)
    (G : Gathered Right n t a s j) (lj : j < n - 2) where
  taken-right : {w x : ℕ} → Across n t w x → Taken a n j w x → Holds Right s x w
  taken-right {w} {x} A (inl p) = G.taxa w x p.0 p.1 A.row A.at
  taken-right {w} {x} A (inr (h, lh, e, d)) = rw (e, d) at (G.nodes h lh)

  pub gathered_first : Holds Right s (first a (node a j)) (far t (first a (node a j)) (node a j))
  gathered_first = taken-right (across_far (across_y (meets I lj))) (I.order.behind_first j lj)

  pub gathered_second :
      Holds Right s (second a (node a j)) (far t (second a (node a j)) (node a j))
  gathered_second = taken-right (across_far (across_z (meets I lj))) (I.order.behind_second j lj)

-- ---- the row that leads on is none of those held
module _ {Right : ℕ → ℕ → ℕ → Type 0} {n : ℕ} {t a s : List ℕ} {j : ℕ} (R : Rowed n t)
    (I : Inward n t a) (G : Gathered Right n t a s j) (lj : j < n - 2) where
  pub gathered_more : {x : ℕ} → Right (up a (node a j)) (node a j) x
      → Gathered Right n t a (set s (up a (node a j)) x) (suc j)
  gathered_more {x} p = record {
    room = omega (arith, length-set s (up a (node a j)) x, G.room);
    taxa = λ u r z l lr tr. kept
        (given_other I lj R (λ d. omega (arith, (I.order.inner j lj).0))
        (record { row = lr; at = tr }) (I.taxa-given u r z l lr tr))
        (G.taxa u r z l lr tr);
    nodes = λ h l. at h l (either (eqb h j));
  }
    where
      s' : List ℕ
      s' = set s (up a (node a j)) x

      kept : {r v : ℕ} → (r ≡ up a (node a j) → ⊥) → Holds Right s r v → Holds Right s' r v
      kept {r} d q = rw (get_or-set_other s (up a (node a j)) r x 0 d) q

      new : Holds Right s' (up a (node a j)) (node a j)
      new = rw (get_or-set_same s (up a (node a j)) x 0 (omega (arith, (meets I lj).x_lt, G.room))) p

      at : (h : ℕ) → h < suc j → Either (eqb h j) → Holds Right s' (up a (node a h)) (node a h)
      at h l (inl w) = rw (eqb-true h j w) new
      at h l (inr w) =
          let ne = eqb-false h j w in
          let lh : h < n - 2 = omega arith in
          kept (given_other I lj R (λ d. ne (I.order.once h j lh lj d))
          (across_x (meets I lh)) (I.nodes-given h lh)) (G.nodes h (omega arith))

-- ---- past all nodes every row is right, from one of its ends: its larger one
-- is a taxon or a node of the order, and the row leads on from it or is behind
module _ {Right : ℕ → ℕ → ℕ → Type 0} {n : ℕ} {t a s : List ℕ} (R : Rowed n t) (I : Inward n t a)
    (G : Gathered Right n t a s (n - 2)) where
  upto : {j : ℕ} → j < n - 2 → Gathered Right n t a s j
  upto lj =
      record { room = G.room; taxa = G.taxa; nodes = λ h l. G.nodes h (omega arith) }

  pub gathered_all : (r : ℕ) → r < rows n
      → (v : ℕ) × (touches t r v ≡ true) × Right r v (get_or s r 0)
  gathered_all r lr = go (either (ltb (hi t r) n))
    where
      Some : ℕ → Type 0
      Some x = (v : ℕ) × (touches t x v ≡ true) × Right x v (get_or s x 0)

      meet : (j : ℕ) (lj : j < n - 2)
          → (r ≡ up a (node a j)) ⊎ ((r ≡ first a (node a j)) ⊎ (r ≡ second a (node a j)))
          → Some r
      meet j lj (inl e) = rw e (node a j, (meets I lj).x_at, G.nodes j lj)
      meet j lj (inr (inl e)) =
          rw e (_, (across_far (across_y (meets I lj))).at, gathered_first I (upto lj) lj)
      meet j lj (inr (inr e)) =
          rw e (_, (across_far (across_z (meets I lj))).at, gathered_second I (upto lj) lj)

      go : Either (ltb (hi t r) n) → Some r
      go (inl w) = (
        hi t r,
        hi-touch t r,
        G.taxa (hi t r) r (omega (arith, (R.ordered.order r lr).0)) (ltb-true (hi t r) n w) lr
            (hi-touch t r),
      )
      go (inr w) =
          let (j, lj, e) = I.all (hi t r) (ltb-false (hi t r) n w) (R.ordered.order r lr).1 in
          meet j lj ((meets I lj).only r lr (rw e (hi-touch t r)))
