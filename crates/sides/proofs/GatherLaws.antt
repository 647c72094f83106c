-- The sides of the rows at taxa, and those gathered along an order of the inner
-- nodes. Assumes nothing.
use mathlib.Core.Path.{◌≡◌, refl, sym, ap, ◌∙◌, subst}
use mathlib.Core.Logic.{inl, inr}
use mathlib.Core.List.{List}
use Prim.Native.Nat.{ℕ, ◌+◌, ◌-◌, ◌^◌, ◌≤◌, ◌<◌}
use native.Mathlib.Numerals.{add-one}
use native.Mathlib.Omega.{arith}
use lib.Dec.{eqb}
use lib.ListN.{length, set, length-set}
use lib.Seq.{get_or-set_same, get_or-set_other}
use borrow.Author.Tests.{eqb-true, eqb-false}
use Rattle.taxa.specs.Most.{most}
use Rattle.taxa.proofs.Bools.{Either, either}
use Rattle.tree.specs.Tree.{lo, rows, nodes, far}
use Rattle.tree.specs.Splits.{side}
use Rattle.tree.specs.Refusals.{Accepted}
use Rattle.tree.proofs.Joins.{Joins, lo-touch, touch_joins}
use Rattle.tree.proofs.Forks.{taxa_one}
use Rattle.node_rows.specs.Between.{up}
use Rattle.inward.specs.Between.{node, Inward, Gathered}
use Rattle.inward.proofs.Gathers.{gathered_first, gathered_second, gathered_more, gathered_all}
use Rattle.sides.specs.Between.{HasSide, Sides, AtTaxa, Behind}
use Rattle.sides.proofs.LookLaws.{accepted_rowed}

-- ---- the rows at a taxon, one row more
pub at-taxa-none : {n : ℕ} {t s : List ℕ} → length s ≡ rows most → AtTaxa n t s 0
at-taxa-none room = record { room = room; right = λ r l. absurd (omega arith) }

module _ {n : ℕ} {t s : List ℕ} {i v : ℕ} (T : AtTaxa n t s i) (h : v ≡ lo t i) where
  pub at_taxa_skip : n ≤ v → AtTaxa n t s (i + 1)
  at_taxa_skip q = record { room = T.room; right = λ r l p. go r l p (either (eqb r i)) }
    where
      go : (r : ℕ) → r < i + 1 → lo t r < n → Either (eqb r i) → HasSide n t s r
      go r l p (inl w) = absurd (omega (arith, ap (lo t) (eqb-true r i w)))
      go r l p (inr w) = T.right r (omega (arith, eqb-false r i w)) p

  pub at_taxa_more : {x : ℕ} → Accepted n t → i < rows n → v < n → x ≡ 2 ^ v
      → AtTaxa n t (set s i x) (i + 1)
  unfolding side
  at_taxa_more {x} good li q e = record {
    room = length-set s i x ∙ T.room;
    right = λ r l p. go r l p (either (eqb r i));
  }
    where
      new : x ≡ side n t i
      new = e ∙ ap (λ (u : ℕ). 2 ^ u) h
          ∙ taxa_one i (lo t i) good.valid (omega arith) li (lo-touch t i)

      go : (r : ℕ) → r < i + 1 → lo t r < n → Either (eqb r i) → HasSide n t (set s i x) r
      go r l p (inl w) =
          subst (HasSide n t (set s i x)) (sym (eqb-true r i w))
          (get_or-set_same s i x 0 (omega (arith, T.room, good.few)) ∙ new)
      go r l p (inr w) =
          let d = eqb-false r i w in
          get_or-set_other s i r x 0 d ∙ T.right r (omega arith) p

-- ---- x is the side of row r, from whichever end v it is seen
abbrev IsSide : ℕ → List ℕ → ℕ → ℕ → ℕ → Type 0
IsSide n t r v x = x ≡ side n t r

-- the sides are gathered at the first j nodes of an order of a tree
pub record Gathering (n : ℕ) (t a s : List ℕ) (j : ℕ) : Type 0 where
  pub good : Accepted n t
  pub inward : Inward n t a
  pub room : length s ≡ rows most
  pub gathered : Gathered (IsSide n t) n t a s j

-- before the first: a row at a taxon has one for its smaller end
pub gathering_none : {n : ℕ} {t a s : List ℕ}
    → (Accepted n t) × (Inward n t a) × (AtTaxa n t s (rows n)) → Gathering n t a s 0
gathering_none {n} {t} (good, I, T) = record {
  good = good;
  inward = I;
  room = T.room;
  gathered = record {
    room = omega (arith, T.room, good.few);
    taxa = λ u r z l lr tr. T.right r lr (low u r l lr (touch_joins t r u tr));
    nodes = λ j l. absurd (omega arith);
  };
}
  where
    low : (u r : ℕ) → u < n → r < rows n → Joins t r u (far t r u) → lo t r < n
    low u r l lr (inl j) = omega (arith, j.0)
    low u r l lr (inr j) = omega (arith, j.1, (good.valid.order r lr).0)

module _ {n : ℕ} {t a s : List ℕ} {j : ℕ} (G : Gathering n t a s j) where
  module _ (lj : j < n - 2) where
    pub gathering_node : node a j < nodes most
    gathering_node = omega (arith, (G.inward.order.inner j lj).1, G.good.few)

    pub gathering_behind : Behind n t a s (node a j)
    gathering_behind = record {
      good = G.good;
      inner = (G.inward.order.inner j lj).0;
      v_lt = (G.inward.order.inner j lj).1;
      meet = G.inward.order.meets j lj;
      first-side = gathered_first G.inward G.gathered lj;
      second-side = gathered_second G.inward G.gathered lj;
    }

    pub gathering_more : {s' : List ℕ}
        → s' ≡ set s (up a (node a j)) (side n t (up a (node a j))) → Gathering n t a s' (j + 1)
    gathering_more h = rw (h, add-one j) (record {
      good = G.good;
      inward = G.inward;
      room = length-set s (up a (node a j)) (side n t (up a (node a j))) ∙ G.room;
      gathered = gathered_more (accepted_rowed G.good) G.inward G.gathered lj refl;
    })

  pub gathering_all : j ≡ n - 2 → Sides n t s
  gathering_all e =
      let all = gathered_all (accepted_rowed G.good) G.inward (rw e at G.gathered) in
      record { room = G.room; right = λ r l. (all r l).2 }
