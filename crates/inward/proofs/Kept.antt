-- What a change at one node leaves of the search for an order: the order so
-- far, the states of the other nodes, and what is given on. Assumes nothing.
use mathlib.Core.Path.{◌≡◌, sym, ap, ◌∙◌}
use mathlib.Core.Logic.{◌⊎◌, inl, inr}
use mathlib.Core.Bool.{true}
use mathlib.Core.List.{List}
use Prim.Native.Nat.{ℕ, suc, ◌≤◌, ◌<◌}
use native.Mathlib.Nat.{le_refl}
use native.Mathlib.Omega.{arith}
use lib.Bits.{bit_xor}
use lib.Dec.{eqb}
use borrow.Author.Tests.{eqb-true, eqb-false}
use Rattle.taxa.proofs.Bools.{Either, either}
use Rattle.tree.specs.Tree.{rows, nodes, touches, far, count}
use Rattle.table.specs.Between.{Rowed}
use Rattle.node_rows.specs.Between.{free, up, first, second}
use Rattle.inward.specs.Between.{node, Taken, Given, Order}
use Rattle.inward.specs.Search.{State, fresh, half, full, is_full, Climbs, At}
use Rattle.inward.proofs.Across.{not_free}
use Rattle.inward.proofs.Orders.{taken_more, Behind}
use Rattle.inward.proofs.Places.{Beside}

-- what was free at w was no row's, so that nothing given on is lost
pub given-kept : {n k w : ℕ} {t a b : List ℕ} → Rowed n t → Beside a b w k → second a w ≡ free
    → (first a w ≡ free) ⊎ (first b w ≡ first a w) → (u q : ℕ) → q < rows n → Given n t a u q
    → Given n t b u q
given-kept R B e f u q lq (inl h) = inl h
given-kept {w} {t} {a} {b} R B e f u q lq (inr h) =
    inr (h.0, go (far t q u) (either (eqb (far t q u) w)) f h.1)
  where
    go : (x : ℕ) → Either (eqb x w) → (first a w ≡ free) ⊎ (first b w ≡ first a w)
        → Behind a x q → Behind b x q
    go x (inr d) f (inl g) = inl (B.firsts x (eqb-false x w d) ∙ g)
    go x (inr d) f (inr g) = inr (B.seconds x (eqb-false x w d) ∙ g)
    go x (inl d) f (inr g) = absurd (not_free R lq (sym g ∙ ap (second a) (eqb-true x w d) ∙ e))
    go x (inl d) (inl f) (inl g) =
        absurd (not_free R lq (sym g ∙ ap (first a) (eqb-true x w d) ∙ f))
    go x (inl d) (inr f) (inl g) = let same = eqb-true x w d in inl (rw same (f ∙ rw same at g))

-- ---- all that is kept
-- b differs from a at node w alone, which is not in the order, and what is given
-- on in a is so in b
pub record Keeps (n : ℕ) (t a b : List ℕ) (k w : ℕ) : Type 0 where
  pub beside : Beside a b w k
  pub apart : (j : ℕ) → j < k → node a j ≡ w → ⊥
  pub givens : (u q : ℕ) → q < rows n → Given n t a u q → Given n t b u q

module _ {n i k v r w : ℕ} {t a b : List ℕ} (A : At n t a i k v r) (K : Keeps n t a b k w) where
  B : Beside a b w k
  B = K.beside

  O : Order n t a A.low k
  O = A.climbs.order

  leads-kept : (j : ℕ) → j < k → up b (node a j) ≡ up a (node a j)
  leads-kept j l = B.ups (node a j) (K.apart j l)

  taken_later : {l g h u x : ℕ} → l ≤ suc i → g ≤ h → g ≤ k → Taken a l g u x
      → Taken b (suc i) h u x
  taken_later p q s = taken_more a b p q (λ j l.
      let m : j < k = omega arith in (B.places j m, leads-kept j m))

  -- what is taken and given on stays taken, and so does row r
  pub taken-kept : {u x : ℕ} → Taken a A.low A.given u x → Taken b (suc i) k u x
  taken-kept = taken_later A.low_le A.given_le A.given_le

  pub row_kept : Taken b (suc i) k v r
  row_kept = taken_later (le_refl (suc i)) (le_refl k) (le_refl k) A.taken

  pub order-kept : Order n t b (suc i) k
  order-kept = record {
    inner = λ j l. rw (B.places j l) (O.inner j l);
    once = λ h j p q e. O.once h j p q (sym (B.places h p) ∙ e ∙ B.places j q);
    meets = λ j l. let d = K.apart j l in
        rw (B.places j l, leads-kept j l, B.firsts (node a j) d, B.seconds (node a j) d)
        (O.meets j l);
    behind_first = λ j l. rw (B.places j l, B.firsts (node a j) (K.apart j l))
        (taken_later A.low_le (le_refl j) (omega arith) (O.behind_first j l));
    behind_second = λ j l. rw (B.places j l, B.seconds (node a j) (K.apart j l))
        (taken_later A.low_le (le_refl j) (omega arith) (O.behind_second j l));
  }

  -- the state of w is another
  pub state-kept : {m : ℕ} → k ≤ m → (w < nodes n → State n t b (suc i) m k w) → (u : ℕ) → n ≤ u
      → u < nodes n → State n t b (suc i) m k u
  state-kept {m} lm at_w u p l = split (either (eqb u w))
    where
      go : (u ≡ w → ⊥) → State n t a A.low k A.given u → State n t b (suc i) m k u
      go d (fresh x y z M e f g) =
          fresh x y z M (B.ups u d ∙ e) (B.firsts u d ∙ f) (B.seconds u d ∙ g)
      go d (half x y z M e f g T) =
          half x y z M (B.ups u d ∙ e) (B.firsts u d ∙ f) (B.seconds u d ∙ g)
          (taken-kept T)
      go d (full j lj e) = full j (omega arith) (B.places j lj ∙ e)

      split : Either (eqb u w) → State n t b (suc i) m k u
      split (inl q) = let d = eqb-true u w q in rw d (at_w (omega arith))
      split (inr q) = go (eqb-false u w q) (A.climbs.state u p l)

  pub taxon-kept : n ≤ w → (u q : ℕ) → u < n → q < rows n → touches t q u ≡ true
      → up b u ≡ bit_xor free q
  taxon-kept p u q lu lq tq = B.ups u (λ d. omega arith) ∙ A.climbs.taxon u q lu lq tq

  -- where row r too is given on, every row that is taken is
  module _ (here : Given n t b v r) where
    pub taxa-kept : (u q : ℕ) → 0 < u → u < suc i → q < rows n → touches t q u ≡ true
        → Given n t b u q
    taxa-kept u q pu lu lq tq = go (A.other_taxa u q lu lq tq)
      where
        go : ((u ≡ v) × (q ≡ r)) ⊎ (u < A.low) → Given n t b u q
        go (inl d) = rw (d.0, d.1) here
        go (inr l) = K.givens u q lq (A.climbs.taxa-given u q pu l lq tq)

    pub nodes-kept : (j : ℕ) → j < k → Given n t b (node b j) (up b (node b j))
    nodes-kept j l = rw (B.places j l, leads-kept j l) (go (A.other_nodes j l))
      where
        go : ((node a j ≡ v) × (up a v ≡ r)) ⊎ (j < A.given)
            → Given n t b (node a j) (up a (node a j))
        go (inl d) = rw (d.0, d.1) here
        go (inr g) = K.givens (node a j) (up a (node a j)) (O.meets j l).x_lt
            (A.climbs.nodes-given j g)

    -- with the state of w and a count, the search has climbed on
    pub climbs-kept : n ≤ w → (w < nodes n → State n t b (suc i) k k w)
        → count (is_full n b) (nodes n) ≡ k → Climbs n t b (suc i) k k
    climbs-kept p at_w e = record {
      room = B.len ∙ A.climbs.room;
      taxon = taxon-kept p;
      order = order-kept;
      state = state-kept (le_refl k) at_w;
      counted = e;
      taxa-given = taxa-kept;
      nodes-given = nodes-kept;
    }
