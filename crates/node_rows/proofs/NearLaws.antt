-- Laws for the table of the three rows at each inner node. Assumes nothing.
use mathlib.Core.Path.{◌≡◌, sym, ap, ◌∙◌}
use mathlib.Core.Logic.{◌⊎◌, inl, inr}
use mathlib.Core.Bool.{Bool, true, ◌||◌, or_comm}
use mathlib.Core.List.{List, [], ◌∷◌}
use Prim.Native.Nat.{ℕ, ◌≤◌, ◌<◌}
use native.Mathlib.Omega.{arith}
use lib.Dec.{eqb, ltb}
use borrow.Author.Tests.{eqb-true, eqb-false, lt-ltb, le-ltb}
use Rattle.taxa.specs.Sets.{pick, has, size}
use Rattle.taxa.proofs.Bools.{Either, either}
use Rattle.tree.specs.Tree.{rows, nodes, touches, others, far, part, Valid}
use Rattle.tree.proofs.RowCounts.{Pair, pair}
use Rattle.tree.proofs.Forks.{node-side, less_f, less_g}
use Rattle.tree.proofs.Joins.{touch-node}
use Rattle.node_rows.specs.Between.{up, first, second, Meet, Near, other_first, other_second}

-- ---- the three rows at a node, in another order
module _ {n : ℕ} {t : List ℕ} {v x y z : ℕ} (M : Meet n t v x y z) where
  -- the first two exchanged
  pub meet_swap : Meet n t v y x z
  meet_swap = record {
    x_lt = M.y_lt;
    y_lt = M.x_lt;
    z_lt = M.z_lt;
    x_at = M.y_at;
    y_at = M.x_at;
    z_at = M.z_at;
    xy = λ d. M.xy (sym d);
    xz = M.yz;
    yz = M.xz;
    only = λ r l h. go (M.only r l h);
  }
    where
      go : {r : ℕ} → (r ≡ x) ⊎ ((r ≡ y) ⊎ (r ≡ z)) → (r ≡ y) ⊎ ((r ≡ x) ⊎ (r ≡ z))
      go (inl d) = inr (inl d)
      go (inr (inl d)) = inl d
      go (inr (inr d)) = inr (inr d)

  -- the last one first
  pub meet_turn : Meet n t v z x y
  meet_turn = record {
    x_lt = M.z_lt;
    y_lt = M.x_lt;
    z_lt = M.y_lt;
    x_at = M.z_at;
    y_at = M.x_at;
    z_at = M.y_at;
    xy = λ d. M.xz (sym d);
    xz = λ d. M.yz (sym d);
    yz = M.xy;
    only = λ r l h. go (M.only r l h);
  }
    where
      go : {r : ℕ} → (r ≡ x) ⊎ ((r ≡ y) ⊎ (r ≡ z)) → (r ≡ z) ⊎ ((r ≡ x) ⊎ (r ≡ y))
      go (inl d) = inr (inl d)
      go (inr (inl d)) = inr (inr d)
      go (inr (inr d)) = inl d

-- ---- of the three rows at an inner node one is left out: the other two are
-- the pair beside it, the lower one first
module _ {n : ℕ} {t : List ℕ} {v x y z : ℕ} (vt : Valid n t) (inner : n ≤ v)
    (M : Meet n t v x y z) where
  pub meet_pair : Pair n t x v y z ⊎ Pair n t x v z y
  meet_pair =
      let K = (pair x v vt M.x_lt M.x_at inner (touch-node x vt M.x_lt v M.x_at)).2 in
      both K (other K.f_lt K.f_p K.fa) (other K.g_lt K.g_p K.ga)
    where
      other : {r : ℕ} → r < rows n → touches t r v ≡ true → (r ≡ x → ⊥) → (r ≡ y) ⊎ (r ≡ z)
      other {r} l h d = go (M.only r l h)
        where
          go : (r ≡ x) ⊎ ((r ≡ y) ⊎ (r ≡ z)) → (r ≡ y) ⊎ (r ≡ z)
          go (inl e) = absurd (d e)
          go (inr o) = o

      both : {f g : ℕ} → Pair n t x v f g → (f ≡ y) ⊎ (f ≡ z) → (g ≡ y) ⊎ (g ≡ z)
          → Pair n t x v y z ⊎ Pair n t x v z y
      both P (inl a) (inl b) = absurd (omega (arith, P.fg))
      both P (inl a) (inr b) = inl (rw (← a, ← b) P)
      both P (inr a) (inl b) = inr (rw (← a, ← b) P)
      both P (inr a) (inr b) = absurd (omega (arith, P.fg))

  -- what lies with the node, the row left out taken away, is what lies beyond
  -- the two, and the node itself
  pub meet-side : (i : ℕ) → i < nodes n
      → has (part n t x v) i ≡ (has (part n t y (far t y v)) i || has (part n t z (far t z v)) i
      || eqb v i)
  meet-side i l = go meet_pair
    where
      Y : Bool
      Y = has (part n t y (far t y v)) i

      Z : Bool
      Z = has (part n t z (far t z v)) i

      go : Pair n t x v y z ⊎ Pair n t x v z y → has (part n t x v) i ≡ (Y || Z || eqb v i)
      go (inl K) = node-side vt M.x_lt M.x_at inner K i l
      go (inr K) = node-side vt M.x_lt M.x_at inner K i l
          ∙ ap (λ (b : Bool). b || eqb v i) (or_comm Z Y)

  -- beyond each of them lie fewer nodes
  pub meet-less : size (nodes n) (part n t y (far t y v)) < size (nodes n) (part n t x v)
  meet-less = go meet_pair
    where
      go : Pair n t x v y z ⊎ Pair n t x v z y
          → size (nodes n) (part n t y (far t y v)) < size (nodes n) (part n t x v)
      go (inl K) = less_f vt M.x_lt M.x_at inner K
      go (inr K) = less_g vt M.x_lt M.x_at inner K

  -- their list, whichever of them is lower
  meet-others : others t x v (rows n) ≡ pick (ltb y z) y z ∷ pick (ltb y z) z y ∷ []
  meet-others = go meet_pair
    where
      go : Pair n t x v y z ⊎ Pair n t x v z y
          → others t x v (rows n) ≡ pick (ltb y z) y z ∷ pick (ltb y z) z y ∷ []
      go (inl P) = rw (lt-ltb y z P.fg) P.list
      go (inr P) = rw (le-ltb y z (omega (arith, P.fg))) P.list

-- ---- the two rows that the code takes beside row e
pub near-others : {n : ℕ} {t a : List ℕ} {e v : ℕ} → Valid n t → Near n t a → e < rows n
    → touches t e v ≡ true → n ≤ v
    → others t e v (rows n) ≡ other_first e a v ∷ other_second e a v ∷ []
near-others {n} {t} {a} {e} {v} vt N le te inner =
    go (either (eqb (up a v) e)) (either (eqb (first a v) e))
  where
    M : Meet n t v (up a v) (first a v) (second a v)
    M = N.three v inner (touch-node e vt le v te)

    last : (e ≡ up a v → ⊥) → (e ≡ first a v → ⊥) → second a v ≡ e
    last p q = third (M.only e le te)
      where
        third : (e ≡ up a v) ⊎ ((e ≡ first a v) ⊎ (e ≡ second a v)) → second a v ≡ e
        third (inl d) = absurd (p d)
        third (inr (inl d)) = absurd (q d)
        third (inr (inr d)) = sym d

    go : Either (eqb (up a v) e) → Either (eqb (first a v) e)
        → others t e v (rows n) ≡ other_first e a v ∷ other_second e a v ∷ []
    go (inl p) q = rw p (meet-others vt inner (rw (eqb-true (up a v) e p) at M))
    go (inr p) (inl q) =
        rw (p, q) (meet-others vt inner (rw (eqb-true (first a v) e q) at (meet_swap M)))
    go (inr p) (inr q) =
        rw (p, q) (meet-others vt inner (rw (last (λ d. eqb-false (up a v) e p (sym d))
        (λ d. eqb-false (first a v) e q (sym d))) at (meet_turn M)))
