-- In a tree the rows of an order are taken from the end away from taxon 0, so
-- that the way inward meets no taxon but 0 and no node again. Assumes nothing.
use mathlib.Core.Path.{◌≡◌, refl, sym, ap, ap₂, ◌∙◌}
use mathlib.Core.Logic.{◌⊎◌, inl, inr}
use mathlib.Core.Bool.{Bool, false, not, ◌||◌, true≢false}
use mathlib.Core.List.{List}
use Prim.Native.Nat.{ℕ, zero, suc, ◌≤◌, ◌<◌}
use native.Mathlib.Nat.{le_refl}
use native.Mathlib.Omega.{arith}
use lib.Dec.{eqb}
use borrow.Author.Tests.{ne_eqb}
use Rattle.taxa.specs.Sets.{has}
use Rattle.taxa.proofs.Bools.{or_neither}
use Rattle.tree.specs.Tree.{far, part, Valid}
use Rattle.tree.proofs.Forks.{leaf-side}
use Rattle.tree.proofs.Colourings.{two-sides}
use Rattle.node_rows.specs.Between.{free, up, first, second, Meet}
use Rattle.node_rows.proofs.NearLaws.{meet-side}
use Rattle.inward.specs.Between.{node, Taken, Order}
use Rattle.inward.specs.Search.{At}
use Rattle.inward.proofs.Across.{Across, across_y, across_z, across_joins}
use Rattle.inward.proofs.Across.{across_far}
use Rattle.inward.proofs.Orders.{taken_more, Behind, node-meets, node_behind, state-full}
use Rattle.inward.proofs.Arrives.{at_across, Arrives, arrive_across, arrive_back}
use Rattle.inward.proofs.Arrives.{arrive_state}

-- taxon 0 does not lie with end w of row x
abbrev pub Away : ℕ → List ℕ → ℕ → ℕ → Type 0
Away n t x w = has (part n t x w) 0 ≡ false

-- ---- the rows at a node of a tree
module _ {n : ℕ} {t : List ℕ} (vt : Valid n t) where
  -- taxon 0 lies with one of the two ends of a row
  pub zero_far : {v r : ℕ} → Across n t v r
      → has (part n t r (far t r v)) 0 ≡ not (has (part n t r v) 0)
  zero_far {v} {r} A =
      two-sides r v (far t r v) vt A.row (across_joins A) 0 (omega (arith, vt.big))

  away_once : {v r : ℕ} → Across n t v r → Away n t r v → Away n t r (far t r v) → ⊥
  away_once A h f = true≢false (ap not (sym h) ∙ sym (zero_far A) ∙ f)

  -- it does not lie with another taxon
  away_taxon : {w x : ℕ} → Across n t w x → 0 < w → w < n → Away n t x w
  away_taxon {w} {x} A pos lw =
      leaf-side x w vt lw A.row A.at 0 (omega (arith, vt.big))
      ∙ ne_eqb w 0 (λ d. omega arith)

  -- it lies beyond row x of an inner node where and only where it lies beyond
  -- neither of the two others
  module _ {v x y z : ℕ} (inner : n ≤ v) (M : Meet n t v x y z) where
    abbrev Y : Bool
    Y = has (part n t y (far t y v)) 0

    abbrev Z : Bool
    Z = has (part n t z (far t z v)) 0

    zero_meet : has (part n t x v) 0 ≡ (Y || Z || eqb v 0)
    zero_meet = meet-side vt inner M 0 (omega (arith, vt.big))

    pub away_meet : Away n t y (far t y v) → Away n t z (far t z v) → Away n t x v
    away_meet ay az =
        zero_meet ∙ ap₂ ◌||◌ (ap₂ ◌||◌ ay az) (ne_eqb v 0 (λ d. omega (arith, vt.big)))

    pub away_others : Away n t x v → (Away n t y (far t y v)) × (Away n t z (far t z v))
    away_others h = or_neither Y Z (or_neither (Y || Z) (eqb v 0) (sym zero_meet ∙ h)).0

-- ---- an order in a tree, node after node
module _ {n i k : ℕ} {t a : List ℕ} (vt : Valid n t) (O : Order n t a i k) (le : i ≤ n) where
  abbrev Leads : ℕ → Type 0
  Leads j = Away n t (up a (node a j)) (node a j)

  taken_by : {l j w x : ℕ} → ((h : ℕ) → h < j → Leads h) → l ≤ n → Taken a l j w x
      → Across n t w x → Away n t x w
  taken_by on ln (inl p) A = away_taxon vt A p.0 (omega (arith, p.1))
  taken_by on ln (inr (h, lh, q, e)) A = rw (q, e) at (on h lh)

  leads-on : {j : ℕ} → j < k → ((h : ℕ) → h < j → Leads h) → Leads j
  leads-on {j} lj on =
      let M = O.meets j lj in
      away_meet vt (O.inner j lj).0 M
      (taken_by on le (O.behind_first j lj) (across_far (across_y M)))
      (taken_by on le (O.behind_second j lj) (across_far (across_z M)))

  leads_below : (m j : ℕ) → j < m → j < k → Leads j
  leads_below zero j lm lj = absurd (omega arith)
  leads_below (suc m) j lm lj =
      leads-on lj (λ h lh. leads_below m h (omega arith) (omega arith))

  -- the row of each node leads on toward taxon 0
  outward : (j : ℕ) → j < k → Away n t (up a (node a j)) (node a j)
  outward j = leads_below (suc j) j (le_refl (suc j))

  -- and so does every row that is taken, also from further taxa
  taken_outward : {l w x : ℕ} → l ≤ n → Taken a l k w x → Across n t w x → Away n t x w
  taken_outward = taken_by outward

-- ---- on the way inward from taxon i
module _ {n i k v r : ℕ} {t a : List ℕ} (li : i < n) (P : At n t a i k v r) where
  low_le : P.low ≤ n
  low_le = omega (arith, P.low_le)

  -- taxon 0 does not lie with v, so it lies with the row's other end
  not_away : Valid n t → Away n t r (far t r v) → ⊥
  not_away vt = away_once vt (at_across P)
      (taken_outward vt P.climbs.order low_le li P.taken (at_across P))

  -- the table is no tree where the row leads to a taxon other than 0
  pub no_taxon : 0 < far t r v → far t r v < n → Valid n t → ⊥
  no_taxon pos lt vt = not_away vt (away_taxon vt (across_far (at_across P)) pos lt)

-- nor where it leads to a node to which two rows came: this is a node of the
-- order, the row does not lead on from it, and as a row behind it was taken
-- from v before
pub not_again : {n i k v r w : ℕ} {t a : List ℕ} → i < n → Arrives n t a i k v r w
    → (second a w ≡ free → ⊥) → Valid n t → ⊥
not_again {n} {i} {k} {v} {r} {w} {t} {a} li A d vt = go (state-full (arrive_state A) d)
  where
    P : At n t a i k v r
    P = A.from

    O : Order n t a P.low k
    O = P.climbs.order

    go : (j : ℕ) × (j < k) × (node a j ≡ w) → ⊥
    go (j, lj, e) = at ((node-meets O lj e).only r P.row (arrive_across A).at)
      where
        before : Behind a w r → ⊥
        before f =
            P.not_before (taken_more a a (le_refl P.low) (omega (arith, P.given-near))
            (λ h lh. (refl, refl)) (rw (arrive_back A) at (node_behind O lj e f)))

        at : (r ≡ up a w) ⊎ ((r ≡ first a w) ⊎ (r ≡ second a w)) → ⊥
        at (inl q) =
            not_away li P vt (rw (e, sym q, A.to) at (outward vt O (low_le li P) j lj))
        at (inr (inl q)) = before (inl (sym q))
        at (inr (inr q)) = before (inr (sym q))
