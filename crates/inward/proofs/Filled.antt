-- In a tree, when all taxa are through, two rows came to every inner node, for
-- each row is given on from its end away from taxon 0. Assumes nothing.
use mathlib.Core.Path.{◌≡◌, sym, ap, ◌∙◌}
use mathlib.Core.Logic.{◌⊎◌, inl, inr}
use mathlib.Core.Bool.{not}
use mathlib.Core.List.{List}
use Prim.Native.Nat.{ℕ, zero, suc, ◌≤◌, ◌<◌}
use native.Mathlib.Omega.{arith}
use lib.Dec.{ltb}
use lib.Arith.{lt_of_le-ne}
use borrow.Author.Tests.{ltb-true, ltb-false}
use Rattle.taxa.specs.Sets.{has, size}
use Rattle.taxa.proofs.Bools.{Either, either, not_both}
use Rattle.tree.specs.Tree.{nodes, far, part, Valid}
use Rattle.tree.proofs.Rounds.{part_start}
use Rattle.table.specs.Between.{Rowed}
use Rattle.node_rows.specs.Between.{free, up, first, second, Meet}
use Rattle.node_rows.proofs.NearLaws.{meet_swap, meet_turn, meet-less}
use Rattle.inward.specs.Between.{node, Given}
use Rattle.inward.specs.Search.{Climbs}
use Rattle.inward.proofs.Meets.{meet-mixed, meet-from}
use Rattle.inward.proofs.Across.{Across, across_y, across_z, across_far, across_back}
use Rattle.inward.proofs.Across.{across_node, not_free}
use Rattle.inward.proofs.Orders.{Behind, node-meets, state-full}
use Rattle.inward.proofs.Outward.{Away, zero_far, away_meet, away_others}

module _ {n k : ℕ} {t a : List ℕ} (R : Rowed n t) (C : Climbs n t a n k k) (vt : Valid n t) where
  -- a row that is given on to inner node u is behind it
  given_behind : {u y : ℕ} → n ≤ u → Across n t u y → Given n t a (far t y u) y → Behind a u y
  given_behind {u} {y} inner A G = go (rw (across_back R A) at G)
    where
      go : (u ≡ 0) ⊎ ((n ≤ u) × Behind a u y) → Behind a u y
      go (inl z) = absurd (omega (arith, vt.big))
      go (inr p) = p.1

  -- the rows that have fewer nodes on the side away from taxon 0 are given on
  abbrev Fewer : ℕ → ℕ → Type 0
  Fewer x u = (y w : ℕ) → size (nodes n) (part n t y w) < size (nodes n) (part n t x u)
      → Across n t w y → Away n t y w → Given n t a w y

  -- where that is so and taxon 0 lies beyond row x of inner node u, the two
  -- other rows are behind u, so that u is full and x leads on from it
  full_at : {u x y z : ℕ} → n ≤ u → Meet n t u x y z → Away n t x u → Fewer x u
      → (j : ℕ) × (j < k) × (node a j ≡ u) × (up a u ≡ x)
  full_at {u} {x} {y} {z} inner M h fewer =
      let (j, lj, e) = state-full (C.state u inner (across_node R (across_y M)))
      (two behind_y behind_z) in
      let N = node-meets C.order lj e in
      (j, lj, e, lead N (M.only (up a u) N.x_lt N.x_at))
    where
      aways : (Away n t y (far t y u)) × (Away n t z (far t z u))
      aways = away_others vt inner M h

      behind_y : Behind a u y
      behind_y = given_behind inner (across_y M) (fewer y (far t y u) (meet-less vt inner M)
          (across_far (across_y M)) aways.0)

      behind_z : Behind a u z
      behind_z = given_behind inner (across_z M) (fewer z (far t z u)
          (meet-less vt inner (meet_swap (meet_turn M))) (across_far (across_z M)) aways.1)

      two : Behind a u y → Behind a u z → second a u ≡ free → ⊥
      two (inl p) (inl q) s = M.yz (sym p ∙ q)
      two (inl p) (inr q) s = not_free R M.z_lt (sym q ∙ s)
      two (inr p) q s = not_free R M.y_lt (sym p ∙ s)

      lead : Meet n t u (up a u) (first a u) (second a u)
          → (up a u ≡ x) ⊎ ((up a u ≡ y) ⊎ (up a u ≡ z)) → up a u ≡ x
      lead N (inl d) = d
      lead N (inr o) = absurd (other o)
        where
          not_up : {q : ℕ} → Behind a u q → up a u ≡ q → ⊥
          not_up (inl f) d = N.xy (d ∙ sym f)
          not_up (inr f) d = N.xz (d ∙ sym f)

          other : (up a u ≡ y) ⊎ (up a u ≡ z) → ⊥
          other (inl d) = not_up behind_y d
          other (inr d) = not_up behind_z d

  -- by the number of nodes on that side, every row is given on
  given_below : (m x u : ℕ) → size (nodes n) (part n t x u) < m → Across n t u x → Away n t x u
      → Given n t a u x
  given_below zero x u l A h = absurd (omega arith)
  given_below (suc m) x u l A h = go (λ y w s. given_below m y w (omega arith)) (either (ltb u n))
    where
      pos : 0 < u
      pos = lt_of_le-ne (omega arith) (λ d. not_both (has (part n t x u) u) (part_start n t x u)
          (ap (has (part n t x u)) (sym d) ∙ h))

      go : Fewer x u → Either (ltb u n) → Given n t a u x
      go fewer (inl p) = C.taxa-given u x pos (ltb-true u n p) A.row A.at
      go fewer (inr p) =
          let inner = ltb-false u n p in
          let (y, z, M) = meet-from (vt.inner u inner (across_node R A)) A.row A.at in
          let (j, lj, e, d) = full_at inner M h fewer in
          rw (e, d) at (C.nodes-given j lj)

  -- from each inner node one of the three rows leads to taxon 0
  lead-row : (u : ℕ) → n ≤ u → u < nodes n → (x y z : ℕ) × Meet n t u x y z × (Away n t x u)
  lead-row u inner l =
      let (x, y, z, M, e) = meet-mixed (vt.inner u inner l) in
      go M (either (has (part n t y u) 0)) (either (has (part n t z u) 0))
    where
      go : {x y z : ℕ} → Meet n t u x y z → Either (has (part n t y u) 0)
          → Either (has (part n t z u) 0) → (x y z : ℕ) × Meet n t u x y z × (Away n t x u)
      go {x} {y} {z} M (inr h) q = (y, x, z, meet_swap M, h)
      go {x} {y} {z} M (inl p) (inr h) = (z, x, y, meet_turn M, h)
      go {x} {y} {z} M (inl p) (inl q) = (
        x,
        y,
        z,
        M,
        away_meet vt inner M (zero_far vt (across_y M) ∙ ap not p)
            (zero_far vt (across_z M) ∙ ap not q),
      )

  -- two rows came to every inner node
  pub tree_full : (u : ℕ) → n ≤ u → u < nodes n → second a u ≡ free → ⊥
  tree_full u inner l s =
      let (x, y, z, M, h) = lead-row u inner l in
      let (j, lj, e, d) = full_at inner M h (λ f w. given_below _ f w) in
      not_free R (node-meets C.order lj e).z_lt s
