-- Laws of an order: what is taken stays so, a node of the order has its rows
-- behind, and a node to which two rows came is one. Assumes nothing.
use mathlib.Core.Path.{◌≡◌, ◌∙◌}
use mathlib.Core.Logic.{◌⊎◌, inl, inr}
use mathlib.Core.List.{List}
use Prim.Native.Nat.{ℕ, ◌≤◌, ◌<◌}
use native.Mathlib.Omega.{arith}
use Rattle.tree.specs.Tree.{far}
use Rattle.node_rows.specs.Between.{free, up, first, second, Meet}
use Rattle.inward.specs.Between.{node, Taken, Order}
use Rattle.inward.specs.Search.{State, fresh, half, full}

-- what is taken stays so with more taxa and more nodes, where the nodes so far
-- lead on as before
pub taken_more : (a b : List ℕ) {i l g h w x : ℕ} → i ≤ l → g ≤ h
    → ((j : ℕ) → j < g → (node b j ≡ node a j) × (up b (node a j) ≡ up a (node a j)))
    → Taken a i g w x → Taken b l h w x
taken_more a b p q same (inl m) = inl (m.0, omega (arith, m.1))
taken_more a b p q same (inr (j, lj, e, d)) =
    inr (j, omega arith, (same j lj).0 ∙ e, rw e at (same j lj).1 ∙ d)

-- row x is one of the two behind node u
abbrev pub Behind : List ℕ → ℕ → ℕ → Type 0
Behind a u x = (first a u ≡ x) ⊎ (second a u ≡ x)

-- ---- node u, in its place of an order
module _ {n i k j u : ℕ} {t a : List ℕ} (O : Order n t a i k) (lj : j < k) (e : node a j ≡ u) where
  pub node-meets : Meet n t u (up a u) (first a u) (second a u)
  node-meets = rw e at (O.meets j lj)

  -- the rows behind are taken before
  pub node_behind : {x : ℕ} → Behind a u x → Taken a i j (far t x u) x
  node_behind (inl d) = rw (e, d) at (O.behind_first j lj)
  node_behind (inr d) = rw (e, d) at (O.behind_second j lj)

-- a node to which two rows came is in the order
pub state-full : {n i k g u : ℕ} {t a : List ℕ} → State n t a i k g u → (second a u ≡ free → ⊥)
    → (j : ℕ) × (j < k) × (node a j ≡ u)
state-full (fresh x y z M m f s) d = absurd (d s)
state-full (half x y z M m f s T) d = absurd (d s)
state-full (full j lj e) d = (j, lj, e)
