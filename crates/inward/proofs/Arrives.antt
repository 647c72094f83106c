-- Row r comes from its end v, from which it is taken, to its end w, an inner
-- node. Assumes nothing.
use mathlib.Core.Path.{◌≡◌}
use mathlib.Core.List.{List}
use Prim.Native.Nat.{ℕ, ◌+◌, ◌*◌, ◌≤◌, ◌<◌}
use native.Mathlib.Omega.{arith}
use lib.ListN.{length}
use Rattle.tree.specs.Tree.{nodes, far}
use Rattle.table.specs.Between.{Rowed}
use Rattle.node_rows.specs.Between.{free, second}
use Rattle.inward.specs.Between.{node}
use Rattle.inward.specs.Search.{State, At}
use Rattle.inward.proofs.Across.{Across, across_far, across_node, across_back, not_free}
use Rattle.inward.proofs.Orders.{node-meets}

pub at_across : {n i k v r : ℕ} {t a : List ℕ} → At n t a i k v r → Across n t v r
at_across A = record { row = A.row; at = A.touch }

pub record Arrives (n : ℕ) (t a : List ℕ) (i k v r w : ℕ) : Type 0 where
  pub rowed : Rowed n t
  pub from : At n t a i k v r
  pub to : w ≡ far t r v
  pub inner : n ≤ w

module _ {n i k v r w : ℕ} {t a : List ℕ} (A : Arrives n t a i k v r w) where
  pub arrive_across : Across n t w r
  arrive_across = rw A.to (across_far (at_across A.from))

  pub arrive_back : far t r w ≡ v
  arrive_back = rw A.to (across_back A.rowed (at_across A.from))

  pub arrive_node : w < nodes n
  arrive_node = across_node A.rowed arrive_across

  pub arrive_room : 4 * w + 3 < length a
  arrive_room = omega (arith, arrive_node, A.from.climbs.room, A.rowed.ordered.few)

  pub arrive_state : State n t a A.from.low k A.from.given w
  arrive_state = A.from.climbs.state w A.inner arrive_node

  -- two rows came to a node of the order
  pub not_node : second a w ≡ free → (j : ℕ) → j < k → node a j ≡ w → ⊥
  not_node e j l d = not_free A.rowed (node-meets A.from.climbs.order l d).z_lt e
