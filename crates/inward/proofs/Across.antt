-- A row seen from one of its ends: across it and back. Assumes nothing.
use mathlib.Core.Path.{◌≡◌, sym, ◌∙◌}
use mathlib.Core.Bool.{true}
use mathlib.Core.List.{List}
use Prim.Native.Nat.{ℕ, ◌<◌}
use native.Mathlib.Omega.{arith}
use Rattle.tree.specs.Tree.{lo, hi, rows, nodes, touches, far, from_zero}
use Rattle.tree.proofs.Rounds.{Ends, part_flat}
use Rattle.tree.proofs.Joins.{Joins, touch_joins, joins_touch, joins_flip, joins_lt, joins_ne}
use Rattle.tree.proofs.Joins.{flat_join, far-is, both_touch}
use Rattle.table.specs.Between.{Rowed}
use Rattle.node_rows.specs.Between.{free, Meet}

-- row r is at node v
pub record Across (n : ℕ) (t : List ℕ) (v r : ℕ) : Type 0 where
  pub row : r < rows n
  pub at : touches t r v ≡ true

-- so are the three rows of a node
module _ {n v x y z : ℕ} {t : List ℕ} (M : Meet n t v x y z) where
  pub across_x : Across n t v x
  across_x = record { row = M.x_lt; at = M.x_at }

  pub across_y : Across n t v y
  across_y = record { row = M.y_lt; at = M.y_at }

  pub across_z : Across n t v z
  across_z = record { row = M.z_lt; at = M.z_at }

module _ {n v r : ℕ} {t : List ℕ} (A : Across n t v r) where
  pub across_joins : Joins t r v (far t r v)
  across_joins = touch_joins t r v A.at

  back_joins : Joins t r (far t r v) v
  back_joins = joins_flip t r v (far t r v) across_joins

  -- it is at its other end too
  pub across_far : Across n t (far t r v) r
  across_far = record { row = A.row; at = joins_touch t r (far t r v) v back_joins }

  -- that is any other node it is at
  pub across_is : {u : ℕ} → Across n t u r → (v ≡ u → ⊥) → far t r v ≡ u
  across_is {u} B d = far-is t r v u (both_touch t r v u d A.at B.at) d

-- ---- where the checks 1 to 4 pass
module _ {n : ℕ} {t : List ℕ} (R : Rowed n t) where
  -- a row is no free place
  pub not_free : {x : ℕ} → x < rows n → x ≡ free → ⊥
  not_free l e = omega (arith, R.ordered.few)

  ends : Ends t (rows n) (nodes n)
  ends r h = let o = R.ordered.order r h in (omega arith, o.1)

  zero_flat : (r : ℕ) → r < rows n → from_zero n t (lo t r) ≡ from_zero n t (hi t r)
  zero_flat r h = part_flat n t (rows n) 0 ends (omega (arith, R.ordered.big)) r h
      (λ d. omega arith)

  module _ {v r : ℕ} (A : Across n t v r) where
    pub across_node : v < nodes n
    across_node =
        let o = R.ordered.order r A.row in
        (joins_lt t r v (far t r v) (nodes n) o.0 o.1 (across_joins A)).0

    -- across and back
    pub across_back : far t r (far t r v) ≡ v
    across_back = far-is t r (far t r v) v (back_joins A)
        (joins_ne t r (far t r v) v (R.ordered.order r A.row).0 (back_joins A))

    -- what is across from a node that can be reached can be reached
    pub across_zero : from_zero n t (far t r v) ≡ true → from_zero n t v ≡ true
    across_zero z =
        sym (flat_join t r (far t r v) v (from_zero n t) (back_joins A) (zero_flat r A.row)) ∙ z
