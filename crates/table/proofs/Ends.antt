-- The ends of a row, as the code finds them. Assumes nothing.
use mathlib.Core.Path.{◌≡◌, ◌∙◌}
use mathlib.Core.Bool.{false}
use mathlib.Core.List.{List}
use Prim.Native.Nat.{ℕ, ◌<◌}
use native.Mathlib.Omega.{arith}
use lib.Dec.{eqb}
use borrow.Author.Tests.{ne_eqb}
use Rattle.taxa.specs.Most.{most}
use Rattle.tree.specs.Tree.{lo, hi, rows, nodes}
use Rattle.table.specs.Between.{Ordered}

-- a call answers x for y, and x is not v
pub told_other : {x y v : ℕ} → x ≡ y → (x ≡ v → ⊥) → eqb y v ≡ false
told_other {x} {y} {v} e h = ne_eqb y v (λ d. h (e ∙ d))

-- the ends of a row are nodes
module _ {n : ℕ} {t : List ℕ} {i v : ℕ} (o : Ordered n t) (li : i < rows n) where
  pub lo-node : v ≡ lo t i → v < nodes most
  lo-node e = omega (arith, (o.order i li).0, (o.order i li).1, o.few)

  pub hi-node : v ≡ hi t i → v < nodes most
  hi-node e = omega (arith, (o.order i li).1, o.few)
