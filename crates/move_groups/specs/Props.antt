-- That the sides are those of a tree has one proof at most, so that a struct can
-- hold it.
use Rattle.std.specs.Prelude.{ℕ, List}
use Rattle.std.proofs.Props.{props}
use Rattle.sides.specs.Between.{Sided}

pub Sided-prop : (n : ℕ) (t s : List ℕ) → IsProp (Sided n t s)
Sided-prop n t s = Prim.hlevel props
