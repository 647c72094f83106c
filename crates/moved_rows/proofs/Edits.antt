-- The ends in a table of bytes are bytes. Assumes nothing.
use mathlib.Core.Path.{◌≡◌}
use mathlib.Core.Bool.{Bool, true, false}
use mathlib.Core.List.{List}
use Prim.Native.Nat.{ℕ, ◌+◌, ◌*◌, ◌<◌}
use native.Mathlib.Omega.{arith}
use lib.Dec.{eqb}
use lib.ListN.{get_or}
use mir.Syntax.{w8}
use mir.Val.{Fits}
use Rattle.taxa.specs.Sets.{pick}
use Rattle.tree.specs.Tree.{lo, touches, far}
use Rattle.moves.specs.Moves.{end_on}

-- ---- the ends in a table of bytes are bytes
module _ (t : List ℕ) (bytes : (i : ℕ) → Fits w8 (get_or t i 0)) where
  pub one_byte : (i : ℕ) {x : ℕ} → x ≡ get_or t i 0 → x < 256
  one_byte i e = omega (arith, e, bytes i)

  one_of : (b : Bool) (i j : ℕ) → pick b (get_or t i 0) (get_or t j 0) < 256
  one_of true i j = omega (arith, bytes i)
  one_of false i j = omega (arith, bytes j)

  pub far_byte : (r v : ℕ) {x : ℕ} → x ≡ far t r v → x < 256
  unfolding far
  far_byte r v e = omega (arith, e, one_of (eqb (lo t r) v) (2 * r + 1) (2 * r))

  pub end_byte : (e x : ℕ) {v : ℕ} → v ≡ end_on t e x → v < 256
  end_byte e x h = omega (arith, h, one_of (touches t x (lo t e)) (2 * e) (2 * e + 1))
