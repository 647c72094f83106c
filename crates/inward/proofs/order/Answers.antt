-- `inward::order` meets its contract. At each turn the taxa below i are
-- through.
use mathlib.Core.Path.{◌≡◌, refl}
use native.Mathlib.Omega.{arith}
use Rattle.inward.proofs.Starts.{mixed_start}
use Rattle.inward.proofs.Whole.{arranged_tree, arranged_ring}
use Rattle.inward.proofs.order.Goals as goal

pub loop-i-init : goal.loop-i-init
loop-i-init c = mixed_start c.requires.0 c.mix_rows.ensures

pub returns-in_default : goal.returns-in_default
returns-in_default c = arranged_ring c.requires.0 c.in_default.ensures

pub returns : goal.returns
returns c =
    let i-is : c.loop-i.i ≡ c.args.n = omega (arith, c.requires.0.ordered.big) in
    arranged_tree c.requires.0 (rw i-is at c.loop-i.invariant) refl
