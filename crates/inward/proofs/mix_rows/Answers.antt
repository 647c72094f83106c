-- `inward::mix_rows` meets its contract. After r rows the first places hold
-- them, mixed.
use mathlib.Core.Path.{ap, ◌∙◌}
use mathlib.Core.List.{List}
use Prim.Native.Nat.{ℕ}
use Rattle.inward.specs.Search.{mixed}
use Rattle.inward.proofs.Starts.{mixed-none, mixed_more}
use Rattle.inward.proofs.mix_rows.Goals as goal

pub loop-r-init : goal.loop-r-init
loop-r-init c = rw c.requires.1 (mixed-none c.requires.0.few)

pub loop-r-preserved : goal.loop-r-preserved
loop-r-preserved c =
    let r = c.loop-r.r in
    let e = c.mix-in-loop-r.ensures ∙ ap (λ (x : List ℕ). mixed x c.hi.result r) c.mix.ensures in
    rw e (mixed_more c.requires.0 c.loop-r-test.true c.lo.ensures c.hi.ensures c.loop-r.invariant)
