-- `inward::mix_rows` meets its contract. After r rows the first places hold
-- them, mixed.
use Rattle.inward.specs.Search.{Mixed}
use Rattle.inward.proofs.mix_rows.Given as goal

abbrev pub invariant-loop-r : goal.invariant-loop-r
invariant-loop-r l = Mixed l.n l.t l.a l.r
