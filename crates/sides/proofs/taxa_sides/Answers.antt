-- `sides::taxa_sides` meets its contract.
use Rattle.sides.proofs.GatherLaws.{at_taxa_skip, at_taxa_more}
use Rattle.sides.proofs.taxa_sides.Goals.{then-v-n, else-v-n}
use Rattle.sides.proofs.taxa_sides.Goals as goal

pub loop-r-preserved : goal.loop-r-preserved
loop-r-preserved c =
    let T = c.loop-r.invariant in
    elim c.if-v-n.branch [
      | then-v-n w ↦ rw w.s-is (at_taxa_more T c.lo-v.ensures c.requires.0 c.loop-r-test.true
          w.if-v-n.true w.only.ensures)
      | else-v-n w ↦ rw w.s-is (at_taxa_skip T c.lo-v.ensures w.if-v-n.false)
    ]
