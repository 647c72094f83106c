-- `door::enter` meets its contract.
use Rattle.sides.proofs.LookLaws.{found-looked, looked_sided}
use Rattle.door.proofs.enter.Goals as goal

pub invariant_of-tree : goal.invariant_of-tree
invariant_of-tree c =
    record { sided = looked_sided (found-looked c.look.ensures c.in_ok-look.was) }
