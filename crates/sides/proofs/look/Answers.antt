-- `sides::look` meets its contract.
use Rattle.sides.proofs.LookLaws.{tree_accepted, tree_inward, found_tree}
use Rattle.sides.proofs.look.Goals as goal

pub taxa_sides-requires : goal.taxa_sides-requires
taxa_sides-requires c = (tree_accepted c.arrange.ensures c.in_ok-arrange.was, c.requires.1)

pub gather-requires : goal.gather-requires
gather-requires c =
    let R = c.arrange.ensures in
    let tree = c.in_ok-arrange.was in
    (tree_accepted R tree, tree_inward R tree, c.taxa_sides.ensures)

pub returns : goal.returns
returns c = found_tree c.arrange.ensures c.in_ok-arrange.was c.gather.ensures
