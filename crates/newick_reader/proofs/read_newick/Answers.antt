-- `newick_reader::read_newick` meets its contract.
use Rattle.std.proofs.Common.{arith}
use Rattle.calls.proofs.SaysLaws.{handed_on}
use Rattle.newick_reader.specs.Promises.{Right}
use Rattle.newick_reader.proofs.PlantLaws.{wrong_count, no_tree, no_room, tree_given}
use Rattle.newick_reader.proofs.read_newick.Goals as goal

pub returns-then-n-lt4 : goal.returns-then-n-lt4
returns-then-n-lt4 c =
    let e = c.then-n-lt4.either in
    rw c.into.ensures (wrong_count (λ h. omega (arith, h.0, h.1)))

pub returns-in_err-outermost : goal.returns-in_err-outermost
returns-in_err-outermost c =
    rw (handed_on _ c.from_residual.ensures.1)
    (no_tree (c.if-n-lt4.false, c.if-n-gt-MOST.false) c.in_err-outermost.ensures)

pub returns-then-out-found : goal.returns-then-out-found
returns-then-out-found c =
    let right : Right c.args.n = (c.if-n-lt4.false, c.if-n-gt-MOST.false) in
    rw c.into-then-out-found.ensures
    (no_room right c.in_ok-outermost.ensures c.if-out-found.true)

pub returns : goal.returns
returns c =
    let right : Right c.args.n = (c.if-n-lt4.false, c.if-n-gt-MOST.false) in
    tree_given right c.in_ok-outermost.ensures c.if-out-found.false (grind arith)
