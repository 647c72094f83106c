-- `table::ordered` meets its contract.
use Rattle.std.proofs.Common.{rules, arith, tests, ◌/◌, length, true, ap, ◌∙◌}
use Rattle.std.specs.Simd.{first_chunks}
use Rattle.std.proofs.lemmas.Iterator.{YieldsList-from_slice}
use Rattle.std.proofs.lemmas.Iterator.Consumers.{fold_from_yields_List}
use Rattle.tree.specs.Tree.{every, in_order}
use Rattle.table.proofs.Alls.{with_row, all_rows}
use Rattle.table.proofs.ordered.Goals as goal

pub returns : goal.returns
returns c =
    let n = c.args.n in let t = c.args.t.now in let m = length t / 2 in
    fold_from_yields_List _ (with_row n) true c.fold.result c.fold.ensures.ran
    (YieldsList-from_slice (first_chunks 2 m t) cc) (λ a row b q h. search (rules, tests))
    ∙ all_rows n t m ∙ ap (every (in_order n t)) (omega arith)
