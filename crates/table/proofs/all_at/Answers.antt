-- `table::all_at` meets its contract.
use Rattle.std.proofs.Common.{rules, tests, eqb, true, ◌&&◌, refl, ◌∙◌}
use Rattle.std.proofs.lemmas.Iterator.{YieldsList-from_slice}
use Rattle.std.proofs.lemmas.Iterator.Consumers.{fold_from_yields_List}
use Rattle.table.proofs.Alls.{fold_all}
use Rattle.table.proofs.all_at.Goals as goal

pub returns : goal.returns
returns c =
    let k = c.args.k in
    fold_from_yields_List _ (λ a x. a && eqb x k) true _ c.fold.ensures.ran
    (YieldsList-from_slice c.args.d.now cc) (λ a x b q h. search (rules, tests))
    ∙ fold_all (λ x. eqb x k) _ (λ a x. refl) true c.args.d.now
