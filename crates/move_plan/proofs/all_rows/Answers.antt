-- `move_plan::all_rows` meets its contract.
use Rattle.std.proofs.Common.{ℕ, ◌*◌, ◌-◌, leb, ◌∙◌, rules, tests}
use Rattle.std.proofs.lemmas.Iterator.{YieldsList-from_slice}
use Rattle.std.proofs.lemmas.Iterator.Search.{all_from_yields_List}
use Rattle.move_plan.proofs.FitLaws.{all-each}
use Rattle.move_plan.proofs.all_rows.Goals as goal

pub returns : goal.returns
returns c =
    let is_row = λ (r : ℕ). leb r (2 * c.args.n - 4) in
    all_from_yields_List is_row _ _ _ c.all.ensures.ran
    (YieldsList-from_slice c.args.numbers.now cc) (λ x b q k. search (rules, tests))
    ∙ all-each is_row c.args.numbers.now
