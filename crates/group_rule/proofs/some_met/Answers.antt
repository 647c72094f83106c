-- `group_rule::some_met` meets its contract.
use Rattle.std.proofs.Common.{◌∙◌, rules, tests}
use Rattle.std.proofs.lemmas.Iterator.{YieldsList-from_slice}
use Rattle.std.proofs.lemmas.Iterator.Search.{any_from_yields_List}
use Rattle.group_rule.proofs.Judging.{meeting, any_meeting}
use Rattle.group_rule.proofs.some_met.Goals as goal

pub returns : goal.returns
returns c =
    any_from_yields_List (meeting c.args.y) _ _ _ c.any.ensures.ran
    (YieldsList-from_slice c.args.gs.now cc) (λ x b q k. search (rules, tests))
    ∙ any_meeting c.args.y c.args.gs.now
