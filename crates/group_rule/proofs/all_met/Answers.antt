-- `group_rule::all_met` meets its contract.
use Rattle.std.proofs.Common.{◌∙◌, rules, tests}
use Rattle.std.proofs.lemmas.Iterator.{YieldsList-from_slice}
use Rattle.std.proofs.lemmas.Iterator.Search.{all_from_yields_List}
use Rattle.group_rule.proofs.Judging.{meeting, all_meeting}
use Rattle.group_rule.proofs.all_met.Goals as goal

pub returns : goal.returns
returns c =
    all_from_yields_List (meeting c.args.y) _ _ _ c.all.ensures.ran
    (YieldsList-from_slice c.args.gs.now cc) (λ x b q k. search (rules, tests))
    ∙ all_meeting c.args.y c.args.gs.now
