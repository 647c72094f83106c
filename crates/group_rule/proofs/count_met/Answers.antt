-- `group_rule::count_met` meets its contract.
use Rattle.std.proofs.Common.{arith}
use Rattle.std.proofs.lemmas.Grind.{common_steps}
use Rattle.group_rule.proofs.Judging.{count_meeting}
use Rattle.group_rule.proofs.count_met.Goals as goal

pub returns : goal.returns
returns c =
    let e = count_meeting c.args.y c.args.gs.now in
    grind (arith, common_steps)
