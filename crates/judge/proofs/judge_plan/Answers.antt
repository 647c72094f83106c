-- `judge::judge_plan` meets its contract.
use Rattle.judge.proofs.SaidLaws.{plan_11, plan-told}
use Rattle.judge.proofs.judge_plan.Goals as goal

pub returns-then-out-ys : goal.returns-then-out-ys
returns-then-out-ys c = search plan_11

pub returns : goal.returns
returns c = search plan-told
