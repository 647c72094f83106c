-- `judge::judge_move` meets its contract.
use Rattle.calls.proofs.SaysLaws.{handed_on}
use Rattle.tree.specs.Refusals.{partitions_checks}
use Rattle.move_plan.specs.Entries.{move_of}
use Rattle.sides.proofs.LookLaws.{looked_sided}
use Rattle.door.specs.Between.{Opened}
use Rattle.door.proofs.DoorLaws.{door_opens, opened_ready}
use Rattle.judge.proofs.SaidLaws.{judges_refused, judges_plan}
use Rattle.judge.proofs.judge_move.Goals.{In_ok-p}
use Rattle.judge.proofs.judge_move.Goals as goal

-- where the door opens: the tree was looked at, the partitions pass, and the
-- move has its plan
opened : (c : In_ok-p)
    → let a = c.args in
    let left = c.enter.new in
    Opened a.n a.t.now left.near left.s (partitions_checks a.n a.ys.now)
    (move_of a.m) c.in_ok-p.p
opened c =
    door_opens _ c.parts_fit-parts.ensures c.enter.ensures c.in_ok-p.was

pub returns-in_err-p : goal.returns-in_err-p
returns-in_err-p c =
    rw (handed_on _ c.from_residual.ensures.1)
    (judges_refused c.args.ys.now c.parts_fit-parts.ensures c.enter.ensures c.in_err-p.was)

pub invariant_of-tree : goal.invariant_of-tree
invariant_of-tree c =
    let o = opened (goal.at.invariant_of-tree c).In_ok-p in
    record { sided = looked_sided (opened_ready o).looked }

pub judge_plan-requires : goal.judge_plan-requires
judge_plan-requires c =
    let o = opened (goal.at.judge_plan-requires c).In_ok-p in
    let r = opened_ready o in
    record { near = r.looked.rows; judged = (r.plan, o.parts) }

pub returns : goal.returns
returns c =
    let o = opened (goal.at.returns c).In_ok-p in
    search judges_plan
