-- `judge::judge_one` meets its contract.
use Rattle.calls.proofs.SaysLaws.{handed_on}
use Rattle.tree.specs.Refusals.{partition_checks}
use Rattle.move_plan.specs.Entries.{move_of}
use Rattle.sides.proofs.LookLaws.{looked_sided}
use Rattle.door.specs.Between.{Opened}
use Rattle.door.proofs.DoorLaws.{door_opens, opened_ready}
use Rattle.judge.proofs.SaidLaws.{one_refused, one_told, one_within}
use Rattle.judge.proofs.judge_one.Goals.{In_ok-p}
use Rattle.judge.proofs.judge_one.Goals as goal

-- where the door opens: the tree was looked at, the partition passes, and the
-- move has its plan
opened : (c : In_ok-p)
    → let a = c.args in
    let left = c.enter.new in
    Opened a.n a.t.now left.near left.s (partition_checks a.n a.y) (move_of a.m) c.in_ok-p.p
opened c =
    door_opens _ c.part_fits-parts.ensures c.enter.ensures c.in_ok-p.was

pub returns-in_err-p : goal.returns-in_err-p
returns-in_err-p c =
    rw (handed_on _ c.from_residual.ensures.1)
    (one_refused _ c.part_fits-parts.ensures c.enter.ensures c.in_err-p.was)

pub invariant_of-tree : goal.invariant_of-tree
invariant_of-tree c =
    let o = opened (goal.at.invariant_of-tree c).In_ok-p in
    record { sided = looked_sided (opened_ready o).looked }

pub one_groups-requires : goal.one_groups-requires
one_groups-requires c =
    let o = opened (goal.at.one_groups-requires c).In_ok-p in
    let r = opened_ready o in
    record { near = r.looked.rows; judged = (r.plan, one_within _ o) }

pub returns : goal.returns
returns c =
    let o = opened (goal.at.returns c).In_ok-p in
    search one_told
