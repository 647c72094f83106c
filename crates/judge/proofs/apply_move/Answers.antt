-- `judge::apply_move` meets its contract.
use Rattle.std.proofs.Common.{[]}
use Rattle.calls.proofs.SaysLaws.{handed_on}
use Rattle.move_plan.specs.Entries.{move_of}
use Rattle.door.specs.Between.{Opened}
use Rattle.door.proofs.DoorLaws.{opened_ready}
use Rattle.judge.proofs.GroupLaws.{ready_rewrites}
use Rattle.judge.proofs.SaidLaws.{moves-refused, moves-opens, moves-done}
use Rattle.judge.proofs.apply_move.Goals.{In_ok-p}
use Rattle.judge.proofs.apply_move.Goals as goal

-- where the door opens: the tree was looked at, and the move has its plan
opened : (c : In_ok-p)
    → let a = c.args in
    let left = c.enter.new in
    Opened a.n a.t.now left.near left.s [] (move_of a.m) c.in_ok-p.p
opened c = moves-opens c.enter.ensures c.in_ok-p.was

pub returns-in_err-p : goal.returns-in_err-p
returns-in_err-p c =
    rw (handed_on _ c.from_residual.ensures.1)
    (moves-refused c.enter.ensures c.in_err-p.was)

pub move_rows-requires : goal.move_rows-requires
move_rows-requires c =
    ready_rewrites (opened_ready (opened (goal.at.move_rows-requires c).In_ok-p))

pub returns : goal.returns
returns c =
    let o = opened (goal.at.returns c).In_ok-p in
    search moves-done
