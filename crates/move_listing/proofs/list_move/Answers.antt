-- `move_listing::list_move` meets its contract.
use Rattle.std.proofs.Common.{rules, arith, ◌≤◌, ℕ}
use lib.ListN.{length, length-replicate}
use Rattle.taxa.specs.Most.{most_partitions}
use Rattle.calls.proofs.SaysLaws.{handed_on}
use Rattle.tree.specs.Refusals.{partitions_checks}
use Rattle.move_plan.specs.Entries.{move_of}
use Rattle.sides.proofs.LookLaws.{looked_sided}
use Rattle.door.specs.Between.{Opened}
use Rattle.door.proofs.PartitionLaws.{few_of, each_of}
use Rattle.door.proofs.DoorLaws.{door_opens, opened_ready}
use Rattle.judge.proofs.GroupLaws.{ready_rewrites}
use Rattle.move_listing.proofs.FoundLaws.{found-length, found-few, found_within, found_same}
use Rattle.move_listing.proofs.ListsLaws.{lists_refused, lists_11, lists_put}
use Rattle.move_listing.proofs.list_move.Goals.{In_ok-p}
use Rattle.move_listing.proofs.list_move.Goals as goal

-- past the door all checks but that of room passed
opened : (c : In_ok-p)
    → let left = c.enter.new in
    let a = c.args in
    Opened a.n a.t.now left.near left.s (partitions_checks a.n a.ys.now) (move_of a.m) c.in_ok-p.p
opened c = door_opens _ c.parts_fit-parts.ensures c.enter.ensures c.in_ok-p.was

-- and so there are no more partitions than there may be
few : (c : In_ok-p) → length c.args.ys.now ≤ most_partitions
few c = few_of _ _ (opened c).parts

pub returns-in_err-p : goal.returns-in_err-p
returns-in_err-p c =
    let a = c.args in
    rw (handed_on _ c.from_residual.ensures.1)
    (lists_refused a.ys.now a.number a.place c.parts_fit-parts.ensures c.enter.ensures
    c.in_err-p.was)

pub invariant_of-tree : goal.invariant_of-tree
invariant_of-tree c =
    let o = opened (goal.at.invariant_of-tree c).In_ok-p in
    record { sided = looked_sided (opened_ready o).looked }

pub judge_groups-same-requires : goal.judge_groups-same-requires
judge_groups-same-requires c =
    let at = (goal.at.judge_groups-same-requires c).In_ok-p in
    let o = opened at in
    let r = opened_ready o in
    record {
      near = r.looked.rows;
      judged = (
        r.plan,
        record {
          within = each_of _ _ o.parts;
          room = omega (arith, few at, length-replicate {A = ℕ} most_partitions 0);
        },
      );
    }

pub slice_bounds-ds-end : goal.slice_bounds-ds-end
slice_bounds-ds-end c = search (rules, found_within, c.judge_groups-same.ensures)

pub slice_bounds-distances-end : goal.slice_bounds-distances-end
slice_bounds-distances-end c = search (rules, found-length, c.judge_groups-same.ensures)

pub new-lines-requires : goal.new-lines-requires
new-lines-requires c =
    let h = few (goal.at.new-lines-requires c).In_ok-p in
    search (rules, found-few, found_same, c.judge_groups-same.ensures)

pub returns-in_err-end : goal.returns-in_err-end
returns-in_err-end c =
    let a = c.args in
    rw (handed_on _ c.from_residual-in_err-end.ensures.1)
    (lists_11 a.ys.now a.number a.place (opened (goal.at.returns-in_err-end c).In_ok-p)
    c.judge_groups-same.ensures c.saved_of-saved.ensures
    (rw c.new-lines.ensures at c.write_where_room.ensures) c.in_err-end.was)

pub move_rows-requires : goal.move_rows-requires
move_rows-requires c =
    ready_rewrites (opened_ready (opened (goal.at.move_rows-requires c).In_ok-p))

pub returns : goal.returns
returns c =
    let a = c.args in
    lists_put a.ys.now a.number a.place (opened (goal.at.returns c).In_ok-p)
    c.judge_groups-same.ensures c.saved_of-saved.ensures
    (rw c.new-lines.ensures at c.write_where_room.ensures) c.in_ok-end.was c.move_rows.ensures
