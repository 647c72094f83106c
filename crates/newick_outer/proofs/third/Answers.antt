-- `newick_outer::third` meets its contract.
use Rattle.std.proofs.Common.{rules, arith}
use Rattle.newick_outer.proofs.WholeLaws.{Three, no_third, third_ready, no_last, x_room}
use Rattle.newick_outer.proofs.WholeLaws.{y_room, z_room, three_parsed}
use Rattle.newick_outer.proofs.third.Goals.{In_ok-z}
use Rattle.newick_outer.proofs.third.Goals as goal

-- the third member is read
three : (c : In_ok-z)
    → let a = c.args in
    let z = c.in_ok-z.z in
    Three a.text.now.n a.text.now.bytes.now c.member.new.table z.after a.x a.y.node z.node
three c = record {
  table = c.args.table.now;
  between = c.args.y.after;
  both = c.requires.0;
  left = c.requires.1;
  parted = c.in_ok-c.ensures.0;
  third = rw c.in_ok-c.ensures.1 at c.in_ok-z.ensures;
}

pub returns-in_err-c : goal.returns-in_err-c
returns-in_err-c c =
    let a = c.args.text.now in
    let h = no_third a.big a.few c.requires.0 c.requires.1 in
    search rules

pub member-requires : goal.member-requires
member-requires c =
    let a = c.args.text.now in
    let p = c.in_ok-c.ensures in
    rw p.1 (third_ready a.big a.few c.requires.0 c.requires.1 p.0)

pub returns-in_err-end : goal.returns-in_err-end
returns-in_err-end c =
    let a = c.args.text.now in
    let h = no_last a.big a.few (three (goal.at.returns-in_err-end c).In_ok-z) in
    search rules

pub join-requires : goal.join-requires
join-requires c =
    let a = c.args.text.now in
    rw c.in_ok-end.ensures.1 (x_room a.big a.few (three (goal.at.join-requires c).In_ok-z))

pub join-requires-2 : goal.join-requires-2
join-requires-2 c =
    let a = c.args.text.now in
    rw c.in_ok-end.ensures.1 (y_room a.big a.few (three (goal.at.join-requires-2 c).In_ok-z))

pub join-requires-3 : goal.join-requires-3
join-requires-3 c =
    let a = c.args.text.now in
    rw c.in_ok-end.ensures.1 (z_room a.big a.few (three (goal.at.join-requires-3 c).In_ok-z))

pub returns : goal.returns
returns c =
    let a = c.args.text.now in
    let p = c.in_ok-end.ensures in
    three_parsed a.big a.few (three (goal.at.returns c).In_ok-z) p.0 (grind arith)
    c.finish.result (rw p.1 at c.finish.ensures)
