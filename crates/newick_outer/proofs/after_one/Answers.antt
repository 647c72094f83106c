-- `newick_outer::after_one` meets its contract.
use Rattle.std.proofs.Common.{rules}
use Rattle.newick_outer.proofs.WholeLaws.{no_second, second_ready}
use Rattle.newick_outer.proofs.after_one.Goals as goal

pub returns-in_err-c : goal.returns-in_err-c
returns-in_err-c c =
    let a = c.args.text.now in
    let h = no_second a.big a.few c.requires in
    search rules

pub member-requires : goal.member-requires
member-requires c =
    let a = c.args.text.now in
    let p = c.in_ok-c.ensures in
    rw p.1 (second_ready a.big a.few c.requires p.0)
