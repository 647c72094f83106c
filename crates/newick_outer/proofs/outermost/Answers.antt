-- `newick_outer::outermost` meets its contract.
use Rattle.std.proofs.Common.{rules}
use Rattle.newick_outer.proofs.OuterLaws.{no_open}
use Rattle.newick_outer.proofs.WholeLaws.{first_ready}
use Rattle.newick_outer.proofs.outermost.Goals as goal

pub returns-in_err-c : goal.returns-in_err-c
returns-in_err-c c =
    let h = no_open c.requires.1 c.args.text.now c.requires.0 in
    search rules

pub member-requires : goal.member-requires
member-requires c =
    let p = c.in_ok-c.ensures in
    rw p.1 (first_ready c.requires.0 c.requires.1 c.requires.2 p.0)
