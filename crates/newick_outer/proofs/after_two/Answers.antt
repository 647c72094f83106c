-- `newick_outer::after_two` meets its contract.
use Rattle.std.proofs.Common.{sym, ◌∙◌, rules}
use Rattle.newick_outer.proofs.WholeLaws.{some_left, no_end, join-room, two_parsed}
use Rattle.newick_outer.proofs.after_two.Goals as goal

pub third-requires : goal.third-requires
third-requires c =
    let a = c.args.text.now in
    (c.requires, some_left a.big a.few c.requires (λ q. c.if-size-text.true (c.size.ensures ∙ q)))

pub returns-in_err-end : goal.returns-in_err-end
returns-in_err-end c =
    let a = c.args.text.now in
    let h = no_end a.big a.few c.requires (sym c.size.ensures ∙ c.if-size-text.false) in
    search rules

pub join_both-requires : goal.join_both-requires
join_both-requires c =
    let a = c.args.text.now in
    join-room a.big a.few c.requires (sym c.size.ensures ∙ c.if-size-text.false)

pub returns : goal.returns
returns c =
    let a = c.args.text.now in
    let p = c.in_ok-end.ensures in
    two_parsed a.big a.few c.requires (sym c.size.ensures ∙ c.if-size-text.false) p.0
    c.join_both.ensures c.finish.result (rw p.1 at c.finish.ensures)
