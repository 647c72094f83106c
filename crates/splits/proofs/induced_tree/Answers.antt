-- `splits::induced_tree` meets its contract.
use mathlib.Core.Path.{◌≡◌, sym, ap, ◌∙◌}
use native.Mathlib.Omega.{arith}
use lib.ListN.{length}
use borrow.Author.Tests.{ltb-true}
use Rattle.taxa.specs.Most.{most}
use Rattle.taxa.proofs.Sizes.{size_le}
use Rattle.tree.specs.Splits.{members, splits}
use Rattle.splits.proofs.ListLaws.{Within, needed}
use Rattle.splits.proofs.SaidLaws.{induces_6, induces_11, induces_list}
use Rattle.splits.proofs.induced_tree.Goals.{After-members, Else-not-within, Else-out-members}
use Rattle.splits.proofs.induced_tree.Goals as goal

-- past the first test the partition names none but the taxa
within : (c : Else-not-within) → let a = c.args in Within a.n a.t.now a.y
within c = record {
  good = c.requires.good;
  bound = sym c.within.ensures ∙ c.if-not-within.false;
}

-- past the third call it is known how many splits there are
asked : (c : After-members) → let a = c.args in Within a.n a.t.now a.y
    → c.members.result ≡ length (splits a.n a.t.now a.y)
asked c W = c.members.ensures ∙ ap members c.size-m.ensures ∙ sym (needed W)

pub returns-then-not-within : goal.returns-then-not-within
returns-then-not-within c =
    induces_6 _ c.requires.good
    (sym c.within.ensures ∙ c.if-not-within.true)

pub members-requires : goal.members-requires
members-requires c =
    omega (arith, c.size-m.ensures, size_le most c.args.y)

pub returns-then-out-members : goal.returns-then-out-members
returns-then-out-members c =
    let at = goal.at.returns-then-out-members c in
    let W = within at.Else-not-within in
    induces_11 W (omega (arith, c.if-out-members.true, asked at.After-members W))

pub tree_splits-requires : goal.tree_splits-requires
tree_splits-requires c =
    let at = goal.at.tree_splits-requires c in
    let W = within at.Else-not-within in (
      c.requires,
      ltb-true _ _ W.bound,
      omega (arith, c.if-out-members.false, asked at.After-members W),
    )

pub returns : goal.returns
returns c =
    let at = goal.at.returns c in
    let W = within at.Else-not-within in
    induces_list W (omega (arith, c.if-out-members.false, asked at.After-members W))
    c.tree_splits.ensures
