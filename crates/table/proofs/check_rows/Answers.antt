-- `table::check_rows` meets its contract.
use mathlib.Core.Path.{◌≡◌, ◌∙◌, sym}
use mathlib.Core.Bool.{true}
use Rattle.tree.specs.Tree.{rows, nodes, in_order, right_degree, every}
use Rattle.table.proofs.Stages.{is_1_low, is_1_high, is_2, is_3, is_4, is_rowed}
use Rattle.table.proofs.Tallies.{Sized, ordered_of, degrees_test}
use Rattle.table.proofs.check_rows.Goals.{After-degrees_right, Else-not-ordered, Else-t-n}
use Rattle.table.proofs.check_rows.Goals as goal

-- past the third test the number and the length are right
sized : (c : Else-t-n) → let a = c.args in Sized a.n a.t.now
sized c = record {
  big = c.if-n-lt4.false;
  few = c.if-n-gt-MOST.false;
  len = c.if-t-n.false;
}

-- past the fourth the rows are in order
in_order_lem : (c : Else-not-ordered) → let a = c.args in
    every (in_order a.n a.t.now) (rows a.n) ≡ true
in_order_lem c = sym c.ordered.ensures ∙ c.if-not-ordered.false

-- the fifth asks whether each node has its degree
told-degrees : (c : After-degrees_right) → let a = c.args in
    c.degrees_right.result ≡ every (right_degree a.n a.t.now) (nodes a.n)
told-degrees c = c.degrees_right.ensures ∙ degrees_test c.degrees-d.ensures

pub returns-then-n-lt4 : goal.returns-then-n-lt4
returns-then-n-lt4 c = is_1_low c.args.t.now c.if-n-lt4.true

pub returns-then-n-gt-MOST : goal.returns-then-n-gt-MOST
returns-then-n-gt-MOST c = is_1_high c.args.t.now c.if-n-gt-MOST.true

pub returns-then-t-n : goal.returns-then-t-n
returns-then-t-n c =
    is_2 c.args.t.now c.if-n-lt4.false c.if-n-gt-MOST.false c.if-t-n.true

pub returns-then-not-ordered : goal.returns-then-not-ordered
returns-then-not-ordered c =
    let at = goal.at.returns-then-not-ordered c in
    is_3 (sized at.Else-t-n) (sym c.ordered.ensures ∙ c.if-not-ordered.true)

pub degrees-d-requires : goal.degrees-d-requires
degrees-d-requires c = ordered_of (sized (goal.at.degrees-d-requires c).Else-t-n) (in_order_lem c)

pub returns-then-not-degrees_right : goal.returns-then-not-degrees_right
returns-then-not-degrees_right c =
    let at = goal.at.returns-then-not-degrees_right c in
    is_4 (sized at.Else-t-n) (in_order_lem at.Else-not-ordered)
    (sym (told-degrees at.After-degrees_right) ∙ c.if-not-degrees_right.true)

pub returns : goal.returns
returns c =
    let at = goal.at.returns c in
    is_rowed (sized at.Else-t-n) (in_order_lem at.Else-not-ordered)
    (sym (told-degrees at.After-degrees_right) ∙ c.if-not-degrees_right.false)
