-- `split_lists::list` meets its contract.
use mathlib.Core.Path.{◌≡◌, refl, ap, ◌∙◌}
use Prim.Native.Nat.{◌<◌}
use native.Mathlib.Omega.{arith}
use lib.ListN.{get_or, length-take}
use lib.Seq.{get_or-take}
use Rattle.taxa.specs.Most.{most}
use Rattle.tree.specs.Tree.{rows}
use Rattle.tree.specs.Splits.{split}
use Rattle.tree.proofs.SplitLaws.{split-wide}
use Rattle.split_lists.proofs.ListLaws.{splits-none, low_lt}
use Rattle.split_lists.proofs.ListLaws.{listed_none, listed_fits}
use Rattle.split_lists.proofs.ListLaws.{listed_room, listed_more}
use Rattle.split_lists.proofs.list.Goals.{After-number-x}
use Rattle.split_lists.proofs.list.Goals as goal

-- the loop is before the last row
early : (c : After-number-x) → c.loop-side.side-index < rows c.args.n
early c = omega (arith, length-take (rows c.args.n) c.args.sides.now)

-- past the call in the loop, the split of a row is known
of_row : (c : After-number-x)
    → let a = c.args in
    c.number-x.result ≡ split a.n a.y (get_or a.sides.now c.loop-side.side-index 0)
of_row c =
    let p = c.requires in
    let a = c.args in
    c.number-x.ensures ∙ split-wide _ most _ _ p.1 p.2
    ∙ ap (split a.n a.y) (get_or-take (rows a.n) a.sides.now c.loop-side.side-index 0 (early c))

pub returns-then-y-eq0 : goal.returns-then-y-eq0
returns-then-y-eq0 c = rw (c.if-y-eq0.true, splits-none) (record { count = refl; memory = refl })

pub loop-side-init : goal.loop-side-init
loop-side-init c = listed_none c.requires.3

pub number-x-requires : goal.number-x-requires
number-x-requires c =
    let p = c.requires in
    (c.lowest-low.ensures, low_lt p.1 p.2 c.if-y-eq0.false c.lowest-low.ensures)

pub add-len-requires : goal.add-len-requires
add-len-requires c =
    let at = goal.at.add-len-requires c in
    let l = c.loop-side.invariant in
    (listed_fits l, listed_room l (early at.After-number-x) (of_row at.After-number-x))

pub loop-side-preserved : goal.loop-side-preserved
loop-side-preserved c =
    let at = goal.at.loop-side-preserved c in
    listed_more c.loop-side.invariant (early at.After-number-x) (of_row at.After-number-x)
    c.add-len.ensures
