-- `ascending::count_lacking` meets its contract.
use Rattle.std.proofs.Common.{rules, ◌∷◌, arith}
use Rattle.ascending.proofs.Lacking.{Compared, compared_pass, compared_both, compared_alone}
use Rattle.ascending.proofs.Lacking.{compared_left, compared_right}
use Rattle.ascending.proofs.count_lacking.Goals as goal
use Rattle.ascending.proofs.count_lacking.Goals.{In-Some-Some, in_default, in_default-2}

-- both lists have a number left
stage : (c : In-Some-Some)
    → let two = c.in-Some-Some in
    Compared c.args.a.now c.args.b.now c.loop-x.both (two.x.now ∷ two.xs.now)
    (two.y.now ∷ two.ys.now)
stage c = rw (c.in-Some-Some.ensures.cases.0, c.in-Some-Some.ensures'.cases.0) at c.loop-x.invariant

pub loop-x-preserved-then-y-x : goal.loop-x-preserved-then-y-x
loop-x-preserved-then-y-x c =
    let at = (goal.at.loop-x-preserved-then-y-x c).In-Some-Some in
    rw c.in-Some-Some.ensures.cases.0 (compared_pass (stage at) c.if-y-x.true)

pub loop-x-preserved-then-y-x-2 : goal.loop-x-preserved-then-y-x-2
loop-x-preserved-then-y-x-2 c =
    let at = (goal.at.loop-x-preserved-then-y-x-2 c).In-Some-Some in
    rw c.in-Some-Some.ensures'.cases.0 (compared_both (stage at) c.if-y-x-2.true)

pub loop-x-preserved : goal.loop-x-preserved
loop-x-preserved c =
    let at = (goal.at.loop-x-preserved c).In-Some-Some in
    rw c.in-Some-Some.ensures'.cases.0
    (compared_alone (stage at) (omega (arith, c.if-y-x.false, c.if-y-x-2.false)))

pub returns : goal.returns
returns c =
    elim c.match-split_first.branch [
      | in_default w ↦ compared_right c.loop-x.invariant (search rules)
      | in_default-2 w ↦ compared_left c.loop-x.invariant (search rules)
    ]
