-- `splits::compare_second` meets its contract.
use mathlib.Core.Path.{sym, ◌∙◌}
use Prim.Native.Nat.{◌^◌, ◌<◌}
use borrow.Author.Tests.{ltb-true}
use Rattle.splits.proofs.ListLaws.{splits-room}
use Rattle.splits.proofs.compare_second.Goals.{Else-not-within}
use Rattle.splits.proofs.compare_second.Goals as goal

-- past the test the partition names none but the taxa
bound : (c : Else-not-within) → let a = c.args in a.y < 2 ^ a.n
bound c = ltb-true _ _ (sym c.within.ensures ∙ c.if-not-within.false)

pub tree_splits-i-requires : goal.tree_splits-i-requires
tree_splits-i-requires c =
    let S = c.requires in
    (S, bound (goal.at.tree_splits-i-requires c).Else-not-within, splits-room S.good _)
