-- The case table P1 to P11 holds, by computing. Assumes nothing.
use mathlib.Core.Path.{◌≡◌, refl}
use mathlib.Core.Bool.{true}
use lib.Count.{count_trailing_zeros}
use Rattle.taxa.specs.Sets.{has, add, less, some, size, lowest}
use Rattle.tree.specs.Tree.{far, others, every, count, round, rounds, part}
use Rattle.tree.specs.Lists.{mem, insert, lacks}
use Rattle.tree.specs.Splits.{side, meets, split_by, splits_to, splits_by, holds_lowest, flips, dist_by}
use Rattle.calls.specs.Calls.{gives, judged}
use Rattle.tree.specs.Refusals.{each, tree_said, Accepted}
use Rattle.tree.proofs.RefusalLaws.{accepted_iff}
use Rattle.moves.specs.Moves.{put, nni, nni_fits, end_with, move_end, spr, stay_or, tbr, target}
use Rattle.moves.specs.Moves.{moved, kind_right, rows_right, fits, any_moves}
use Rattle.moves.specs.Groups.{beyond, leads, onward, aside, walk, groups, stayed, met}
use Rattle.moves.specs.Groups.{rule, nni_rule, spr_rule, tbr_rule, move_rule}
use Rattle.moves.specs.Cases.{tree_S, cases, holds, all_hold}

-- tree S is accepted
pub tree_S_lem : Accepted 6 tree_S
unfolding judged every count round rounds part has add tree_S
tree_S_lem = (accepted_iff 6 tree_S).0 said
  where
    said : tree_said 6 tree_S ≡ gives tt
    said = refl

-- each of the eleven moves passes its checks, and has the distance of the
-- table both by the split sets and by the papers' rule
pub table : all_hold cases ≡ true
unfolding count_trailing_zeros each has add less some size lowest far others round rounds part mem
    insert lacks side meets split_by splits_to splits_by holds_lowest flips dist_by put nni nni_fits
    end_with move_end spr stay_or tbr target moved kind_right rows_right fits any_moves beyond leads
    onward aside walk groups stayed met rule nni_rule spr_rule tbr_rule move_rule tree_S cases holds
    all_hold
table = refl
