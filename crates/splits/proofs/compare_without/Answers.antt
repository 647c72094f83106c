-- `splits::compare_without` meets its contract.
use mathlib.Core.Path.{sym, ap, ◌∙◌}
use Rattle.calls.specs.Calls.{says}
use Rattle.calls.proofs.SaysLaws.{handed_on}
use Rattle.splits.proofs.SaidLaws.{compares_second, compares_6}
use Rattle.splits.proofs.compare_without.Goals as goal

pub returns-in_err-check_tree : goal.returns-in_err-check_tree
returns-in_err-check_tree c =
    rw (handed_on _ c.from_residual.ensures.1)
    (compares_second c.args.u.now c.args.y c.requires.0
    (sym c.check_tree.ensures.says ∙ ap says c.in_err-check_tree.was))

pub returns : goal.returns
returns c =
    compares_6 c.args.u.now c.args.y c.requires.0
    (sym c.check_tree.ensures.says ∙ ap says c.in_ok-check_tree.was) c.requires.1
