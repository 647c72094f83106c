-- What the C functions promise, for every input: each says what the call of
-- the same name says, in the numbers of its C struct, and leaves what was lent
-- as that call does.
use Rattle.std.specs.Prelude.{ℕ, List, length}
use Rattle.calls.specs.Calls.{Call, CallBy, Answers, tells, done, code_of, instead, at_start}
use Rattle.tree.specs.Refusals.{tree_said}
use Rattle.moves.specs.Moves.{Move}
use Rattle.moves.specs.Verdicts.{moved_said, judged_said, judged_one_said}
use Rattle.splits.specs.Promises.{induced_said, compared_said}
use Rattle.group_rule.specs.Zeros.{zeros}
use Rattle.move_listing.specs.Listing.{lines_said, Page, place_after, moved_with}
use Rattle.newick_reader.specs.Promises.{Reads}
use Rattle.job_steps.specs.Steps.{Lent, stepped, told_of, lent_by}
use Rattle.job_steps.specs.declared.State.{State}
use Rattle.tusvlane.specs.declared.Answer.{Answer}
use Rattle.tusvlane.specs.declared.Comparison.{Comparison}
use Rattle.tusvlane.specs.declared.Placed.{Placed}
use Rattle.tusvlane.specs.declared.StepAnswer.{StepAnswer}
use Rattle.tusvlane.specs.Answers.{answer_of, comparison_of, placed_of, step_answer_of}

-- tusvlane_check_tree: 0, or a refusal.
abbrev pub Checks : ℕ → List ℕ → ℕ → Type 0
Checks n t r = Answers code_of (tree_said n t) r

-- tusvlane_induced_splits: how many splits there are, and the list of them at
-- the start of the output.
abbrev pub Induces : ℕ → List ℕ → ℕ → List ℕ → Answer → List ℕ → Type 0
Induces n t y out r out' =
    Call (λ s. answer_of (tells length s)) at_start (induced_said n t y (length out)) out r out'

-- tusvlane_compare: the distance and the missing split.
abbrev pub Compares : ℕ → List ℕ → List ℕ → ℕ → Comparison → Type 0
Compares n t u y r = Answers comparison_of (compared_said n t u y) r

-- tusvlane_apply_move: 0 and the moved table in place of the lent one, or a
-- refusal.
abbrev pub Applies : ℕ → List ℕ → Move → ℕ → List ℕ → Type 0
Applies n t m r t' =
    Call (λ s. code_of (tells done s)) instead (moved_said n t m) t r t'

-- tusvlane_judge_move: how many distances are 0, and the distances at the
-- start of the output.
abbrev pub Judges : ℕ → List ℕ → List ℕ → Move → List ℕ → Answer → List ℕ
    → Type 0
Judges n t ys m out r out' =
    Call (λ s. answer_of (tells zeros s)) at_start (judged_said n t ys m (length out)) out r out'

-- tusvlane_judge_one: the distance.
abbrev pub JudgesOne : ℕ → List ℕ → ℕ → Move → Answer → Type 0
JudgesOne n t y m r = Answers answer_of (judged_one_said n t y m) r

-- tusvlane_list_move: the place after the lines, the moved table, and the
-- lines in the output from the place on.
abbrev pub Lists : ℕ → List ℕ → Move → ℕ → ℕ → Page → Answer → Page → Type 0
Lists n ys m k place p r p' =
    let said = lines_said n p.table ys m k (length p.out) place in
    Call (λ s. answer_of (tells (place_after place) s)) (moved_with n m place) said p r p'

-- tusvlane_read_newick: 0 and the tree's table at the start of the output, or
-- a refusal, with its place where the text is no tree.
abbrev pub Plants : ℕ → List ℕ → List ℕ → Placed → List ℕ → Type 0
Plants n s out r out' =
    CallBy (Reads n s (length out)) (λ x. placed_of (tells done x)) at_start out r out'

-- tusvlane_step: what is told of the outcome, and the lent memory after it.
abbrev pub Steps : List ℕ → State → Lent → StepAnswer → Lent → Type 0
Steps job s m r m' =
    Call (λ o. step_answer_of (tells told_of o)) lent_by (stepped job s m) m r m'
