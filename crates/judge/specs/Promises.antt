-- What the three calls promise, for every input: the answer, and the state of
-- the lent table or list.
use Rattle.std.specs.Prelude.{ℕ, List, length, Result}
use Rattle.calls.specs.declared.Refusal.{Refusal}
use Rattle.calls.specs.Calls.{says, Call, Answers, tells, done, as_said, instead, at_start}
use Rattle.moves.specs.Moves.{Move}
use Rattle.moves.specs.Verdicts.{moved_said, judged_said, judged_one_said}
use Rattle.group_rule.specs.Zeros.{zeros}

-- A move alone: it is done, and the moved table stands in place of the lent
-- one.
abbrev pub Applies : ℕ → List ℕ → Move → Result (Unit {0}) Refusal → List ℕ → Type 0
Applies n t m r t' =
    Call (tells done) instead (moved_said n t m) t (says r) t'

-- A move judged for a list of partitions: how many of the distances are 0, and
-- the distances at the start of the lent list.
abbrev pub JudgesAll : ℕ → List ℕ → List ℕ → Move → List ℕ → Result ℕ Refusal → List ℕ
    → Type 0
JudgesAll n t ys m out r out' =
    Call (tells zeros) at_start (judged_said n t ys m (length out)) out (says r) out'

-- A move judged for one partition: the distance. Nothing is lent to write.
abbrev pub JudgesOne : ℕ → List ℕ → ℕ → Move → Result ℕ Refusal → Type 0
JudgesOne n t y m r = Answers as_said (judged_one_said n t y m) (says r)
