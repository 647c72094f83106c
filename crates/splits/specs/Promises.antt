-- What the two calls say and promise, for every input.
use Rattle.std.specs.Prelude.{ℕ, List, ◌++◌, length, Result}
use Rattle.calls.specs.declared.Refusal.{Refusal}
use Rattle.calls.specs.Calls.{Said, judged, Call, Answers, tells, as_said, at_start, says}
use Rattle.tree.specs.Editions.{Edition, narrow}
use Rattle.tree.specs.Splits.{splits, dist, missing}
use Rattle.tree.specs.Refusals.{tree_checks_of, table_checks_of, partition_checks, room_checks}
use Rattle.splits.specs.declared.Apart.{Apart}

-- ---- the induced splits

-- The list, or the first refusal of 1 to 6 and 11; `room` is how many numbers
-- the lent list holds.
abbrev pub induced_said_of : Edition → ℕ → List ℕ → ℕ → ℕ → Said (List ℕ)
induced_said_of E n b y room =
    let l = splits n (E.read b) y in
    judged (tree_checks_of E n b ++ partition_checks n y ++ room_checks (length l) room) l

abbrev pub induced_said : ℕ → List ℕ → ℕ → ℕ → Said (List ℕ)
induced_said = induced_said_of narrow

-- The promise: how many there are, and the list at the start of the lent one.
abbrev pub Induces : ℕ → List ℕ → ℕ → List ℕ → Result ℕ Refusal → List ℕ → Type 0
Induces n t y out r out' =
    Call (tells length) at_start (induced_said n t y (length out)) out (says r) out'

-- ---- the comparison

-- The distance of two trees over y, and the smallest split of the first that
-- the second lacks.
abbrev pub trees_apart : ℕ → List ℕ → List ℕ → ℕ → ℕ × ℕ
trees_apart n t u y = (dist n t u y, missing n t u y)

-- These two, or the first refusal: 1, 2 to 5 of the first tree, 2 to 5 of the
-- second, 6.
abbrev pub compared_said_of : Edition → ℕ → List ℕ → List ℕ → ℕ → Said (ℕ × ℕ)
compared_said_of E n b c y =
    judged (tree_checks_of E n b ++ table_checks_of E n c ++ partition_checks n y)
    (trees_apart n (E.read b) (E.read c) y)

abbrev pub compared_said : ℕ → List ℕ → List ℕ → ℕ → Said (ℕ × ℕ)
compared_said = compared_said_of narrow

-- The two numbers of an answer, and what it says.
abbrev pub apart : Apart → ℕ × ℕ
apart a = (a.distance, a.missing)

abbrev pub compare_says : Result Apart Refusal → Said (ℕ × ℕ)
compare_says r = tells apart (says r)

-- The promise: the distance and the missing split. Nothing is lent to write.
abbrev pub Compares : ℕ → List ℕ → List ℕ → ℕ → Result Apart Refusal → Type 0
Compares n t u y r = Answers as_said (compared_said n t u y) (compare_says r)
