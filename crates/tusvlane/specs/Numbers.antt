-- The numbers that each call can be refused with, as the C header has them.
use Rattle.std.specs.Prelude.{ℕ, List, [], ◌∷◌, ◌++◌}

abbrev pub check_numbers : List ℕ
check_numbers = 1 ∷ 2 ∷ 3 ∷ 4 ∷ 5 ∷ []

abbrev pub induced_numbers : List ℕ
induced_numbers = check_numbers ++ 6 ∷ 11 ∷ []

abbrev pub compare_numbers : List ℕ
compare_numbers = check_numbers ++ 6 ∷ []

abbrev pub apply_numbers : List ℕ
apply_numbers = check_numbers ++ 7 ∷ 8 ∷ 9 ∷ 10 ∷ []

abbrev pub verdict_numbers : List ℕ
verdict_numbers = check_numbers ++ 6 ∷ 7 ∷ 8 ∷ 9 ∷ 10 ∷ []

abbrev pub judge_numbers : List ℕ
judge_numbers = verdict_numbers ++ 11 ∷ 16 ∷ []

abbrev pub read_numbers : List ℕ
read_numbers = 1 ∷ 11 ∷ 14 ∷ []

abbrev pub step_numbers : List ℕ
step_numbers = judge_numbers ++ 12 ∷ 13 ∷ []
