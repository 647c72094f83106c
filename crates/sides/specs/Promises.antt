-- What the check of a tree promises, for every input.
use Rattle.std.specs.Prelude.{ℕ, List, Result}
use Rattle.calls.specs.declared.Refusal.{Refusal}
use Rattle.calls.specs.Calls.{Answers, as_said, says}
use Rattle.tree.specs.Refusals.{tree_said}

-- That it is a tree, or a refusal of 1 to 5. Nothing is lent to write.
abbrev pub Checks : ℕ → List ℕ → Result (Unit {0}) Refusal → Type 0
Checks n t r = Answers as_said (tree_said n t) (says r)
