-- How many numbers on a list are 0.
use Rattle.std.specs.Prelude.{ℕ, ◌+◌, List, [], ◌∷◌, eqb}
use Rattle.taxa.specs.Sets.{tally}

unfoldable pub zeros : List ℕ → ℕ
zeros [] = 0
zeros (x ∷ xs) = tally (eqb x 0) + zeros xs
