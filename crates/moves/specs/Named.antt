-- The rows that document 01 names for a move: no other row changes.
use Rattle.std.specs.Prelude.{ℕ, List, [], ◌∷◌, ◌++◌, get_or}
use Rattle.taxa.specs.Sets.{pick}
use Rattle.tree.specs.Tree.{lo, hi, rows, touches, others}
use Rattle.moves.specs.Moves.{Move, by_kind, end_with}

-- Where the end p of row a is moved onto row b: f, b and g, with f and g the
-- other rows at p.
unfoldable pub end_named : ℕ → List ℕ → ℕ → ℕ → ℕ → List ℕ
end_named n t p a b =
    get_or (others t a p (rows n)) 0 0 ∷ b ∷ get_or (others t a p (rows n)) 1 0 ∷ []

-- The same, and none where b touches p, for then that end stays.
unfoldable pub stay_named : ℕ → List ℕ → ℕ → ℕ → ℕ → List ℕ
stay_named n t p a b = pick (touches t b p) [] (end_named n t p a b)

-- NNI: x and y. SPR: f, b and g. TBR: f, b and g at each end that does not
-- stay.
unfoldable pub named : ℕ → List ℕ → Move → List ℕ
named n t m =
    let a = m.first in
    by_kind m (m.second ∷ m.third ∷ []) (end_named n t (end_with n t a m.second) a m.second)
    (stay_named n t (lo t a) a m.second ++ stay_named n t (hi t a) a m.third) []
