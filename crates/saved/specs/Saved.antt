-- What counts as saved, by request #105, and how many partitions on a list do.
use Rattle.std.specs.Prelude.{ℕ, ◌+◌, Bool, not, ◌&&◌, List, [], ◌∷◌, eqb, leb}
use Rattle.taxa.specs.Sets.{pick, tally, size}

-- Whether a partition y of the n taxa has four or more of them.
unfoldable pub four_or_more : ℕ → ℕ → Bool
four_or_more n y = leb 4 (size n y)

-- Whether it counts as saved, where its distance is d: it is the same and has
-- four or more taxa.
unfoldable pub counts_as_saved : ℕ → ℕ → ℕ → Bool
counts_as_saved n y d = eqb d 0 && four_or_more n y

-- How many of the partitions ys count as saved; ds has the distance of each.
unfoldable pub saved_of : ℕ → List ℕ → List ℕ → ℕ
saved_of n [] ds = 0
saved_of n (y ∷ ys) [] = 0
saved_of n (y ∷ ys) (d ∷ ds) = tally (counts_as_saved n y d) + saved_of n ys ds

-- The partitions on a list that have four or more taxa, and how many have
-- fewer.
unfoldable pub of_four_or_more : ℕ → List ℕ → List ℕ
of_four_or_more n [] = []
of_four_or_more n (y ∷ ys) =
    let l = of_four_or_more n ys in
    pick (four_or_more n y) (y ∷ l) l

unfoldable pub how_many_fewer : ℕ → List ℕ → ℕ
how_many_fewer n [] = 0
how_many_fewer n (y ∷ ys) = tally (not (four_or_more n y)) + how_many_fewer n ys
