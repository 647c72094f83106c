-- Splits, induced trees and distance, as document 01 has them; the side by
-- which a split is written is that of request #102. A partition is a set y of
-- taxa. The definitions that end in By take the choice of side; the names
-- without By have the one that is made.
use Rattle.std.specs.Prelude.{ℕ, zero, suc, ◌+◌, ◌*◌, ◌-◌, ◌^◌, ◌%◌, ◌<◌, Bool, ◌&&◌, List, [], ◌∷◌, eqb, ltb}
use Rattle.std.specs.Int.Bits.{bit_and}
use Rattle.taxa.specs.Sets.{pick, tally, has, less, some, size, lowest, Sub}
use Rattle.tree.specs.Tree.{lo, rows, part}
use Rattle.tree.specs.Lists.{insert, lacks, first_lack}

-- Removing row e divides the taxa into two sides: those with its smaller end,
-- and the others.
unfoldable pub side : ℕ → List ℕ → ℕ → ℕ
side n t e = part n t e (lo t e) % 2 ^ n

-- Both sides, cut down to y, are non-empty.
unfoldable pub meets : ℕ → ℕ → Bool
meets y s = some (bit_and s y) && some (less y s)

-- A choice of side. A set s cuts y into two sides: the taxa of y in s, and the
-- other taxa of y. Given n, y and s, it is true where the others are written.
abbrev pub Choice : Type 0
Choice = ℕ → ℕ → ℕ → Bool

-- The number of a split over y: the bits of the side that is written.
unfoldable pub split_by : Choice → ℕ → ℕ → ℕ → ℕ
split_by c n y s = pick (c n y s) (less y s) (bit_and s y)

-- The induced splits over y of rows 0 to k-1: kept when both sides are
-- non-empty, ascending, each once.
unfoldable pub splits_to : Choice → ℕ → List ℕ → ℕ → ℕ → List ℕ
splits_to c n t y zero = []
splits_to c n t y (suc k) =
    let s = side n t k in
    let l = splits_to c n t y k in
    pick (meets y s) (insert (split_by c n y s) l) l

-- The list of induced splits of a tree over y.
unfoldable pub splits_by : Choice → ℕ → List ℕ → ℕ → List ℕ
splits_by c n t y = splits_to c n t y (rows n)

-- How many members the set has when y has m taxa.
abbrev pub members : ℕ → ℕ
members zero = 0
members (suc zero) = 0
members (suc (suc zero)) = 1
members (suc (suc (suc m))) = 2 * suc (suc (suc m)) - 3

-- The choice of document 01: the others are written where s holds the lowest
-- taxon of y. So it is always the side that does not hold it.
unfoldable pub holds_lowest : Choice
holds_lowest n y s = has s (lowest n y)

-- The choice that is made, by request #102: the smaller side; with equal sides,
-- the one that does not hold the lowest taxon of y.
unfoldable pub flips : Choice
flips n y s =
    let inside = size n (bit_and s y) in
    let outside = size n (less y s) in
    pick (eqb inside outside) (holds_lowest n y s) (ltb outside inside)

-- A split over y, written as a number.
abbrev pub split : ℕ → ℕ → ℕ → ℕ
split = split_by flips

-- The list of induced splits: these numbers, ascending.
abbrev pub splits : ℕ → List ℕ → ℕ → List ℕ
splits = splits_by flips

-- How many splits are in exactly one of the sets of two trees.
unfoldable pub dist_by : Choice → ℕ → List ℕ → List ℕ → ℕ → ℕ
dist_by c n t u y =
    let a = splits_by c n t y in
    let b = splits_by c n u y in
    lacks a b + lacks b a

-- The distance of two trees over y.
abbrev pub dist : ℕ → List ℕ → List ℕ → ℕ → ℕ
dist = dist_by flips

-- The smallest number on the first tree's list that the second lacks, or 0.
unfoldable pub missing : ℕ → List ℕ → List ℕ → ℕ → ℕ
missing n t u y = first_lack (splits n t y) (splits n u y)

-- The same over each partition on a list.
unfoldable pub distances_by : Choice → ℕ → List ℕ → List ℕ → List ℕ → List ℕ
distances_by c n t u [] = []
distances_by c n t u (y ∷ ys) = dist_by c n t u y ∷ distances_by c n t u ys

-- The distance over each partition on a list.
abbrev pub distances : ℕ → List ℕ → List ℕ → List ℕ → List ℕ
distances = distances_by flips

-- Of how many partitions on a list the induced splits are the same in both
-- trees.
unfoldable pub unchanged : ℕ → List ℕ → List ℕ → List ℕ → ℕ
unchanged n t u [] = 0
unchanged n t u (y ∷ ys) = tally (eqb (dist n t u y) 0) + unchanged n t u ys

-- Each partition of the first list lies within the one of the second at its
-- place, and that one within the n taxa.
abbrev pub Gains : ℕ → List ℕ → List ℕ → Type 0
Gains n [] [] = Unit {0}
Gains n [] (z ∷ zs) = ⊥
Gains n (y ∷ ys) [] = ⊥
Gains n (y ∷ ys) (z ∷ zs) = Sub y z × (z < 2 ^ n) × Gains n ys zs
