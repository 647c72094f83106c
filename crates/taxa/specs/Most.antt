-- How many taxa a tree may have, and how many partitions a list: the one place
-- that knows these numbers. Every other definition and law is stated for any
-- number n of taxa.
use Rattle.std.specs.Prelude.{ℕ}

-- the largest number of taxa
abbrev pub most : ℕ
most = 64

-- the largest number of partitions
abbrev pub most_partitions : ℕ
most_partitions = 64
