-- How much of an input went.
use Rattle.std.specs.Prelude.{◌≤◌, ℕ, List, length, Option}
use Rattle.std.specs.Io.KnownBytes.{Consumes}

-- at most so many of the known bytes were taken from the front
abbrev pub ConsumesFew : ℕ → Option (List ℕ) → Option (List ℕ) → Type 0
ConsumesFew most old new = (bs : List ℕ) × Consumes old new bs × (length bs ≤ most)
