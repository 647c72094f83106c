-- What only stands between the functions: room for a list in a lent one.
use Rattle.std.specs.Prelude.{ℕ, ◌≤◌, List, length}

-- there is room for l in out
abbrev pub RoomFor : List ℕ → List ℕ → Type 0
RoomFor l out = length l ≤ length out
