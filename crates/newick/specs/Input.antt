-- The first line of the input, and what stands before the table in a job.
use Rattle.std.specs.Prelude.{ℕ, ◌*◌, ◌<◌, ◌≡◌, List, [], ◌∷◌, Option, Some, None}
use Rattle.tree.specs.Tree.{rows}
use Rattle.lines.specs.Lines.{decimal}

-- The line is k in decimal, which is 1 to 99.
pub record Number (line : List ℕ) (k : ℕ) : Type 0 where
  pub some : 0 < k
  pub few : k < 100
  pub is : line ≡ decimal k

-- The number that a line is, or none.
abbrev pub LineSays : List ℕ → Option ℕ → Type 0
LineSays line (Some k) = Number line k
LineSays line None = (m : ℕ) → Number line m → ⊥

-- Field 1: its tag, its length 1 and n. Then the tag of field 2 and its
-- length, of which the high byte is 0.
abbrev pub heads : ℕ → List ℕ
heads n = 1 ∷ 0 ∷ 1 ∷ n ∷ 2 ∷ 0 ∷ 2 * rows n ∷ []
