-- What only stands between the functions: what is known of a table when
-- some of the checks have passed, and what the counts of rows hold.
use Rattle.std.specs.Prelude.{ℕ, ◌+◌, ◌*◌, ◌≤◌, ◌<◌, ◌≡◌, List, ◌++◌, length, get_or}
use Rattle.taxa.specs.Most.{most}
use Rattle.tree.specs.Tree.{lo, hi, rows, nodes, touches, count, degree}
use Rattle.calls.specs.Calls.{Said, judged}
use Rattle.tree.specs.Refusals.{count_checks, row_checks}

-- The table has row r.
abbrev pub HasRow : List ℕ → ℕ → Type 0
HasRow t r = 2 * r + 1 < length t

-- The checks 1 to 3 pass.
pub record Ordered (n : ℕ) (t : List ℕ) : Type 0 where
  pub big : 4 ≤ n
  pub few : n ≤ most
  pub len : length t ≡ 2 * rows n
  pub order : (r : ℕ) → r < rows n → (lo t r < hi t r) × (hi t r < nodes n)

-- The checks 1 to 4 pass.
pub record Rowed (n : ℕ) (t : List ℕ) : Type 0 where
  pub ordered : Ordered n t
  pub leaf : (v : ℕ) → v < n → degree n t v ≡ 1
  pub inner : (v : ℕ) → n ≤ v → v < nodes n → degree n t v ≡ 3

-- d holds for each node how many of the first k rows are at it.
pub record Counted (n : ℕ) (t d : List ℕ) (k : ℕ) : Type 0 where
  pub room : length d ≡ nodes most
  pub at : (v : ℕ) → v < nodes n → get_or d v 0 ≡ count (λ r. touches t r v) k

abbrev pub row_said : ℕ → List ℕ → Said (Unit {0})
row_said n t = judged (count_checks n ++ row_checks n t) tt
