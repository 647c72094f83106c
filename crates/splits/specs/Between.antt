-- What only stands between the functions: two lists of splits compared.
use Rattle.std.specs.Prelude.{ℕ, ◌+◌, ◌^◌, ◌≤◌, ◌<◌, ◌≡◌, List, length}
use Rattle.taxa.specs.Most.{most}
use Rattle.tree.specs.Tree.{rows}
use Rattle.tree.specs.Lists.{lacks, first_lack, Asc}
use Rattle.tree.specs.Splits.{splits}
use Rattle.tree.specs.Refusals.{Accepted}

-- a list as a tree's splits are listed: ascending, no longer than its rows
pub record SplitList (l : List ℕ) : Type 0 where
  pub ascends : Asc l
  pub few : length l ≤ rows most

-- how many splits each of two lists has alone, and the first that the second
-- lacks
abbrev pub lists_apart : List ℕ → List ℕ → ℕ × ℕ
lists_apart a b = (lacks a b + lacks b a, first_lack a b)

-- a is the list of a tree's splits over y, which names none but its taxa
pub record Listed (n : ℕ) (t : List ℕ) (y : ℕ) (a : List ℕ) : Type 0 where
  pub good : Accepted n t
  pub bound : y < 2 ^ n
  pub list : a ≡ splits n t y
