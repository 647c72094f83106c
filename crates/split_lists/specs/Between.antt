-- What only stands between the functions: the list of splits from the sides
-- of the rows.
use Rattle.std.specs.Prelude.{ℕ, zero, suc, List, [], get_or}
use Rattle.taxa.specs.Sets.{pick, some}
use Rattle.tree.specs.Tree.{rows}
use Rattle.tree.specs.Lists.{insert}
use Rattle.tree.specs.Splits.{split}

-- the number x put in its place, unless it is 0, which is no split's
unfoldable pub added : ℕ → List ℕ → List ℕ
added x l = pick (some x) (insert x l) l

-- the splits over y of the first k sides on the list
unfoldable pub splits_of : ℕ → ℕ → List ℕ → ℕ → List ℕ
splits_of n y ss zero = []
splits_of n y ss (suc k) = added (split n y (get_or ss k 0)) (splits_of n y ss k)

-- those of all the rows of a tree of n taxa
abbrev pub row_splits : ℕ → ℕ → List ℕ → List ℕ
row_splits n y ss = splits_of n y ss (rows n)
