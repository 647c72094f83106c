-- What only stands between the functions: the sides of rows, and how they are
-- gathered along an order of the inner nodes.
use Rattle.std.specs.Prelude.{ℕ, ◌≤◌, ◌<◌, ◌≡◌, true, List, eqb, length, get_or, Result}
use Rattle.taxa.specs.Most.{most}
use Rattle.taxa.specs.Sets.{less, full, pick}
use Rattle.tree.specs.Tree.{lo, rows, nodes, touches}
use Rattle.tree.specs.Splits.{side}
use Rattle.tree.specs.Refusals.{Accepted, tree_said}
use Rattle.calls.specs.declared.Refusal.{Refusal}
use Rattle.calls.specs.Calls as calls
use Rattle.calls.specs.Calls.{gives}
use Rattle.node_rows.specs.Between.{up, first, second, Meet, Near}
use Rattle.inward.specs.Between.{Inward}

-- row e of an accepted table has the end v
pub record At (n : ℕ) (t : List ℕ) (e v : ℕ) : Type 0 where
  pub good : Accepted n t
  pub row : e < rows n
  pub touch : touches t e v ≡ true

-- s holds the side of row r
abbrev pub HasSide : ℕ → List ℕ → List ℕ → ℕ → Type 0
HasSide n t s r = get_or s r 0 ≡ side n t r

-- s holds the side of every row
pub record Sides (n : ℕ) (t : List ℕ) (s : List ℕ) : Type 0 where
  pub room : length s ≡ rows most
  pub right : (r : ℕ) → r < rows n → HasSide n t s r

-- a tree and its sides
pub record Sided (n : ℕ) (t s : List ℕ) : Type 0 where
  pub good : Accepted n t
  pub sides : Sides n t s

-- the same, with the rows at each node
pub record Looked (n : ℕ) (t near s : List ℕ) : Type 0 where
  pub good : Accepted n t
  pub rows : Near n t near
  pub sides : Sides n t s

-- the number stored for row e, s being the taxa with its end v
abbrev pub noted : ℕ → List ℕ → ℕ → ℕ → ℕ → ℕ
noted n t e v s = pick (eqb (lo t e) v) s (less (full n) s)

-- s holds the sides of the rows below k that are at a taxon
pub record AtTaxa (n : ℕ) (t s : List ℕ) (k : ℕ) : Type 0 where
  pub room : length s ≡ rows most
  pub right : (r : ℕ) → r < k → lo t r < n → HasSide n t s r

-- a holds the rows at the inner node v of a tree, and s the sides of the two
-- behind it
pub record Behind (n : ℕ) (t a s : List ℕ) (v : ℕ) : Type 0 where
  pub good : Accepted n t
  pub inner : n ≤ v
  pub v_lt : v < nodes n
  pub meet : Meet n t v (up a v) (first a v) (second a v)
  pub first-side : HasSide n t s (first a v)
  pub second-side : HasSide n t s (second a v)

-- the answer is the tree's, and where it is a tree the array holds an order of
-- its inner nodes
pub record Arranges (n : ℕ) (t : List ℕ) (c : Result (Unit {0}) Refusal) (a : List ℕ) : Type 0 where
  pub says : calls.says c ≡ tree_said n t
  pub inward : tree_said n t ≡ gives tt → Inward n t a

-- the answer is the tree's, and where it is a tree s holds its sides
pub record Sighted (n : ℕ) (t : List ℕ) (c : Result (Unit {0}) Refusal) (s : List ℕ) : Type 0 where
  pub says : calls.says c ≡ tree_said n t
  pub sides : tree_said n t ≡ gives tt → Sides n t s

-- the same, with the rows at each node
pub record Found (n : ℕ) (t : List ℕ) (c : Result (Unit {0}) Refusal) (a s : List ℕ) : Type 0 where
  pub sighted : Sighted n t c s
  pub near : tree_said n t ≡ gives tt → Near n t a
