-- What only stands between the functions: an order of the inner nodes from the
-- leaves inward. At each node of it the two rows behind come from a taxon or
-- from a node before it, and the third leads on toward taxon 0.
use Rattle.std.specs.Prelude.{ℕ, ◌+◌, ◌*◌, ◌-◌, ◌≤◌, ◌<◌, ◌≡◌, ◌⊎◌, Bool, true, List, length, get_or}
use Rattle.taxa.specs.Most.{most}
use Rattle.tree.specs.Tree.{rows, nodes, touches, far, every, from_zero}
use Rattle.node_rows.specs.Between.{up, first, second, Meet}

-- ---- an order

-- node number j of the order
abbrev pub node : List ℕ → ℕ → ℕ
node a j = get_or a (4 * j + 3) 0

-- row x is taken from its end w: w is a taxon from 1 to below i, or one of the
-- first k nodes of the order, and x leads on from it
abbrev pub Taken : List ℕ → ℕ → ℕ → ℕ → ℕ → Type 0
Taken a i k w x =
    ((0 < w) × (w < i)) ⊎ ((j : ℕ) × (j < k) × (node a j ≡ w) × (up a w ≡ x))

-- row x, taken from its end w, is at its other end taxon 0's or one of the two
-- rows behind
abbrev pub Given : ℕ → List ℕ → List ℕ → ℕ → ℕ → Type 0
Given n t a w x =
    (far t x w ≡ 0) ⊎ ((n ≤ far t x w)
    × ((first a (far t x w) ≡ x) ⊎ (second a (far t x w) ≡ x)))

-- the first k nodes of an order: inner nodes, each one once, with their three
-- rows, of which the two behind are taken before; taxa are taken below i
pub record Order (n : ℕ) (t a : List ℕ) (i k : ℕ) : Type 0 where
  pub inner : (j : ℕ) → j < k → (n ≤ node a j) × (node a j < nodes n)
  pub once : (h j : ℕ) → h < k → j < k → node a h ≡ node a j → h ≡ j
  pub meets : (j : ℕ) → j < k
      → Meet n t (node a j) (up a (node a j)) (first a (node a j)) (second a (node a j))
  pub behind_first : (j : ℕ) → j < k
      → Taken a i j (far t (first a (node a j)) (node a j)) (first a (node a j))
  pub behind_second : (j : ℕ) → j < k
      → Taken a i j (far t (second a (node a j)) (node a j)) (second a (node a j))

-- an order of all inner nodes, and every row that is taken is given on
pub record Inward (n : ℕ) (t a : List ℕ) : Type 0 where
  pub room : length a ≡ 4 * nodes most
  pub order : Order n t a n (n - 2)
  pub all : (v : ℕ) → n ≤ v → v < nodes n → (j : ℕ) × (j < n - 2) × (node a j ≡ v)
  pub taxa-given : (u r : ℕ) → 0 < u → u < n → r < rows n → touches t r u ≡ true
      → Given n t a u r
  pub nodes-given : (j : ℕ) → j < n - 2 → Given n t a (node a j) (up a (node a j))

-- ---- what is gathered along an order

-- Right r v x: x is right for row r and what lies with its end v. s holds what
-- is right for the row of each taxon but 0 and for the rows that lead on from
-- the first k nodes of the order
pub record Gathered (Right : ℕ → ℕ → ℕ → Type 0) (n : ℕ) (t a s : List ℕ) (k : ℕ) : Type 0 where
  pub room : rows n ≤ length s
  pub taxa : (u r : ℕ) → 0 < u → u < n → r < rows n → touches t r u ≡ true
      → Right r u (get_or s r 0)
  pub nodes : (j : ℕ) → j < k → Right (up a (node a j)) (node a j) (get_or s (up a (node a j)) 0)

-- ---- what the search for an order leaves

-- b tells whether every node can be reached from node 0, and where it can, a
-- holds an order
pub record Arranged (n : ℕ) (t : List ℕ) (b : Bool) (a : List ℕ) : Type 0 where
  pub all : b ≡ every (from_zero n t) (nodes n)
  pub inward : b ≡ true → Inward n t a
