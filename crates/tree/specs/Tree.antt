-- The tree table of document 01, in its order. A table is a list of node
-- numbers, two to a row; n is the number of taxa.
use Rattle.std.specs.Prelude.{ℕ, zero, suc, ◌+◌, ◌*◌, ◌-◌, ◌^◌, ◌≤◌, ◌<◌, ◌≡◌, Bool, true, not, ◌&&◌, ◌||◌, List, [], ◌∷◌, ◌++◌, eqb, ltb, leb, length, get_or}
use Rattle.taxa.specs.Sets.{pick, tally, has, add}

-- With n taxa, nodes are numbered 0 to 2n-3. Nodes 0 to n-1 are the taxa, the
-- others are inner nodes.
abbrev pub nodes : ℕ → ℕ
nodes n = 2 * n - 2

-- The table has 2n-3 rows, one edge each. A row's number is its place, from 0.
abbrev pub rows : ℕ → ℕ
rows n = 2 * n - 3

-- The two end nodes of row r, the smaller first.
abbrev pub lo : List ℕ → ℕ → ℕ
lo t r = get_or t (2 * r) 0

abbrev pub hi : List ℕ → ℕ → ℕ
hi t r = get_or t (2 * r + 1) 0

-- Row r is at node v.
abbrev pub touches : List ℕ → ℕ → ℕ → Bool
touches t r v = eqb (lo t r) v || eqb (hi t r) v

-- Row r's ends are nodes, the smaller first.
abbrev pub in_order : ℕ → List ℕ → ℕ → Bool
in_order n t r = ltb (lo t r) (hi t r) && leb (hi t r) (2 * n - 3)

-- The end of row r that is not v.
unfoldable pub far : List ℕ → ℕ → ℕ → ℕ
far t r v = pick (eqb (lo t r) v) (hi t r) (lo t r)

-- The rows below k at node v other than e, in order.
unfoldable pub others : List ℕ → ℕ → ℕ → ℕ → List ℕ
others t e v zero = []
others t e v (suc k) =
    pick (touches t k v && not (eqb k e)) (others t e v k ++ k ∷ []) (others t e v k)

-- A test holds of each number below k; of how many below k it holds.
unfoldable pub every : (ℕ → Bool) → ℕ → Bool
every f zero = true
every f (suc k) = every f k && f k

unfoldable pub count : (ℕ → Bool) → ℕ → ℕ
count f zero = 0
count f (suc k) = tally (f k) + count f k

-- At how many rows node v is, and at how many it must be: a taxon at one, an
-- inner node at three.
abbrev pub degree : ℕ → List ℕ → ℕ → ℕ
degree n t v = count (λ r. touches t r v) (rows n)

abbrev pub wanted : ℕ → ℕ → ℕ
wanted n v = pick (ltb v n) 1 3

-- Node v is at as many rows as it must be.
abbrev pub right_degree : ℕ → List ℕ → ℕ → Bool
right_degree n t v = eqb (degree n t v) (wanted n v)

-- ---- what can be reached

-- Both ends of a row a-b, where one of them is in s.
abbrev pub spread : ℕ → ℕ → ℕ → ℕ
spread a b s = pick (has s a || has s b) (add (add s a) b) s

-- One round: each of the rows 0 to k-1 in turn, without row e.
unfoldable pub round : List ℕ → ℕ → ℕ → ℕ → ℕ
round t e zero s = s
round t e (suc k) s =
    let s' = round t e k s in pick (eqb k e) s' (spread (lo t k) (hi t k) s')

-- j rounds over m rows.
unfoldable pub rounds : List ℕ → ℕ → ℕ → ℕ → ℕ → ℕ
rounds t e m zero s = s
rounds t e m (suc j) s = round t e m (rounds t e m j s)

-- The nodes that can be reached from node v when row e is taken away: as many
-- rounds as there are nodes, from v alone.
unfoldable pub part : ℕ → List ℕ → ℕ → ℕ → ℕ
part n t e v = rounds t e (rows n) (nodes n) (2 ^ v)

-- The same said by chains: v is reached from u by rows other than e, one after
-- the other.
pub data Chain (n : ℕ) (t : List ℕ) (e : ℕ) : ℕ → ℕ → Type 0 where
  stay : {u : ℕ} → Chain n t e u u
  up : {u v w : ℕ} (r : ℕ) → r < rows n → (r ≡ e → ⊥) → lo t r ≡ v → hi t r ≡ w
      → Chain n t e u v → Chain n t e u w
  down : {u v w : ℕ} (r : ℕ) → r < rows n → (r ≡ e → ⊥) → lo t r ≡ v
      → hi t r ≡ w → Chain n t e u w → Chain n t e u v

-- Node v can be reached from node 0. Row number `rows n` is no row, so none is
-- taken away.
abbrev pub from_zero : ℕ → List ℕ → ℕ → Bool
from_zero n t v = has (part n t (rows n) 0) v

-- Every node can be reached from node 0.
pub record Connected (n : ℕ) (t : List ℕ) : Type 0 where
  pub reached : (v : ℕ) → v < nodes n → from_zero n t v ≡ true

-- ---- a valid table

-- Each row's ends are nodes, the smaller first; each taxon is at exactly one
-- row, each inner node at exactly three; every node can be reached from node
-- 0.
pub record Valid (n : ℕ) (t : List ℕ) : Type 0 where
  pub big : 4 ≤ n
  pub len : length t ≡ 2 * rows n
  pub order : (r : ℕ) → r < rows n → (lo t r < hi t r) × (hi t r < nodes n)
  pub leaf : (v : ℕ) → v < n → degree n t v ≡ 1
  pub inner : (v : ℕ) → n ≤ v → v < nodes n → degree n t v ≡ 3
  pub connected : Connected n t
