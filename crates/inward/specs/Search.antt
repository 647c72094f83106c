-- What only stands between the functions of the search for an order: the rows
-- mixed into places, what a node holds before and after rows came to it, and
-- what is known on the way inward.
use Rattle.std.specs.Prelude.{ℕ, zero, suc, ◌+◌, ◌*◌, ◌≤◌, ◌<◌, ◌≡◌, ◌⊎◌, Bool, true, not, ◌&&◌, List, Option, Some, None, Result, Ok, Err, eqb, leb, length, set}
use Rattle.std.specs.Int.Bits.{bit_xor}
use Rattle.taxa.specs.Most.{most}
use Rattle.taxa.specs.Sets.{pick}
use Rattle.tree.specs.Tree.{rows, nodes, touches, far, count, Valid}
use Rattle.node_rows.specs.Between.{free, up, first, second, Meet}
use Rattle.inward.specs.Between.{node, Taken, Given, Order}
use Rattle.inward.specs.declared.Ring.{Ring}

-- ---- rows mixed into places

-- the numbers below k that pass a test, mixed by exclusive or into a free place
unfoldable pub mix_of : (ℕ → Bool) → ℕ → ℕ
mix_of P zero = free
mix_of P (suc k) = pick (P k) (bit_xor (mix_of P k) k) (mix_of P k)

-- row r mixed into node v's first place
abbrev pub mixed : List ℕ → ℕ → ℕ → List ℕ
mixed a v r = set a (4 * v) (bit_xor (up a v) r)

-- the first places of the nodes hold the first k rows at each, mixed; all other
-- places are free
pub record Mixed (n : ℕ) (t a : List ℕ) (k : ℕ) : Type 0 where
  pub room : length a ≡ 4 * nodes most
  pub rows_in : (v : ℕ) → v < nodes n → up a v ≡ mix_of (λ r. touches t r v) k
  pub firsts : (v : ℕ) → v < nodes n → first a v ≡ free
  pub seconds : (v : ℕ) → v < nodes n → second a v ≡ free

-- the two rows y and z mixed, and three
abbrev pub mix2 : ℕ → ℕ → ℕ
mix2 y z = bit_xor (bit_xor free y) z

abbrev pub mix3 : ℕ → ℕ → ℕ → ℕ
mix3 x y z = bit_xor (mix2 x y) z

-- ---- on the way

-- an inner node u before it is come to, after one row came to it, and after two:
-- then it is among the first k nodes of the order. Rows come from taxa below i
-- and from the first g nodes
pub data State (n : ℕ) (t a : List ℕ) (i k g u : ℕ) : Type 0 where
  fresh : (x y z : ℕ) → Meet n t u x y z → up a u ≡ mix3 x y z → first a u ≡ free
      → second a u ≡ free → State n t a i k g u
  half : (x y z : ℕ) → Meet n t u x y z → up a u ≡ mix2 y z → first a u ≡ x → second a u ≡ free
      → Taken a i g (far t x u) x → State n t a i k g u
  full : (j : ℕ) → j < k → node a j ≡ u → State n t a i k g u

-- two rows came to the inner node u
abbrev pub is_full : ℕ → List ℕ → ℕ → Bool
is_full n a u = leb n u && not (eqb (second a u) free)

-- taxa from 1 to below i are taken, and k nodes are in the order; the rows of
-- these taxa and of the first g nodes are given on
pub record Climbs (n : ℕ) (t a : List ℕ) (i k g : ℕ) : Type 0 where
  pub room : length a ≡ 4 * nodes most
  pub taxon : (u r : ℕ) → u < n → r < rows n → touches t r u ≡ true → up a u ≡ bit_xor free r
  pub order : Order n t a i k
  pub state : (u : ℕ) → n ≤ u → u < nodes n → State n t a i k g u
  pub counted : count (is_full n a) (nodes n) ≡ k
  pub taxa-given : (u r : ℕ) → 0 < u → u < i → r < rows n → touches t r u ≡ true
      → Given n t a u r
  pub nodes-given : (j : ℕ) → j < g → Given n t a (node a j) (up a (node a j))

-- on the way inward from taxon i, row r is to be given on from its end v, and
-- all others that are taken are given on
pub record At (n : ℕ) (t a : List ℕ) (i k v r : ℕ) : Type 0 where
  pub low : ℕ
  pub given : ℕ
  pub climbs : Climbs n t a low k given
  pub low_le : low ≤ suc i
  pub given_le : given ≤ k
  pub given-near : k ≤ suc given
  pub row : r < rows n
  pub touch : touches t r v ≡ true
  pub taken : Taken a (suc i) k v r
  pub not_before : Taken a low given v r → ⊥
  pub other_taxa : (u q : ℕ) → u < suc i → q < rows n → touches t q u ≡ true
      → ((u ≡ v) × (q ≡ r)) ⊎ (u < low)
  pub other_nodes : (j : ℕ) → j < k → ((node a j ≡ v) × (up a v ≡ r)) ⊎ (j < given)

-- ---- how a row comes to a node

-- row r comes to node w as the first; as the second, and w is then node k of
-- the order
abbrev pub came_first : List ℕ → ℕ → ℕ → List ℕ
came_first a w r = set (set a (4 * w + 1) r) (4 * w) (bit_xor (up a w) r)

abbrev pub last_row : List ℕ → ℕ → ℕ → ℕ
last_row a w r = bit_xor (bit_xor (up a w) r) free

abbrev pub came_second : List ℕ → ℕ → ℕ → ℕ → List ℕ
came_second a w r k =
    set (set (set a (4 * w + 2) r) (4 * w) (last_row a w r)) (4 * k + 3) w

-- row r came to node w, and a' is what that makes of a
abbrev pub Comes : List ℕ → ℕ → ℕ → ℕ → Result (Option ℕ) Ring → List ℕ → Type 0
Comes a w r k (Ok None) a' = (first a w ≡ free) × (a' ≡ came_first a w r)
Comes a w r k (Ok (Some c)) a' =
    (first a w ≡ free → ⊥) × (second a w ≡ free) × (c ≡ last_row a w r) × (a' ≡ came_second a w r k)
Comes a w r k (Err e) a' = second a w ≡ free → ⊥

-- the way from taxon i ended, k nodes are then in the order, and every row that
-- is taken is given on; or the table is no tree
abbrev pub Climbed : ℕ → List ℕ → ℕ → Result ℕ Ring → List ℕ → Type 0
Climbed n t i (Ok k) a = Climbs n t a (suc i) k k
Climbed n t i (Err e) a = Valid n t → ⊥
