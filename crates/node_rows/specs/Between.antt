-- What only stands between the functions: a table of four places for each
-- node. The first three hold the rows at an inner node; the fourth is for an
-- order of the nodes, which stands apart.
use Rattle.std.specs.Prelude.{ℕ, ◌+◌, ◌*◌, ◌≤◌, ◌<◌, ◌≡◌, ◌⊎◌, true, List, eqb, ltb, length, get_or, replicate}
use Rattle.taxa.specs.Most.{most}
use Rattle.taxa.specs.Sets.{pick}
use Rattle.tree.specs.Tree.{rows, nodes, touches}

-- a free place holds 255, which is no row and no node
abbrev pub free : ℕ
free = 255

-- all places are free
abbrev pub no_rows : List ℕ
no_rows = replicate (4 * nodes most) free

-- what node v's first three places hold
abbrev pub up : List ℕ → ℕ → ℕ
up a v = get_or a (4 * v) 0

abbrev pub first : List ℕ → ℕ → ℕ
first a v = get_or a (4 * v + 1) 0

abbrev pub second : List ℕ → ℕ → ℕ
second a v = get_or a (4 * v + 2) 0

-- x, y and z are the three rows at node v
pub record Meet (n : ℕ) (t : List ℕ) (v x y z : ℕ) : Type 0 where
  pub x_lt : x < rows n
  pub y_lt : y < rows n
  pub z_lt : z < rows n
  pub x_at : touches t x v ≡ true
  pub y_at : touches t y v ≡ true
  pub z_at : touches t z v ≡ true
  pub xy : x ≡ y → ⊥
  pub xz : x ≡ z → ⊥
  pub yz : y ≡ z → ⊥
  pub only : (r : ℕ) → r < rows n → touches t r v ≡ true → (r ≡ x) ⊎ ((r ≡ y) ⊎ (r ≡ z))

-- a holds the three rows at each inner node
pub record Near (n : ℕ) (t a : List ℕ) : Type 0 where
  pub room : length a ≡ 4 * nodes most
  pub three : (v : ℕ) → n ≤ v → v < nodes n → Meet n t v (up a v) (first a v) (second a v)

-- of v's three places, the first that is not e, and the second
abbrev pub one_other : ℕ → List ℕ → ℕ → ℕ
one_other e a v = pick (eqb (up a v) e) (first a v) (up a v)

abbrev pub next_other : ℕ → List ℕ → ℕ → ℕ
next_other e a v =
    pick (eqb (up a v) e) (second a v) (pick (eqb (first a v) e) (second a v) (first a v))

-- these two, the lower one first
abbrev pub other_first : ℕ → List ℕ → ℕ → ℕ
other_first e a v =
    pick (ltb (one_other e a v) (next_other e a v)) (one_other e a v) (next_other e a v)

abbrev pub other_second : ℕ → List ℕ → ℕ → ℕ
other_second e a v =
    pick (ltb (one_other e a v) (next_other e a v)) (next_other e a v) (one_other e a v)

-- f and g are these two
pub record OtherTwo (e : ℕ) (a : List ℕ) (v f g : ℕ) : Type 0 where
  pub first : f ≡ other_first e a v
  pub second : g ≡ other_second e a v
