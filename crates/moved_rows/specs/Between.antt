-- What only stands between the functions: what each edit of a table asks
-- for.
use Rattle.std.specs.Prelude.{ℕ, ◌*◌, ◌≤◌, ◌<◌, ◌≡◌, true, List, [], ◌∷◌, length, Some}
use Rattle.taxa.specs.Most.{most}
use Rattle.tree.specs.Tree.{rows, nodes, touches, others}
use Rattle.tree.specs.Refusals.{Accepted}
use Rattle.node_rows.specs.Between.{Near, other_first, other_second}
use Rattle.moves.specs.Between.{Planned}
use Rattle.moves.specs.declared.Side.{Side}
use Rattle.moves.specs.declared.Plan.{Plan}

-- p is an inner end of row a, and the array holds the other two rows at p
pub record EndMoves (n : ℕ) (t near : List ℕ) (p a b : ℕ) : Type 0 where
  pub good : Accepted n t
  pub a_lt : a < rows n
  pub b_lt : b < rows n
  pub a_p : touches t a p ≡ true
  pub inner : n ≤ p
  pub room : length near ≡ 4 * nodes most
  pub two :
      others t a p (rows n) ≡ other_first a near p ∷ other_second a near p ∷ []

-- the same of an end of row a, where it goes to its target
abbrev pub SideMoves : ℕ → List ℕ → List ℕ → ℕ → Side → Type 0
SideMoves n t near a s =
    (b : ℕ) → s.target ≡ Some b → EndMoves n t near s.node a b

-- a tree, the rows at each node, and the plan of a move
pub record Rewrites (n : ℕ) (t near : List ℕ) (p : Plan) : Type 0 where
  pub good : Accepted n t
  pub holds : Near n t near
  pub plan : Planned n t p
