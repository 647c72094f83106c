-- What only stands between the functions: one step of a way.
use Rattle.std.specs.Prelude.{ℕ, ◌≡◌, List}
use Rattle.moves.specs.Groups.{beyond, onward, aside}

-- at node v, come by row e: on leads on to b, and off is the taxa beyond the
-- other
pub record Paced (n : ℕ) (t : List ℕ) (b v e on off : ℕ) : Type 0 where
  pub leads-on : on ≡ onward n t b v e
  pub hangs_off : off ≡ beyond n t v (aside n t b v e)
