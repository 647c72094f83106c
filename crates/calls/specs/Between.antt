-- What only stands between the functions: a list written at the start of a
-- lent one, and one number told of it.
use Rattle.std.specs.Prelude.{ℕ, ◌≡◌, List}
use Rattle.calls.specs.Calls.{at_start}

-- r is told of the list l, and m' is m with l at its start.
pub record Wrote (told : List ℕ → ℕ) (l m : List ℕ) (r : ℕ) (m' : List ℕ) : Type 0 where
  pub count : r ≡ told l
  pub memory : m' ≡ at_start l m
