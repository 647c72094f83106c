-- What only stands between the functions: a number for each partition on a
-- list.
use Rattle.std.specs.Prelude.{ℕ, ◌≤◌, ◌≡◌, Bool, true, List, length, eqb, map}
use Rattle.moves.specs.Groups.{met}
use Rattle.calls.specs.Between.{Wrote}
use Rattle.group_rule.specs.Zeros.{zeros}

-- every group on gs meets y
abbrev pub all_meet : ℕ → List ℕ → Bool
all_meet y gs = eqb (met y gs) (length gs)

-- what the groups gs and hs are to be: few, and of an NNI two on each side
pub record Few (nni : Bool) (gs hs : List ℕ) : Type 0 where
  pub first : length gs ≤ 1000
  pub second : length hs ≤ 1000
  pub twos : nni ≡ true → (length gs ≡ 2) × (length hs ≡ 2)

-- f of each of ys is written at the start of out, and r is how many of these
-- are 0
abbrev pub Judges : (ℕ → ℕ) → List ℕ → List ℕ → ℕ → List ℕ → Type 0
Judges f ys = Wrote zeros (map f ys)
