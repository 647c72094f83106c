-- What only stands between the functions: lines written into lent memory.
use Rattle.std.specs.Prelude.{ℕ, ◌+◌, ◌≡◌, List, length}
use Rattle.lines.specs.Lines.{placed}

-- r is the place after w, which stands in out' from place at on
pub record WroteAt (w : List ℕ) (at : ℕ) (out : List ℕ) (r : ℕ) (out' : List ℕ) : Type 0 where
  pub place : r ≡ at + length w
  pub memory : out' ≡ placed out at w

-- What takes bytes took w, and has so much less room.
pub record Takes {S : Type 0} (room : S → ℕ) (took : S → List ℕ → S → Type 0) (s : S) (w : List ℕ)
    (t : S) : Type 0 where
  pub bytes : took s w t
  pub less : room t + length w ≡ room s
