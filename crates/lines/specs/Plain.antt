-- Plain text: whole lines of ASCII, each with one line feed and no blank at
-- its end.
use Rattle.std.specs.Prelude.{ℕ, ◌<◌, ◌≡◌, Bool, true, ◌&&◌, List, [], ◌∷◌, ◌++◌, ltb, leb}

-- Each byte is ASCII that is shown, or a blank: 32 to 126.
unfoldable pub shown : List ℕ → Bool
shown [] = true
shown (c ∷ w) = leb 32 c && ltb c 127 && shown w

-- One line: such bytes, the last of them no blank, then one line feed.
pub data Line : List ℕ → Type 0 where
  ended : (w : List ℕ) (c : ℕ) → shown w ≡ true → 32 < c → c < 127
      → Line (w ++ c ∷ 10 ∷ [])

-- Lines, one after another.
pub data Plain : List ℕ → Type 0 where
  none : Plain []
  then : (l more : List ℕ) → Line l → Plain more → Plain (l ++ more)
