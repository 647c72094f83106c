-- Lent lists that hold a mark still.
use Rattle.std.specs.Prelude.{ℕ, ◌≤◌, ◌<◌, ◌≡◌, List, Bool, true, length, get_or, HoldsAt}

-- Each element of a list from one place to before another is the mark, by a test.
abbrev pub MarkedBy : {A : Type 0} → (A → A → Bool) → List A → A → ℕ → ℕ → Type 0
MarkedBy same s mark from to =
    (k : ℕ) → k < to → from ≤ k → HoldsAt (λ x. same x mark ≡ true) s k

-- The answer is yes exactly where each element from a place on is the mark, by a test.
pub record TellsBy {A : Type 0} (same : A → A → Bool) (s : List A) (mark : A) (from : ℕ)
    (r : Bool) : Type 0 where
  pub kept : r ≡ true → MarkedBy same s mark from (length s)
  pub yes : MarkedBy same s mark from (length s) → r ≡ true

-- Each element of a list from one place to before another is the mark.
abbrev pub Marked : List ℕ → ℕ → ℕ → ℕ → Type 0
Marked s mark from to = (k : ℕ) → k < to → from ≤ k → get_or s k 0 ≡ mark

-- The answer is yes exactly where each element from a place on is the mark.
pub record Tells (s : List ℕ) (mark from : ℕ) (r : Bool) : Type 0 where
  pub kept : r ≡ true → Marked s mark from (length s)
  pub yes : Marked s mark from (length s) → r ≡ true
