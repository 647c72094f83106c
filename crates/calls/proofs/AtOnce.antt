-- The needs of a function, answered all at once. Assumes nothing.
use Prim.Native.Nat.{ℕ, zero, suc}

-- n statements
abbrev pub Stated : ℕ → Type 1
Stated zero = Unit
Stated (suc n) = Type 0 × Stated n

-- a proof of each
abbrev pub Each : (n : ℕ) → Stated n → Type 0
Each zero v = Unit
Each (suc n) v = v.0 × Each n v.1

-- what asks for a proof of each, one after the other
abbrev pub Asks : (n : ℕ) → Stated n → Type 2 → Type 2
Asks zero v R = R
Asks (suc n) v R = v.0 → Asks n v.1 R

-- A function's `spec` asks for an answer to each of its needs. Where one
-- search answers n of them in a row, they are handed to it together.
pub at_once : (n : ℕ) (v : Stated n) (R : Type 2) → Asks n v R → Each n v → R
at_once zero v R f p = f
at_once (suc n) v R f p = at_once n v.1 R (f p.0) p.1
