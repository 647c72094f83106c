-- What only stands between the functions: a taxon's label at a place of a
-- text, its number in decimal with no leading zeros. Which taxa may stand there
-- is a set. A label is settled by the byte after it, so it is judged byte by
-- byte.
use Rattle.std.specs.Prelude.{ℕ, suc, ◌≤◌, ◌<◌, ◌*◌, ◌-◌, ◌/◌, ◌%◌, ◌^◌, ◌≡◌, ◌⊎◌, Bool, true, false, ◌&&◌, ◌||◌, List, [], ◌∷◌, ◌++◌, leb, ltb, length, take, drop, get_or, Option, Some, None, Result, Ok, Err, if◌then◌else◌}
use Rattle.taxa.specs.Sets.{has, some}
use Rattle.lines.specs.Lines.{decimal}
use Rattle.newick_labels.specs.declared.Label.{Label}
use Rattle.newick_labels.specs.declared.NotNewick.{NotNewick}

-- b is a digit in ASCII
abbrev pub digit : ℕ → Bool
digit b = leb 48 b && leb b 57

-- w does not begin with a digit
unfoldable pub Stop : List ℕ → Type 0
Stop [] = Unit {0}
Stop (b ∷ w) = digit b ≡ false

-- what follows a label that was read to its end: after a single digit other
-- than 0 there is no digit
abbrev pub Ends : ℕ → List ℕ → Type 0
Ends d w = 0 < d → d < 10 → Stop w

-- a label of the set u stands at a place, and p is the place after it
pub record Found (s : List ℕ) (at u d p : ℕ) : Type 0 where
  pub among : has u d ≡ true
  pub is : (x : List ℕ) → take p s ++ x ≡ take at s ++ (decimal d ++ x)
  pub moved : at < p
  pub inside : p ≤ length s
  pub ends : Ends d (drop p s)

-- no label of the set u stands at a place, and p is the first byte at which
-- none goes on
pub record Missed (s : List ℕ) (at u p : ℕ) : Type 0 where
  pub after : at ≤ p
  pub inside : p ≤ length s
  -- what is before p is nothing, or begins a label
  pub before : (p ≡ at)
      ⊎ ((d : ℕ) × (w : List ℕ) × (has u d ≡ true)
      × (take p s ++ w ≡ take at s ++ decimal d))
  -- with the byte at p, none
  pub there : p < length s → (x : List ℕ) (d : ℕ) (w : List ℕ) → has u d ≡ true
      → Ends d w → take (suc p) s ++ x ≡ take at s ++ (decimal d ++ w) → ⊥
  -- and none in the whole text
  pub none : (d : ℕ) (w : List ℕ) → has u d ≡ true → Ends d w
      → s ≡ take at s ++ (decimal d ++ w) → ⊥

-- what a read answers
abbrev pub LabelIs : List ℕ → ℕ → ℕ → Result Label NotNewick → Type 0
LabelIs s at u (Ok l) = Found s at u l.taxon l.end
LabelIs s at u (Err e) = Missed s at u e.at

-- a digit stands at a place
abbrev pub stands : List ℕ → ℕ → Bool
stands s i = ltb i (length s) && digit (get_or s i 0)

-- its number, where one stands there
unfoldable pub digit_at : List ℕ → ℕ → Option ℕ
digit_at s i = if stands s i then Some (get_or s i 0 - 48) else None

-- the digits that after the digit a make a taxon of u
abbrev pub seconds : ℕ → ℕ → ℕ
seconds u a = u / 2 ^ (10 * a) % 2 ^ 10

-- a taxon of u begins with the digit a: it is a, or it has two digits and a is
-- no leading zero
unfoldable pub begun : ℕ → ℕ → Bool
begun u a = has u a || (ltb 0 a && some (seconds u a))
