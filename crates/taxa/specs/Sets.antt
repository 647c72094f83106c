-- Sets of taxa, and of nodes, as numbers: i is a member of s where bit i of s
-- is 1. Nothing here knows a width.
use Rattle.std.specs.Prelude.{ℕ, zero, suc, ◌+◌, ◌/◌, ◌%◌, ◌^◌, ◌-◌, ◌≡◌, Bool, true, false, not, ◌||◌, List, [], ◌∷◌, eqb, fold}
use Rattle.std.specs.Int.Bits.{bit_and, bit_or, bit_xor}
use Rattle.std.specs.Int.Count.{count_trailing_zeros}

-- one of two by a test
abbrev pub pick : {A : Type 0} → Bool → A → A → A
pick true a b = a
pick false a b = b

-- a test as a number, for counting
abbrev pub tally : Bool → ℕ
tally true = 1
tally false = 0

-- the digit of s at place i
abbrev pub bit : ℕ → ℕ → ℕ
bit s i = s / 2 ^ i % 2

-- i is a member of s
unfoldable pub has : ℕ → ℕ → Bool
has s i = eqb (bit s i) 1

-- the set of i alone
abbrev pub only : ℕ → ℕ
only i = 2 ^ i

-- all numbers below n
abbrev pub full : ℕ → ℕ
full n = 2 ^ n - 1

-- s with i
unfoldable pub add : ℕ → ℕ → ℕ
add s i = bit_or s (2 ^ i)

-- s with the members of each set on a list
abbrev pub joined : ℕ → List ℕ → ℕ
joined s ys = fold bit_or s ys

-- the union of the sets on a list
abbrev pub union : List ℕ → ℕ
union ys = joined 0 ys

-- i is a member of some set on a list
unfoldable pub in_some : List ℕ → ℕ → Bool
in_some [] i = false
in_some (y ∷ ys) i = has y i || in_some ys i

-- the members of y that are not in s
unfoldable pub less : ℕ → ℕ → ℕ
less y s = bit_xor y (bit_and s y)

-- s has a member
unfoldable pub some : ℕ → Bool
some s = not (eqb s 0)

-- every member of a is one of b
unfoldable pub Sub : ℕ → ℕ → Type 0
Sub a b = (i : ℕ) → has a i ≡ true → has b i ≡ true

-- how many of the numbers below k are members of s
unfoldable pub size : ℕ → ℕ → ℕ
size zero s = 0
size (suc k) s = tally (has s k) + size k s

-- the lowest of y's members below n, or n where there is none
unfoldable pub lowest : ℕ → ℕ → ℕ
lowest n y = count_trailing_zeros n y
