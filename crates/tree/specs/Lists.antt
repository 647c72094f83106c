-- Ascending lists of numbers, and what one lacks of another.
use Rattle.std.specs.Prelude.{ℕ, suc, ◌<◌, ◌≡◌, Bool, true, false, ◌||◌, List, [], ◌∷◌, eqb, ltb}
use Rattle.taxa.specs.Sets.{pick}

-- x is on the list
unfoldable pub mem : ℕ → List ℕ → Bool
mem x [] = false
mem x (y ∷ ys) = eqb x y || mem x ys

-- every member is above x
abbrev pub Over : ℕ → List ℕ → Type 0
Over x l = (z : ℕ) → mem z l ≡ true → x < z

-- the list ascends, so that no number stands on it twice
abbrev pub Asc : List ℕ → Type 0
Asc [] = Unit {0}
Asc (x ∷ xs) = Over x xs × Asc xs

-- x put in its place of an ascending list, once
unfoldable pub insert : ℕ → List ℕ → List ℕ
insert x [] = x ∷ []
insert x (y ∷ ys) =
    pick (ltb x y) (x ∷ y ∷ ys) (pick (eqb x y) (y ∷ ys) (y ∷ insert x ys))

-- how many of xs are not on ys
unfoldable pub lacks : List ℕ → List ℕ → ℕ
lacks [] ys = 0
lacks (x ∷ xs) ys = pick (mem x ys) (lacks xs ys) (suc (lacks xs ys))

-- the first of xs that is not on ys, or 0
unfoldable pub first_lack : List ℕ → List ℕ → ℕ
first_lack [] ys = 0
first_lack (x ∷ xs) ys = pick (mem x ys) (first_lack xs ys) x
