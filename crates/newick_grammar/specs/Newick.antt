-- One tree as Newick text: nested parentheses, commas, a closing semicolon;
-- apart from any reader. A text is a list of bytes.
use Rattle.std.specs.Prelude.{ℕ, suc, ◌+◌, ◌≤◌, ◌<◌, ◌≡◌, List, [], ◌∷◌, ◌++◌, eqb, ltb, length, take}
use Rattle.taxa.specs.Sets.{tally}
use Rattle.lines.specs.Lines.{decimal}

-- A member of a group: a taxon, or a group inside, which has two members.
pub data Member : Type 0 where
  taxon : ℕ → Member
  group : Member → Member → Member

-- The outermost group has two members or three.
pub data Outermost : Type 0 where
  two : Member → Member → Outermost
  three : Member → Member → Member → Outermost

-- ( , ) and ; in ASCII.
abbrev pub opens : ℕ
opens = 40

abbrev pub comma : ℕ
comma = 44

abbrev pub closes : ℕ
closes = 41

abbrev pub semicolon : ℕ
semicolon = 59

-- The text of a member, and w after it. A label is a taxon number in plain
-- decimal without leading zeros; no blanks, lengths or inner labels.
unfoldable pub text : Member → List ℕ → List ℕ
text (taxon d) w = decimal d ++ w
text (group l r) w = opens ∷ text l (comma ∷ text r (closes ∷ w))

-- The text of a tree.
unfoldable pub whole : Outermost → List ℕ
whole (two a b) = opens ∷ text a (comma ∷ text b (closes ∷ semicolon ∷ []))
whole (three a b c) =
    opens ∷ text a (comma ∷ text b (comma ∷ text c (closes ∷ semicolon ∷ [])))

-- How often taxon x stands in a member, and in a tree.
unfoldable pub times : ℕ → Member → ℕ
times x (taxon d) = tally (eqb d x)
times x (group l r) = times x l + times x r

unfoldable pub times_in : ℕ → Outermost → ℕ
times_in x (two a b) = times x a + times x b
times_in x (three a b c) = times x a + times x b + times x c

-- Each of 0 to n-1 once, and no other.
abbrev pub EachOnce : ℕ → Outermost → Type 0
EachOnce n o = (x : ℕ) → times_in x o ≡ tally (ltb x n)

-- The text s is that of the tree o of n taxa; it is that of some tree.
pub record Stands (n : ℕ) (s : List ℕ) (o : Outermost) : Type 0 where
  pub each : EachOnce n o
  pub is : s ≡ whole o

abbrev pub IsTree : ℕ → List ℕ → Type 0
IsTree n s = (o : Outermost) × Stands n s o

-- Some continuation of s is a tree.
abbrev pub GoesOn : ℕ → List ℕ → Type 0
GoesOn n s = (w : List ℕ) × IsTree n (s ++ w)

-- A text that is no tree, and its place: the first byte at which no
-- continuation is a tree, or the text's length if it ends too soon.
pub record NoTree (n : ℕ) (s : List ℕ) (p : ℕ) : Type 0 where
  pub none : IsTree n s → ⊥
  pub inside : p ≤ length s
  pub before : GoesOn n (take p s)
  pub there : p < length s → GoesOn n (take (suc p) s) → ⊥
