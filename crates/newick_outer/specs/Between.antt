-- What only stands between the functions: how much of the outermost group was
-- read.
use Rattle.std.specs.Prelude.{ℕ, ◌+◌, ◌*◌, ◌≤◌, ◌<◌, ◌≡◌, ◌⊎◌, true, false, List, length, take, Result, Ok, Err}
use Rattle.taxa.specs.Most.{most}
use Rattle.tree.specs.Tree.{rows}
use Rattle.newick_grammar.specs.Newick.{Member, Outermost, Stands, NoTree, opens, comma, semicolon}
use Rattle.newick_grammar.specs.Numbers.{groups, node, with_rows, blank, table}
use Rattle.newick_labels.specs.declared.NotNewick.{NotNewick}
use Rattle.newick_members.specs.declared.Cursor.{Cursor}
use Rattle.newick_members.specs.Between.{mark, here, Past}

-- its first member is read
pub record One (n : ℕ) (s t : List ℕ) (c : Cursor) (x : ℕ) : Type 0 where
  pub opened : here s 0 opens ≡ true
  pub first : Member
  pub past : Past n s 1 0 1 true first c.at
  pub next : c.next ≡ n + groups first
  pub used : c.used ≡ mark first 0
  pub named : x ≡ node first n
  pub written : t ≡ with_rows first n (blank most)

-- its second member is read, the first up to the place p
pub record Two (n : ℕ) (s t : List ℕ) (c : Cursor) (x y : ℕ) : Type 0 where
  pub opened : here s 0 opens ≡ true
  pub first : Member
  pub place : ℕ
  pub past_first : Past n s 1 0 1 true first place
  pub parted : here s place comma ≡ true
  pub second : Member
  pub past : Past n s (place + 1) (mark first 0) 0 true second c.at
  pub next : c.next ≡ n + groups first + groups second
  pub used : c.used ≡ mark second (mark first 0)
  pub named-first : x ≡ node first n
  pub named : y ≡ node second (n + groups first)
  pub written : t ≡ with_rows second (n + groups first) (with_rows first n (blank most))

-- the text ends with a semicolon at a place; or it lacks that, or goes on
abbrev pub EndIs : List ℕ → ℕ → Result (Unit {0}) NotNewick → Type 0
EndIs s at (Ok u) = (here s at semicolon ≡ true) × (length s ≤ at + 1)
EndIs s at (Err e) =
    ((e.at ≡ at) × (here s at semicolon ≡ false))
    ⊎ ((e.at ≡ at + 1) × (here s at semicolon ≡ true) × (at + 1 < length s))

-- the text is a tree, whose table stands at the start of t
abbrev pub Tabled : ℕ → List ℕ → List ℕ → Type 0
Tabled n s t = (o : Outermost) × Stands n s o × (take (2 * rows n) t ≡ table n o)

-- that, or the text is none
abbrev pub ParsedIs : ℕ → List ℕ → List ℕ → Result (Unit {0}) NotNewick → Type 0
ParsedIs n s t (Ok u) = Tabled n s t
ParsedIs n s t (Err e) = NoTree n s e.at
