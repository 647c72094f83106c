-- What only stands between the functions. A slot is a place in a text at which
-- a member must stand. What was read up to there tells which members may.
use Rattle.std.specs.Prelude.{ℕ, suc, ◌+◌, ◌≤◌, ◌<◌, ◌≡◌, Bool, true, false, ◌&&◌, ◌||◌, List, [], ◌∷◌, ◌++◌, eqb, ltb, length, take, drop, get_or, Result, Ok, Err}
use Rattle.taxa.specs.Most.{most}
use Rattle.taxa.specs.Sets.{tally, pick, has, add, less, full, size}
use Rattle.tree.specs.Tree.{rows}
use Rattle.newick_labels.specs.Between.{Stop, Ends, Found, Missed}
use Rattle.newick_labels.specs.declared.NotNewick.{NotNewick}
use Rattle.newick_grammar.specs.Newick.{Member, taxon, group, Outermost, semicolon, closes, text}
use Rattle.newick_grammar.specs.Newick.{whole}
use Rattle.newick_grammar.specs.Newick.{times, EachOnce, IsTree, NoTree}
use Rattle.newick_grammar.specs.Numbers.{groups, node, join, with_rows}
use Rattle.newick_members.specs.declared.Cursor.{Cursor}
use Rattle.newick_members.specs.declared.Member as code

-- the taxa of u, and those of a member
unfoldable pub mark : Member → ℕ → ℕ
mark (taxon d) u = add u d
mark (group l r) u = mark r (mark l u)

-- u names none but the n taxa
abbrev pub Within : ℕ → ℕ → Type 0
Within n u = (x : ℕ) → tally (has u x) ≤ tally (ltb x n)

-- A member may stand where u are the taxa read before and m members at least
-- must follow: its labels are among the n taxa, none is twice or in u, and
-- enough are left. Where o is false no member may follow, so it takes all that
-- are left.
pub record Fits (n u m : ℕ) (o : Bool) (t : Member) : Type 0 where
  pub once : (x : ℕ) → tally (has u x) + times x t ≤ tally (ltb x n)
  pub room : size n u + suc (groups t) + m ≤ n
  pub full : o ≡ false → size n u + suc (groups t) ≡ n

-- the taxa that may stand there alone
abbrev pub allowed : ℕ → ℕ → Bool → ℕ
allowed n u o = pick (o || eqb (suc (size n u)) n) (less (full n) u) 0

-- w begins with a byte that is no digit
unfoldable pub Next : List ℕ → Type 0
Next [] = ⊥
Next (b ∷ w) = Stop (b ∷ w)

-- a member was read to its end, w being what follows
abbrev pub Over : Member → List ℕ → Type 0
Over (taxon d) w = Ends d w
Over (group l r) w = Unit {0}

-- how a text goes on with a member: it fits, and something follows it
pub record Onward (n u m : ℕ) (o : Bool) (x : List ℕ) : Type 0 where
  pub member : Member
  pub rest : List ℕ
  pub next : Next rest
  pub fits : Fits n u m o member
  pub is : x ≡ text member rest

-- Every tree whose text begins as s does up to the slot goes on with a member
-- that fits, and every member that fits goes on to a tree.
pub record Slot (n : ℕ) (s : List ℕ) (at u m : ℕ) (o : Bool) : Type 0 where
  pub inside : at ≤ length s
  pub within : Within n u
  pub room : size n u + m < n
  pub last : o ≡ false → m ≡ 0
  pub settles : (x : List ℕ) → IsTree n (take at s ++ x) → Onward n u m o x
  pub fills : (t : Member) → Fits n u m o t
      → (w : List ℕ) × IsTree n (take at s ++ text t w)

-- the byte b stands at a place
abbrev pub here : List ℕ → ℕ → ℕ → Bool
here s p b = ltb p (length s) && eqb (get_or s p 0) b

-- the member t stands from a slot on, and p is the place after it
pub record Past (n : ℕ) (s : List ℕ) (at u m : ℕ) (o : Bool) (t : Member) (p : ℕ) : Type 0 where
  pub fits : Fits n u m o t
  pub is : (x : List ℕ) → take p s ++ x ≡ take at s ++ text t x
  pub moved : at < p
  pub inside : p ≤ length s
  pub over : Over t (drop p s)

-- the tree o is read but for its semicolon, and nothing else may follow
pub record Closing (n : ℕ) (s : List ℕ) (p : ℕ) (o : Outermost) : Type 0 where
  pub inside : p ≤ length s
  pub each : EachOnce n o
  pub is : take p s ++ (semicolon ∷ []) ≡ whole o
  pub only : (x : List ℕ) → IsTree n (take p s ++ x) → x ≡ semicolon ∷ []

-- the cursor one byte on
abbrev pub ahead : Cursor → Cursor
ahead c = record { at = c.at + 1; next = c.next; used = c.used }

-- the byte b is passed, or does not stand at c
abbrev pub PassedIs : List ℕ → Cursor → ℕ → Result Cursor NotNewick → Type 0
PassedIs s c b (Ok d) = (here s c.at b ≡ true) × (d ≡ ahead c)
PassedIs s c b (Err e) = (here s c.at b ≡ false) × (e.at ≡ c.at)

-- v is a taxon that may stand at c, and d is where its label ends
pub record Taken (n : ℕ) (s : List ℕ) (c : Cursor) (o : Bool) (d : Cursor) (v : ℕ) : Type 0 where
  pub found : Found s c.at (allowed n c.used o) v d.at
  pub next : d.next ≡ c.next
  pub used : d.used ≡ add c.used v

abbrev pub TakenIs : ℕ → List ℕ → Cursor → Bool → Result code.Member NotNewick → Type 0
TakenIs n s c o (Ok m) = Taken n s c o m.after m.node
TakenIs n s c o (Err e) = Missed s c.at (allowed n c.used o) e.at

-- A slot is at c. Fewer groups have closed than taxa are read or must follow,
-- so no node number is past the last.
pub record Ready (n : ℕ) (s : List ℕ) (c : Cursor) (m : ℕ) (o : Bool) : Type 0 where
  pub slot : Slot n s c.at c.used m o
  pub from : n ≤ c.next
  pub numbers : suc c.next ≤ n + (size n c.used + m)

-- a member stands at c, d is where it ends, v its node, and its rows are in
-- the table
pub record Read (n : ℕ) (s : List ℕ) (c : Cursor) (m : ℕ) (o : Bool) (t t' : List ℕ) (d : Cursor)
    (v : ℕ) : Type 0 where
  pub member : Member
  pub past : Past n s c.at c.used m o member d.at
  pub next : d.next ≡ c.next + groups member
  pub used : d.used ≡ mark member c.used
  pub named : v ≡ node member c.next
  pub written : t' ≡ with_rows member c.next t

abbrev pub GotIs : ℕ → List ℕ → Cursor → ℕ → Bool → List ℕ → List ℕ
    → Result code.Member NotNewick → Type 0
GotIs n s c m o t t' (Ok x) = Read n s c m o t t' x.after x.node
GotIs n s c m o t t' (Err e) = NoTree n s e.at

-- x and y, whose parent has the next number, have rows
pub record Closes (c : Cursor) (x y : ℕ) : Type 0 where
  pub first : x < rows most
  pub second : y < rows most
  pub last : c.next ≤ rows most

-- a parenthesis closes their group, and the two rows are written; or none does
pub record Closed (s : List ℕ) (c : Cursor) (x y : ℕ) (t t' : List ℕ) (d : Cursor) (v : ℕ) : Type
    0 where
  pub closed : here s c.at closes ≡ true
  pub after : d ≡ record { at = c.at + 1; next = c.next + 1; used = c.used }
  pub named : v ≡ c.next
  pub written : t' ≡ join y c.next (join x c.next t)

abbrev pub ClosedIs : List ℕ → Cursor → ℕ → ℕ → List ℕ → List ℕ → Result code.Member NotNewick
    → Type 0
ClosedIs s c x y t t' (Ok m) = Closed s c x y t t' m.after m.node
ClosedIs s c x y t t' (Err e) = (e.at ≡ c.at) × (here s c.at closes ≡ false)
