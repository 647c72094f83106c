-- What reading a text promises, for every input: the answer, and the state of
-- the lent table.
use Rattle.std.specs.Prelude.{ℕ, ◌*◌, ◌≤◌, ◌<◌, ◌≡◌, List, length, Result, Ok, Err}
use Rattle.calls.specs.Calls.{Said, gives, refuses, refuses_at, CallBy, tells, done, at_start}
use Rattle.calls.specs.declared.Refusal.{Refusal}
use Rattle.taxa.specs.Most.{most}
use Rattle.tree.specs.Tree.{rows}
use Rattle.newick_grammar.specs.Newick.{Outermost, Stands, IsTree, NoTree}
use Rattle.newick_grammar.specs.Numbers.{table}
use Rattle.newick_reader.specs.declared.Unread.{Unread}
use Rattle.newick_reader.specs.declared.Unread.TheVariants as unread

-- A taxon count from 4 to the most.
abbrev pub Right : ℕ → Type 0
Right n = (4 ≤ n) × (n ≤ most)

-- The refusals in their order: 1 for the taxon count; 14 for a text that is no
-- tree, with its place; 11 where the table does not fit the room. Otherwise
-- the table of the tree.
pub data Reads (n : ℕ) (s : List ℕ) (room : ℕ) (h : Said (List ℕ)) : Type 0 where
  of_count : (Right n → ⊥) → h ≡ refuses Refusal.Count → Reads n s room h
  of_text : Right n → (p : ℕ) → NoTree n s p → h ≡ refuses_at Refusal.Text p
      → Reads n s room h
  of_room : Right n → IsTree n s → room < 2 * rows n → h ≡ refuses Refusal.Room
      → Reads n s room h
  of_tree : Right n → (o : Outermost) → Stands n s o → 2 * rows n ≤ room
      → h ≡ gives (table n o) → Reads n s room h

-- What each answer says.
abbrev pub reading_says : Result (Unit {0}) Unread → Said (Unit {0})
reading_says (Ok u) = gives tt
reading_says (Err (unread.Refused r)) = refuses r
reading_says (Err (unread.NotNewick e)) = refuses_at Refusal.Text e.at

-- The promise: the table stands at the start of the lent one.
abbrev pub Plants : ℕ → List ℕ → List ℕ → Result (Unit {0}) Unread → List ℕ → Type 0
Plants n s out r out' =
    CallBy (Reads n s (length out)) (tells done) at_start out (reading_says r) out'
