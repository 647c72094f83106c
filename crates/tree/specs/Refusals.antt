-- The checks that a tree, its partitions and a lent output have to pass, in
-- the order of the refusals. An edition settles how a table's bytes are read.
use Rattle.std.specs.Prelude.{ℕ, ◌^◌, ◌≤◌, ◌≡◌, Bool, true, ◌&&◌, List, [], ◌∷◌, ◌++◌, eqb, ltb, leb, length}
use Rattle.calls.specs.declared.Refusal.{Refusal}
use Rattle.calls.specs.Calls.{Check, ◌else◌, Said, judged}
use Rattle.taxa.specs.Most.{most_partitions}
use Rattle.taxa.specs.Sets.{in_some}
use Rattle.tree.specs.Tree.{rows, nodes, in_order, right_degree, from_zero, every, Valid}
use Rattle.tree.specs.Editions.{Edition, narrow}

-- ---- a tree, in any edition

-- 1: taxon count outside 4 to the most.
abbrev pub count_checks_of : Edition → ℕ → List Check
count_checks_of E n = ((leb 4 n && leb n E.taxa) else Refusal.Count) ∷ []

-- 2: the table has not the bytes of 2n-3 rows. 3: a row has an end above 2n-3,
-- or its first end is not the smaller. 4: a node has the wrong number of rows.
abbrev pub row_checks_of : Edition → ℕ → List ℕ → List Check
row_checks_of E n b =
    (eqb (length b) (E.long (rows n)) else Refusal.Length)
    ∷ (every (in_order n (E.read b)) (rows n) else Refusal.Ends)
    ∷ (every (right_degree n (E.read b)) (nodes n) else Refusal.Degree)
    ∷ []

-- 5: a node cannot be reached from node 0.
abbrev pub reach_checks_of : Edition → ℕ → List ℕ → List Check
reach_checks_of E n b =
    (every (from_zero n (E.read b)) (nodes n) else Refusal.Unreached) ∷ []

-- The checks of a table, n being right: 2 to 5. The checks of a tree: 1 to 5.
abbrev pub table_checks_of : Edition → ℕ → List ℕ → List Check
table_checks_of E n b = row_checks_of E n b ++ reach_checks_of E n b

abbrev pub tree_checks_of : Edition → ℕ → List ℕ → List Check
tree_checks_of E n b = count_checks_of E n ++ table_checks_of E n b

-- What the check of a tree says: that it is one, or a refusal.
abbrev pub tree_said_of : Edition → ℕ → List ℕ → Said (Unit {0})
tree_said_of E n b = judged (tree_checks_of E n b) tt

-- A table that no check of a tree refuses.
pub record AcceptedOf (E : Edition) (n : ℕ) (b : List ℕ) : Type 0 where
  pub few : n ≤ E.taxa
  pub whole : length b ≡ E.long (rows n)
  pub valid : Valid n (E.read b)

-- ---- a tree in the narrow edition
abbrev pub count_checks : ℕ → List Check
count_checks = count_checks_of narrow

abbrev pub row_checks : ℕ → List ℕ → List Check
row_checks = row_checks_of narrow

abbrev pub reach_checks : ℕ → List ℕ → List Check
reach_checks = reach_checks_of narrow

abbrev pub table_checks : ℕ → List ℕ → List Check
table_checks = table_checks_of narrow

abbrev pub tree_checks : ℕ → List ℕ → List Check
tree_checks = tree_checks_of narrow

abbrev pub tree_said : ℕ → List ℕ → Said (Unit {0})
tree_said = tree_said_of narrow

abbrev pub Accepted : ℕ → List ℕ → Type 0
Accepted = AcceptedOf narrow

-- ---- partitions, in any edition

-- 6: a partition names a taxon n or above.
abbrev pub partition_checks : ℕ → ℕ → List Check
partition_checks n y = (ltb y (2 ^ n) else Refusal.Partition) ∷ []

-- A test holds of each number on a list.
unfoldable pub each : (ℕ → Bool) → List ℕ → Bool
each f [] = true
each f (y ∷ ys) = f y && each f ys

-- Each of the n taxa is in some partition on a list.
abbrev pub all_seen : ℕ → List ℕ → Bool
all_seen n ys = every (in_some ys) n

-- 6, of a list of partitions: it has none or too many, or one of them names a
-- taxon n or above. Then 16: a taxon is in no partition.
abbrev pub partitions_checks : ℕ → List ℕ → List Check
partitions_checks n ys =
    ((leb 1 (length ys) && leb (length ys) most_partitions && each (λ y. ltb y (2 ^ n)) ys) else
    Refusal.Partition)
    ∷ (all_seen n ys else Refusal.Unseen)
    ∷ []

-- ---- a lent output

-- 11: it holds `room` bytes or numbers, too few for an answer of `need`.
abbrev pub room_checks : ℕ → ℕ → List Check
room_checks need room = (leb need room else Refusal.Room) ∷ []
