-- What the calls about a move say: the table after it, the distance over each
-- partition, or the first refusal.
use Rattle.std.specs.Prelude.{ℕ, List, ◌++◌, length}
use Rattle.calls.specs.Calls.{Said, judged}
use Rattle.tree.specs.Editions.{Edition, narrow}
use Rattle.tree.specs.Splits.{dist, distances}
use Rattle.tree.specs.Refusals.{tree_checks_of, partition_checks, partitions_checks, room_checks}
use Rattle.moves.specs.Moves.{Move, moved, move_checks}

-- ---- in any edition

-- A move alone: the bytes of the table after it. Refusals 1 to 5 and 7 to 10.
abbrev pub moved_said_of : Edition → ℕ → List ℕ → Move → Said (List ℕ)
moved_said_of E n b m =
    judged (tree_checks_of E n b ++ move_checks n (E.read b) m) (E.write (moved n (E.read b) m))

-- A move judged for a list of partitions: a distance for each. Refusals 1 to 6,
-- 16, and 7 to 11.
abbrev pub judged_said_of : Edition → ℕ → List ℕ → List ℕ → Move → ℕ → Said (List ℕ)
judged_said_of E n b ys m room =
    let t = E.read b in
    judged (tree_checks_of E n b ++ partitions_checks n ys ++ move_checks n t m ++ room_checks
    (length ys) room)
    (distances n t (moved n t m) ys)

-- A move judged for one partition: its distance. Refusals 1 to 10.
abbrev pub judged_one_said_of : Edition → ℕ → List ℕ → ℕ → Move → Said ℕ
judged_one_said_of E n b y m =
    let t = E.read b in
    judged (tree_checks_of E n b ++ partition_checks n y ++ move_checks n t m)
    (dist n t (moved n t m) y)

-- ---- in the narrow edition
abbrev pub moved_said : ℕ → List ℕ → Move → Said (List ℕ)
moved_said = moved_said_of narrow

abbrev pub judged_said : ℕ → List ℕ → List ℕ → Move → ℕ → Said (List ℕ)
judged_said = judged_said_of narrow

abbrev pub judged_one_said : ℕ → List ℕ → ℕ → Move → Said ℕ
judged_one_said = judged_one_said_of narrow
