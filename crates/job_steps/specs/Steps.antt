-- A step over one field from the state the last step gave: what it promises,
-- for every state and every lent memory.
use Rattle.std.specs.Prelude.{ℕ, Bool, ◌&&◌, ◌||◌, List, [], ◌∷◌, eqb, ltb, leb, length, take}
use Rattle.std.specs.Prelude.{Option, Some, None, Result}
use Rattle.calls.specs.declared.Refusal.{Refusal}
use Rattle.calls.specs.declared.RefusedAt.{RefusedAt}
use Rattle.calls.specs.Calls.{Check, Said, gives, refuses_at, judged, then_said, Call, tells, at_start}
use Rattle.calls.specs.Calls.{◌else◌, says, says_at, placed_at}
use Rattle.taxa.specs.Sets.{pick}
use Rattle.tree.specs.Editions.{Edition, narrow}
use Rattle.tree.specs.Tree.{rows}
use Rattle.fields.specs.Fields.{table_place}
use Rattle.job_steps.specs.Job.{Known, Fielded, next, over, Outcome, after, field_of, longest}
use Rattle.job_steps.specs.declared.State.{State}
use Rattle.job_steps.specs.declared.Next.{Next}

-- ---- what is lent

-- The memory that is lent to a step: for the table, for the partitions and for
-- a move's lines.
pub record Lent : Type 0 where
  pub table : List ℕ
  pub parts : List ℕ
  pub out : List ℕ

abbrev pub lending : List ℕ → List ℕ → List ℕ → Lent
lending table parts out = record { table = table; parts = parts; out = out }

-- Memory for the table alone, and for the partitions alone.
abbrev pub table_lent : List ℕ → Lent
table_lent table = lending table [] []

abbrev pub parts_lent : List ℕ → Lent
parts_lent parts = lending [] parts []

-- ---- what a state holds

-- The table that a state has: none before the table's field is read.
abbrev pub held_table_of : Edition → State → List ℕ → List ℕ
held_table_of E s table =
    pick (leb s.at (table_place E)) [] (take (E.long (rows s.taxa)) table)

-- What a state says, with the table and the partitions in the lent memory.
abbrev pub known_in : Edition → State → Lent → Known
known_in E s m =
    record {
      at =
          s.at;
      taxa = s.taxa;
      table = held_table_of E s m.table;
      parts = take s.parts m.parts;
      moves = s.moves;
    }

-- The memory has what the state holds: its table, once that was read, and its
-- partitions.
abbrev pub holds_of : Edition → State → Lent → Bool
holds_of E s m =
    (leb s.at (table_place E) || leb (E.long (rows s.taxa)) (length m.table))
    && leb s.parts (length m.parts)

-- What no state of a job has: an n that is not right; memory too short for
-- what the state holds; an offset within the first field, or more moves than
-- bytes.
abbrev pub state_checks_of : Edition → State → Lent → List Check
state_checks_of E s m =
    (((eqb s.at 0 || leb 4 s.taxa) && leb s.taxa E.taxa) else Refusal.Count)
    ∷ (holds_of E s m else Refusal.Room)
    ∷ (((eqb s.at 0 || leb (table_place E) s.at) && leb s.moves longest) else Refusal.Field)
    ∷ []

abbrev pub state_said_of : Edition → State → Lent → Said (Unit {0})
state_said_of E s m = judged (state_checks_of E s m) tt

-- ---- what a step says

-- What a field gives fits the lent memory: its table, its partitions and its
-- lines.
abbrev pub has_room : Lent → Known → List ℕ → Bool
has_room m k ls =
    leb (length k.table) (length m.table) && leb (length k.parts) (length m.parts)
    && leb (length ls) (length m.out)

-- 11 is judged last: what a field gives does not fit the lent memory.
abbrev pub room_for : ℕ → Lent → Fielded → Outcome
room_for at m (next k ls) = pick (has_room m k ls) (gives (next k ls)) (refuses_at Refusal.Room at)
room_for at m over = gives over

abbrev pub fitting : ℕ → Lent → Outcome → Outcome
fitting at m o = then_said o (room_for at m)

-- The outcome of a step. 13 is checked first, with place 0.
abbrev pub stepped_of : Edition → List ℕ → State → Lent → Outcome
stepped_of E job s m =
    pick (ltb longest (length job)) (refuses_at Refusal.Long 0)
    (after s.at (state_said_of E s m) (λ u. fitting s.at m (field_of E job (known_in E s m))))

-- ---- how an answer reads

-- The state that a step answers with.
abbrev pub state_of : Known → State
state_of k =
    record { at = k.at; taxa = k.taxa; parts = length k.parts; moves = k.moves }

-- What is told of what a field gives: the next state and how many bytes of
-- lines; or the end.
pub data Told : Type 0 where
  told : State → ℕ → Told
  ended : Told

abbrev pub told_of : Fielded → Told
told_of (next k ls) = told (state_of k) (length ls)
told_of over = ended

-- The same of the answer of a step.
abbrev pub told_next : Next → Told
told_next x = told x.state x.wrote

abbrev pub told_step : Option Next → Told
told_step (Some x) = told_next x
told_step None = ended

abbrev pub stepped_says : Result (Option Next) RefusedAt → Said Told
stepped_says r = tells told_step (says_at r)

-- And of a step past a field at an offset, whose refusal has no place yet.
abbrev pub says_from : ℕ → Result Next Refusal → Said Told
says_from at r = tells told_next (placed_at at (says r))

-- ---- what the lent memory becomes

-- The table, the partitions and the lines in place of the first bytes and
-- numbers; at the end all as it was.
abbrev pub lent_by : Fielded → Lent → Lent
lent_by (next k ls) m =
    lending (at_start k.table m.table) (at_start k.parts m.parts) (at_start ls m.out)
lent_by over m = m

-- ---- the promise

-- Of an outcome, and of a step.
abbrev pub Gives : Outcome → Result (Option Next) RefusedAt → Lent → Lent → Type 0
Gives o r m m' = Call (tells told_of) lent_by o m (stepped_says r) m'

abbrev pub Steps : List ℕ → State → Lent → Result (Option Next) RefusedAt → Lent → Type 0
Steps job s m r m' = Gives (stepped_of narrow job s m) r m m'

-- And of a step past a field at an offset.
abbrev pub GivesFrom : ℕ → Outcome → Result Next Refusal → Lent → Lent → Type 0
GivesFrom at o r m m' = Call (tells told_of) lent_by o m (says_from at r) m'

-- ---- in the narrow edition
abbrev pub held_table : State → List ℕ → List ℕ
held_table = held_table_of narrow

abbrev pub known_of : State → Lent → Known
known_of = known_in narrow

abbrev pub holds : State → Lent → Bool
holds = holds_of narrow

abbrev pub state_checks : State → Lent → List Check
state_checks = state_checks_of narrow

abbrev pub state_said : State → Lent → Said (Unit {0})
state_said = state_said_of narrow

abbrev pub stepped : List ℕ → State → Lent → Outcome
stepped = stepped_of narrow
