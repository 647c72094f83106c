-- The steps in order, each from the state and the memory that the last left,
-- with the closing line: what the program writes.
use Rattle.std.specs.Prelude.{ℕ, zero, suc, ◌*◌, ◌≤◌, List, [], length}
use Rattle.taxa.specs.Most.{most, most_partitions}
use Rattle.tree.specs.Tree.{rows}
use Rattle.calls.specs.Calls.{lent_then}
use Rattle.job_steps.specs.Job.{lines_after}
use Rattle.job_steps.specs.Steps.{Lent, stepped, state_of, lent_by}
use Rattle.job_steps.specs.declared.State.{State}

-- The state before the first field.
abbrev pub first : State
first = record { at = 0; taxa = 0; parts = 0; moves = 0 }

-- What f steps write, from a state and the lent memory on.
unfoldable pub run : ℕ → List ℕ → State → Lent → List ℕ
run zero job s m = []
run (suc f) job s m =
    let o = stepped job s m in
    lines_after s.moves o (λ k. run f job (state_of k) (lent_then lent_by o m))

-- The most bytes of one move's lines in a job.
abbrev pub enough : ℕ
enough = 8192

-- Memory with room for any job: for the table, for the partitions and for one
-- move's lines.
pub record Roomy (m : Lent) : Type 0 where
  pub for_table : 2 * rows most ≤ length m.table
  pub for_parts : most_partitions ≤ length m.parts
  pub for_lines : enough ≤ length m.out
