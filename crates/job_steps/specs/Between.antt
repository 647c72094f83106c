-- What only stands between the functions of a step.
use Rattle.std.specs.Prelude.{ℕ, ◌*◌, ◌≤◌, ◌<◌, ◌≡◌, List, length}
use Rattle.calls.specs.Calls.{judged}
use Rattle.taxa.specs.Most.{most}
use Rattle.tree.specs.Tree.{rows}
use Rattle.tree.specs.Refusals.{table_checks}
use Rattle.job_steps.specs.Job.{Outcome, after, put_step, longest}
use Rattle.job_steps.specs.Steps.{Lent}
use Rattle.job_steps.specs.declared.State.{State}

-- The step over a table of the right length.
abbrev pub kept_step : ℕ → ℕ → List ℕ → Outcome
kept_step at n t = after at (judged (table_checks n t) t) (put_step at n)

-- What the test of 16 asks of a state and the lent partitions.
pub record Parted (s : State) (parts : List ℕ) : Type 0 where
  pub taxa-big : 4 < s.at → 4 ≤ s.taxa
  pub taxa-few : s.taxa ≤ most
  pub for_parts : s.parts ≤ length parts

-- A state that passes the checks of a state.
pub record Held (s : State) (m : Lent) : Type 0 where
  pub taxa-big : (s.at ≡ 0 → ⊥) → 4 ≤ s.taxa
  pub taxa-few : s.taxa ≤ most
  pub for_table : 4 < s.at → 2 * rows s.taxa ≤ length m.table
  pub for_parts : s.parts ≤ length m.parts
  pub offset : (s.at ≡ 0 → ⊥) → 4 ≤ s.at
  pub few-moves : s.moves ≤ longest
