-- What holds of everything known in a job, and of the end of a listing.
use Rattle.std.specs.Prelude.{ℕ, ◌*◌, ◌^◌, ◌≤◌, ◌<◌, ◌≡◌, true, List, [], ◌++◌, ltb, length}
use Rattle.taxa.specs.Most.{most, most_partitions}
use Rattle.tree.specs.Refusals.{each, all_seen, Accepted}
use Rattle.lines.specs.Lines.{end_line, refused_line}
use Rattle.job_steps.specs.Job.{Known, nothing, longest}
use Rattle.job_steps.specs.Steps.{Lent, known_of, state_of}
use Rattle.job_steps.specs.Runs.{Roomy}
use Rattle.job_steps.specs.declared.State.{State}

-- Before n, between n and the table, and after the table.
pub data Stage (k : Known) : Type 0 where
  from_start : k ≡ nothing → Stage k
  at_table : k.at ≡ 4 → 4 ≤ k.taxa → k.taxa ≤ most → k.table ≡ []
      → k.parts ≡ [] → k.moves ≡ 0 → Stage k
  past-table : 4 < k.at → Accepted k.taxa k.table
      → each (λ y. ltb y (2 ^ k.taxa)) k.parts ≡ true → Stage k

-- What is known lies within the job, with as many moves as their bytes allow
-- and no more partitions than the most; after a move each taxon is in one.
pub record Sound (job : List ℕ) (k : Known) : Type 0 where
  pub within : k.at ≤ length job
  pub few-moves : 7 * k.moves ≤ k.at
  pub few-parts : length k.parts ≤ most_partitions
  pub seen : (k.moves ≡ 0 → ⊥) → all_seen k.taxa k.parts ≡ true
  pub stage : Stage k

-- A state and memory that the steps over a job come to: the job is too long,
-- or the state and the memory hold something sound; and there is room for any
-- job.
pub data Going (job : List ℕ) (s : State) (m : Lent) : Type 0 where
  too_long : longest < length job → Roomy m → Going job s m
  under_way : (k : Known) → length job ≤ longest → Sound job k → s ≡ state_of k
      → known_of s m ≡ k → Roomy m → Going job s m

-- A listing that ends with a closing line.
pub data Closes (l : List ℕ) : Type 0 where
  by_end : (ls : List ℕ) (m : ℕ) → l ≡ ls ++ end_line m → Closes l
  by_refusal : (ls : List ℕ) (r p : ℕ) → l ≡ ls ++ refused_line r p → Closes l
