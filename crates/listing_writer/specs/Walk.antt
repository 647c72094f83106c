-- What a walk over a job's steps gives, one after the other.
use Rattle.std.specs.Prelude.{ℕ, ◌≡◌, List, ◌++◌, Result, Ok, Err}
use Rattle.std.specs.Borrow.{Bor}
use Rattle.std.specs.Fn.{Mut, CalledAt}
use Rattle.std.specs.List.{FoldsTo, concat}
use Rattle.calls.specs.declared.RefusedAt.{RefusedAt}
use Rattle.calls.specs.Refusals.{number_of}
use Rattle.lines.specs.Lines.{end_line, refused_line}
use Rattle.job_steps.specs.Job.{listing}

-- The closing line of a job that ended so.
abbrev pub closing : Result ℕ RefusedAt → List ℕ
closing (Ok moves) = end_line moves
closing (Err why) = refused_line (number_of why.why) why.place

-- What was called took the lines of each step, in order, and answered that it
-- did; with the closing line they are the listing of the job.
pub record GivesListing {F E : Type 0} (g : Mut F (Bor (List ℕ) × Unit {0}) (Result (Unit {0}) E))
    (give : F) (job : List ℕ) (ending : Result ℕ RefusedAt) : Type 0 where
  pub given : List (List ℕ)
  pub last : F
  pub taken : FoldsTo (λ p lines q. CalledAt g p lines (Ok tt) q) give given last
  pub whole : concat given ++ closing ending ≡ listing job
