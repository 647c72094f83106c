-- How the C header's structs read what is told of a call: a refusal's number
-- or 0, the place, and the numbers of the answer, which are 0 where there is
-- none.
use Rattle.std.specs.Prelude.{ℕ}
use Rattle.calls.specs.Calls.{Said, code_of, place_of, given_or, value_of}
use Rattle.job_steps.specs.Steps.{Told, told, ended}
use Rattle.job_steps.specs.Runs.{first}
use Rattle.job_steps.specs.declared.State.{State}
use Rattle.tusvlane.specs.declared.Answer.{Answer}
use Rattle.tusvlane.specs.declared.Comparison.{Comparison}
use Rattle.tusvlane.specs.declared.Placed.{Placed}
use Rattle.tusvlane.specs.declared.StepAnswer.{StepAnswer}

-- A refusal or 0, and one number.
abbrev pub answer_of : Said ℕ → Answer
answer_of s = record { refusal = code_of s; value = value_of (λ k. k) s }

-- A refusal or 0, the distance and the missing split.
abbrev pub comparison_of : Said (ℕ × ℕ) → Comparison
comparison_of s =
    record {
      refusal = code_of s;
      distance = value_of (λ w. w.0) s;
      missing = value_of (λ w. w.1) s;
    }

-- A refusal or 0, and its place.
abbrev pub placed_of : {A : Type 0} → Said A → Placed
placed_of s = record { refusal = code_of s; place = place_of s }

-- Of what a step tells: 1 where the job is over; how many bytes of lines; and
-- the next state, which is the first where there is none.
abbrev pub is_end : Told → ℕ
is_end (told t w) = 0
is_end ended = 1

abbrev pub wrote_of : Told → ℕ
wrote_of (told t w) = w
wrote_of ended = 0

abbrev pub next_of : Told → State
next_of (told t w) = t
next_of ended = first

abbrev pub step_answer_of : Said Told → StepAnswer
step_answer_of s =
    record {
      refusal = code_of s;
      ended = value_of is_end s;
      place = place_of s;
      wrote = value_of wrote_of s;
      next = given_or first next_of s;
    }
