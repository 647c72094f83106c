-- What a step past a field says: it goes on in the job, and its lines fit the
-- lent output. Assumes nothing.
use mathlib.Core.Path.{◌≡◌, refl, sym, ap, subst, ◌∙◌}
use mathlib.Core.Bool.{Bool, true, false, ◌&&◌}
use mathlib.Core.List.{List}
use Prim.Native.Nat.{ℕ, ◌≤◌, ◌<◌}
use lib.Dec.{ltb, leb}
use lib.ListN.{length}
use borrow.Author.Tests.{leb-true}
use Rattle.taxa.specs.Sets.{pick}
use Rattle.calls.specs.Calls.{Said, gives, refuses, refuses_at, tells}
use Rattle.std.specs.Prelude.{Option, Some, Result, Ok}
use Rattle.calls.specs.declared.Refusal.{Refusal}
use Rattle.calls.specs.declared.RefusedAt.{RefusedAt}
use Rattle.job_steps.specs.Job.{Known, Outcome, next, over, after, field, longest}
use Rattle.job_steps.specs.Steps.{Lent, known_of, state_said, fitting, stepped, Told, told}
use Rattle.job_steps.specs.Steps.{ended}
use Rattle.job_steps.specs.Steps.{told_of, stepped_says, Steps}
use Rattle.job_steps.specs.declared.State.{State}
use Rattle.job_steps.specs.declared.Next.{Next}
use Rattle.job_steps.proofs.SoundLaws.{field_forward}

-- What is told of a step past a field: its offset lies above `from` and not
-- past the job's end, and its lines are no more than the room.
abbrev Forward : ℕ → ℕ → ℕ → Said Told → Type 0
Forward from long room (gives (told t w)) = (from < t.at) × (t.at ≤ long) × (w ≤ room)
Forward from long room (gives ended) = Unit {0}
Forward from long room (refuses r) = Unit {0}
Forward from long room (refuses_at r p) = Unit {0}

module _ (job : List ℕ) (s : State) (m : Lent) where
  abbrev On : Outcome → Type 0
  On o = Forward s.at (length job) (length m.out) (tells told_of o)

  -- Of an outcome that does not fit, only the refusal is told.
  on-fitting : (o : Outcome)
      → ((k : Known) (ls : List ℕ) → o ≡ gives (next k ls) → (s.at < k.at) × (k.at ≤ length job))
      → On (fitting s.at m o)
  on-fitting (gives (next k ls)) h =
      go (leb (length k.table) (length m.table) && leb (length k.parts)
      (length m.parts))
      (leb (length ls) (length m.out)) refl
    where
      go : (a b : Bool) → leb (length ls) (length m.out) ≡ b
          → On (pick (a && b) (gives (next k ls)) (refuses_at Refusal.Room s.at))
      go true true e = ((h k ls refl).0, (h k ls refl).1, leb-true (length ls) (length m.out) e)
      go true false e = tt
      go false b e = tt
  on-fitting (gives over) h = tt
  on-fitting (refuses r) h = tt
  on-fitting (refuses_at r p) h = tt

  on_step : (b : Bool) (x : Said (Unit {0}))
      → On (pick b (refuses_at Refusal.Long 0)
      (after s.at x (λ u. fitting s.at m (field job (known_of s m)))))
  on_step true x = tt
  on_step false (gives u) = on-fitting (field job (known_of s m)) (field_forward job (known_of s m))
  on_step false (refuses r) = tt
  on_step false (refuses_at r p) = tt

  -- A step past a field, from any state, leaves a higher offset, not past the
  -- job's end; and the bytes that it says it wrote are no more than the lent
  -- output has.
  pub step_forward : {x : Next} {r : Result (Option Next) RefusedAt} {m' : Lent} → r ≡ Ok (Some x)
      → Steps job s m r m'
      → (s.at < x.state.at) × (x.state.at ≤ length job) × (x.wrote ≤ length m.out)
  step_forward {x} {r} {m'} r-is g =
      let says : tells told_of (stepped job s m) ≡ stepped_says (Ok (Some x)) =
      sym g.says ∙ ap stepped_says r-is in
      subst (Forward s.at (length job) (length m.out)) says
      (on_step (ltb longest (length job)) (state_said s m))
