-- The listing of every job is plain. Assumes nothing.
use mathlib.Core.Path.{◌≡◌, refl, sym, subst}
use mathlib.Core.Bool.{Bool, true, false}
use mathlib.Core.List.{List, []}
use Prim.Native.Nat.{ℕ, zero, suc, ◌+◌}
use lib.Dec.{ltb}
use lib.ListN.{length}
use Rattle.calls.specs.declared.Refusal.{Refusal}
use Rattle.taxa.specs.Sets.{pick}
use Rattle.lines.specs.Lines.{refused_line}
use Rattle.lines.specs.Plain.{Plain, none}
use Rattle.calls.specs.Calls.{gives, refuses_at, refuses}
use Rattle.lines.proofs.PlainLaws.{end_plain, refused_plain, plain_append}
use Rattle.move_lines.proofs.PlainLines.{move_plain}
use Rattle.job_steps.specs.Job.{Known, nothing, Outcome, next, over, field, longest}
use Rattle.job_steps.specs.Job.{lines_after}
use Rattle.job_steps.specs.Job.{listing_from, listing, listing_from_of, listing_of}
use Rattle.job_steps.proofs.Turns.{Turn, read-taxa, read_table, read_partition, read-move}
use Rattle.job_steps.proofs.Turns.{turn}
use Rattle.calls.specs.Refusals.{number_of}

-- The lines of a step past a field: those of a move, or none.
step_plain : (job : List ℕ) (k k' : Known) (ls : List ℕ) → field job k ≡ gives (next k' ls)
    → Plain ls
step_plain job k k' ls h = go (turn job k k' ls h)
  where
    empty : ls ≡ [] → Plain ls
    empty e = subst Plain (sym e) none

    go : Turn job k k' ls → Plain ls
    go (read-taxa n a c b e l) = empty l
    go (read_table t a c p e l) = empty l
    go (read_partition y a b few c r e l) = empty l
    go (read-move m a b c all p e l) = subst Plain (sym l) (move_plain (k.moves + 1) _ _)

-- From what is known on, the lines are plain.
plain_from : (job : List ℕ) (f : ℕ) (k : Known) → Plain (listing_from f job k)
unfolding listing_from_of lines_after
plain_from job zero k = none
plain_from job (suc f) k = go (plain_from job f) (field job k) refl
  where
    go : ((k' : Known) → Plain (listing_from f job k')) → (o : Outcome) → field job k ≡ o
        → Plain (lines_after k.moves o (listing_from f job))
    go ih (gives (next k' ls)) h =
        plain_append ls (listing_from f job k') (step_plain job k k' ls h) (ih k')
    go ih (gives over) h = end_plain k.moves
    go ih (refuses r) h = refused_plain (number_of r) 0
    go ih (refuses_at r p) h = refused_plain (number_of r) p

pub listing_plain : (job : List ℕ) → Plain (listing job)
unfolding listing_of
listing_plain job = go (ltb longest (length job))
  where
    go : (b : Bool) → Plain (pick b (refused_line (number_of Refusal.Long) 0)
        (listing_from (suc (length job)) job nothing))
    go true = refused_plain (number_of Refusal.Long) 0
    go false = plain_from job (suc (length job)) nothing
