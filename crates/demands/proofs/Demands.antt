-- The three demands of the request, over the definitions, each theorem with a
-- plain sentence above it. Assumes nothing.
use Rattle.std.specs.Prelude.{Option, Some, Result, Ok, Err}
use mathlib.Core.Path.{◌≡◌, refl, sym, ap, subst, ◌∙◌}
use mathlib.Core.Logic.{◌↔◌}
use mathlib.Core.Bool.{true}
use mathlib.Core.List.{List, [], ◌++◌}
use Prim.Native.Nat.{ℕ, ◌+◌, ◌*◌, ◌^◌, ◌≤◌, ◌<◌}
use lib.Dec.{ltb}
use lib.ListN.{length}
use Rattle.calls.specs.declared.Refusal.{Refusal}
use Rattle.calls.specs.declared.RefusedAt.{RefusedAt}
use Rattle.calls.specs.Calls.{Said, gives, refuses, refuses_at, Pass, done, on, Given, says}
use Rattle.calls.proofs.CallLaws.{call_one, call-settles, call_by_one}
use Rattle.calls.proofs.CallLaws.{call_by_settles, call_zero, call-on, call_kept}
use Rattle.calls.proofs.CallLaws.{call-refused, call_refused_at}
use Rattle.calls.proofs.NumberLaws.{code_told}
use Rattle.calls.proofs.SaysLaws.{says_one}
use Rattle.taxa.specs.Sets.{pick, has, union, in_some, size, Sub}
use Rattle.taxa.proofs.Unions.{has-union}
use Rattle.tree.specs.Tree.{rows, Valid}
use Rattle.tree.specs.Lists.{mem}
use Rattle.tree.specs.Splits.{holds_lowest, splits, dist_by, dist}
use Rattle.tree.specs.Splits.{distances_by, distances, unchanged, Gains}
use Rattle.tree.specs.Refusals.{each, tree_said, all_seen, room_checks, Accepted}
use Rattle.tree.proofs.Seen.{given-seen, seen_gains}
use Rattle.tree.proofs.Monotone.{dist-lowest, distances-lowest, dist_mono}
use Rattle.tree.proofs.FewTaxa.{few_same}
use Rattle.sides.specs.Promises.{Checks}
use Rattle.splits.specs.Promises.{induced_said, Induces}
use Rattle.splits.specs.Promises.{compared_said, compare_says, Compares}
use Rattle.splits.specs.declared.Apart.{Apart}
use Rattle.splits.proofs.SaidLaws.{compared_one}
use Rattle.moves.specs.Moves.{Move, moved, move_checks}
use Rattle.moves.specs.Groups.{move_rule}
use Rattle.moves.specs.Verdicts.{moved_said, judged_said, judged_one_said}
use Rattle.moves.proofs.AnyMove.Moved.{moved_accepted, moved-dist}
use Rattle.moves.proofs.AnyMove.Demands.{move_same_mono, move_unchanged_mono, same_iff_splits}
use Rattle.group_rule.specs.Zeros.{zeros}
use Rattle.group_rule.proofs.Judging.{zeros-unchanged}
use Rattle.judge.specs.Promises.{Applies, JudgesAll, JudgesOne}
use Rattle.lines.specs.Lines.{saved_line}
use Rattle.lines.specs.Plain.{Plain}
use Rattle.saved.specs.Saved.{saved_of, of_four_or_more, how_many_fewer}
use Rattle.move_lines.specs.MoveLines.{verdict_lines, move_lines}
use Rattle.move_listing.specs.Listing.{lines_of, lines_said, Page, place_after, Lists}
use Rattle.saved.proofs.SavedLaws.{saved_unchanged, others-unchanged}
use Rattle.move_lines.proofs.LineLaws.{lines_are}
use Rattle.job_steps.specs.Job.{Known, next}
use Rattle.job_steps.specs.Job as job
use Rattle.job_steps.specs.Steps.{Lent, lending, told_of, stepped_says}
use Rattle.job_steps.specs.Steps as steps
use Rattle.job_steps.specs.Runs.{first, run, Roomy}
use Rattle.job_steps.specs.Sound.{Going, Closes}
use Rattle.job_steps.specs.declared.State.{State}
use Rattle.job_steps.specs.declared.Next.{Next}
use Rattle.job_steps.proofs.PlainListing.{listing_plain}
use Rattle.job_steps.proofs.StateLaws.{stepped_one}
use Rattle.job_steps.proofs.Turns.{field-seen}
use Rattle.job_steps.proofs.StepForward.{step_forward}
use Rattle.job_steps.proofs.GoingLaws.{room-enough, going_field}
use Rattle.job_steps.proofs.RunLaws.{run-is-listing, listing-closes}
use Rattle.newick_grammar.specs.Newick.{IsTree}
use Rattle.newick_reader.specs.Promises.{Right, Reads, reading_says, Plants}
use Rattle.newick_labels.specs.declared.NotNewick.{NotNewick}
use Rattle.newick_reader.specs.declared.Unread.{Unread}
use Rattle.newick_reader.specs.declared.Unread.TheVariants as unread
use Rattle.newick_reader.proofs.OneReading.{reads_one, reading_one, reads_valid, reads_iff}
use Rattle.tusvlane.specs.Promises as c
use Rattle.tusvlane.specs.Numbers.{check_numbers, induced_numbers, compare_numbers, apply_numbers}
use Rattle.tusvlane.specs.Numbers.{verdict_numbers, judge_numbers, read_numbers, step_numbers}
use Rattle.tusvlane.specs.declared.Answer.{Answer}
use Rattle.tusvlane.specs.declared.Comparison.{Comparison}
use Rattle.tusvlane.specs.declared.Placed.{Placed}
use Rattle.tusvlane.specs.declared.StepAnswer.{StepAnswer}
use Rattle.tusvlane.proofs.NumberLaws.{check_only, induced_only, compare_only}
use Rattle.tusvlane.proofs.NumberLaws.{apply_only, verdict_only, judge_only}
use Rattle.tusvlane.proofs.NumberLaws.{list-only, read_only, step_only}

-- ==== Demand 1: an answer or one refusal for every input, and a refusal
-- leaves what was lent.

-- Each call has one answer, and leaves one state of what was lent to it.
pub one_check : (n : ℕ) (t : List ℕ) (a b : Result (Unit {0}) Refusal) → Checks n t a → Checks n t b
    → a ≡ b
one_check n t a b x z =
    (call-settles says says_one {a = a} {b = b} x z).0

pub one_induced : (n : ℕ) (t : List ℕ) (y : ℕ) (out : List ℕ) (a b : Result ℕ Refusal)
    (p q : List ℕ) → Induces n t y out a p → Induces n t y out b q
    → (a ≡ b) × (p ≡ q)
one_induced n t y out a b p q =
    call-settles says says_one {a = a} {b = b}

pub one_compared : (n : ℕ) (t u : List ℕ) (y : ℕ) (a b : Result Apart Refusal)
    → Compares n t u y a → Compares n t u y b → a ≡ b
one_compared n t u y a b x z =
    (call-settles compare_says compared_one {a = a} {b = b} x z).0

pub one_applied : (n : ℕ) (t : List ℕ) (m : Move) (a b : Result (Unit {0}) Refusal) (u v : List ℕ)
    → Applies n t m a u → Applies n t m b v → (a ≡ b) × (u ≡ v)
one_applied n t m a b u v = call-settles says says_one {a = a} {b = b}

pub one_judged : (n : ℕ) (t ys : List ℕ) (m : Move) (out : List ℕ)
    (a b : Result ℕ Refusal) (u v : List ℕ) → JudgesAll n t ys m out a u
    → JudgesAll n t ys m out b v → (a ≡ b) × (u ≡ v)
one_judged n t ys m out a b u v =
    call-settles says says_one {a = a} {b = b}

pub one_verdict : (n : ℕ) (t : List ℕ) (y : ℕ) (m : Move) (a b : Result ℕ Refusal)
    → JudgesOne n t y m a → JudgesOne n t y m b → a ≡ b
one_verdict n t y m a b x z =
    (call-settles says says_one {a = a} {b = b} x z).0

pub one_listed : (n : ℕ) (ys : List ℕ) (m : Move) (k place : ℕ) (p : Page)
    (a b : Result ℕ Refusal) (q r : Page) → Lists n ys m k place p a q
    → Lists n ys m k place p b r → (a ≡ b) × (q ≡ r)
one_listed n ys m k place p a b q r =
    call-settles says says_one {a = a} {b = b}

pub one_read : (n : ℕ) (s out : List ℕ) (a b : Result (Unit {0}) Unread) (p q : List ℕ)
    → Plants n s out a p → Plants n s out b q → (a ≡ b) × (p ≡ q)
one_read n s out a b p q =
    call_by_settles reading_says reading_one (reads_one n s (length out)) {a = a} {b = b}

pub one_start : (a b : State) → a ≡ first → b ≡ first → a ≡ b
one_start a b x z = x ∙ sym z

pub one_step : (j : List ℕ) (s : State) (m : Lent)
    (a b : Result (Option Next) RefusedAt) (p q : Lent)
    → steps.Steps j s m a p → steps.Steps j s m b q → (a ≡ b) × (p ≡ q)
one_step j s m a b p q =
    call-settles stepped_says stepped_one {a = a} {b = b}

-- Under its C name a call has one answer too, to the last number, and leaves
-- one state of what was lent to it. tusvlane_start promises what start does.
pub one_c_check : (n : ℕ) (t : List ℕ) (a b : ℕ) → c.Checks n t a → c.Checks n t b
    → a ≡ b
one_c_check n t a b x z = (call_one x z).0

pub one_c_induced : (n : ℕ) (t : List ℕ) (y : ℕ) (out : List ℕ) (a b : Answer)
    (p q : List ℕ) → c.Induces n t y out a p → c.Induces n t y out b q
    → (a ≡ b) × (p ≡ q)
one_c_induced n t y out a b p q = call_one

pub one_c_compared : (n : ℕ) (t u : List ℕ) (y : ℕ) (a b : Comparison)
    → c.Compares n t u y a → c.Compares n t u y b → a ≡ b
one_c_compared n t u y a b x z = (call_one x z).0

pub one_c_applied : (n : ℕ) (t : List ℕ) (m : Move) (a b : ℕ) (u v : List ℕ)
    → c.Applies n t m a u → c.Applies n t m b v → (a ≡ b) × (u ≡ v)
one_c_applied n t m a b u v = call_one

pub one_c_judged : (n : ℕ) (t ys : List ℕ) (m : Move) (out : List ℕ)
    (a b : Answer) (p q : List ℕ) → c.Judges n t ys m out a p
    → c.Judges n t ys m out b q → (a ≡ b) × (p ≡ q)
one_c_judged n t ys m out a b p q = call_one

pub one_c_verdict : (n : ℕ) (t : List ℕ) (y : ℕ) (m : Move) (a b : Answer)
    → c.JudgesOne n t y m a → c.JudgesOne n t y m b → a ≡ b
one_c_verdict n t y m a b x z = (call_one x z).0

pub one_c_listed : (n : ℕ) (ys : List ℕ) (m : Move) (k place : ℕ) (p : Page)
    (a b : Answer) (q r : Page) → c.Lists n ys m k place p a q
    → c.Lists n ys m k place p b r → (a ≡ b) × (q ≡ r)
one_c_listed n ys m k place p a b q r = call_one

pub one_c_read : (n : ℕ) (s out : List ℕ) (a b : Placed) (p q : List ℕ)
    → c.Plants n s out a p → c.Plants n s out b q → (a ≡ b) × (p ≡ q)
one_c_read n s out a b p q = call_by_one (reads_one n s (length out))

pub one_c_step : (j : List ℕ) (s : State) (m : Lent) (a b : StepAnswer)
    (p q : Lent) → c.Steps j s m a p → c.Steps j s m b q → (a ≡ b) × (p ≡ q)
one_c_step j s m a b p q = call_one

-- There the refusal number is 0 exactly when the call gives its answer.
pub zero_c_check : (n : ℕ) (t : List ℕ) (r : ℕ) → c.Checks n t r
    → (r ≡ 0) ↔ Given (tree_said n t)
zero_c_check n t r = call_zero (λ k. k) (λ s. refl)

pub zero_c_induced : (n : ℕ) (t : List ℕ) (y : ℕ) (out : List ℕ) (r : Answer)
    (out' : List ℕ) → c.Induces n t y out r out'
    → (r.refusal ≡ 0) ↔ Given (induced_said n t y (length out))
zero_c_induced n t y out r out' = call_zero (λ a. a.refusal) (code_told length)

pub zero_c_compared : (n : ℕ) (t u : List ℕ) (y : ℕ) (r : Comparison)
    → c.Compares n t u y r → (r.refusal ≡ 0) ↔ Given (compared_said n t u y)
zero_c_compared n t u y r = call_zero (λ a. a.refusal) (λ s. refl)

pub zero_c_applied : (n : ℕ) (t : List ℕ) (m : Move) (r : ℕ) (t' : List ℕ)
    → c.Applies n t m r t' → (r ≡ 0) ↔ Given (moved_said n t m)
zero_c_applied n t m r t' = call_zero (λ k. k) (code_told done)

pub zero_c_judged : (n : ℕ) (t ys : List ℕ) (m : Move) (out : List ℕ)
    (r : Answer) (out' : List ℕ) → c.Judges n t ys m out r out'
    → (r.refusal ≡ 0) ↔ Given (judged_said n t ys m (length out))
zero_c_judged n t ys m out r out' = call_zero (λ a. a.refusal) (code_told zeros)

pub zero_c_verdict : (n : ℕ) (t : List ℕ) (y : ℕ) (m : Move) (r : Answer)
    → c.JudgesOne n t y m r → (r.refusal ≡ 0) ↔ Given (judged_one_said n t y m)
zero_c_verdict n t y m r = call_zero (λ a. a.refusal) (λ s. refl)

pub zero_c_listed : (n : ℕ) (ys : List ℕ) (m : Move) (k place : ℕ) (p : Page)
    (r : Answer) (q : Page) → c.Lists n ys m k place p r q
    → (r.refusal ≡ 0)
    ↔ Given (lines_said n p.table ys m k (length p.out) place)
zero_c_listed n ys m k place p r q =
    call_zero (λ a. a.refusal) (code_told (place_after place))

pub zero_c_read : (n : ℕ) (s out : List ℕ) (r : Placed) (out' : List ℕ)
    → c.Plants n s out r out'
    → (r.refusal ≡ 0) ↔ ((t : List ℕ) × Reads n s (length out) (gives t))
zero_c_read n s out r out' p = (there p.said p.is zero.0, back)
  where
    zero : (r.refusal ≡ 0) ↔ Given p.said
    zero = call_zero (λ a. a.refusal) (code_told done) p.call

    there : (h : Said (List ℕ)) → Reads n s (length out) h
        → (r.refusal ≡ 0 → Given h) → r.refusal ≡ 0
        → (t : List ℕ) × Reads n s (length out) (gives t)
    there (gives t) by g z = (t, by)
    there (refuses k) by g z = absurd (g z)
    there (refuses_at k q) by g z = absurd (g z)

    back : (t : List ℕ) × Reads n s (length out) (gives t) → r.refusal ≡ 0
    back (t, w) =
        let e = reads_one n s (length out) (gives t) p.said w p.is in
        zero.1 (subst Given e tt)

pub zero_c_step : (j : List ℕ) (s : State) (m : Lent) (r : StepAnswer)
    (m' : Lent) → c.Steps j s m r m'
    → (r.refusal ≡ 0) ↔ Given (steps.stepped j s m)
zero_c_step j s m r m' = call_zero (λ a. a.refusal) (code_told told_of)

-- Where it is not 0, it is one of the numbers that the C header names for the
-- call.
pub number_c_check : (n : ℕ) (t : List ℕ) (r : ℕ) → c.Checks n t r
    → (r ≡ 0 → ⊥) → on check_numbers r ≡ true
number_c_check n t r =
    call-on (λ k. k) (λ s. refl) check_numbers (check_only n t)

pub number_c_induced : (n : ℕ) (t : List ℕ) (y : ℕ) (out : List ℕ) (r : Answer)
    (out' : List ℕ) → c.Induces n t y out r out' → (r.refusal ≡ 0 → ⊥)
    → on induced_numbers r.refusal ≡ true
number_c_induced n t y out r out' =
    call-on (λ a. a.refusal) (code_told length) induced_numbers
    (induced_only n t y (length out))

pub number_c_compared : (n : ℕ) (t u : List ℕ) (y : ℕ) (r : Comparison)
    → c.Compares n t u y r → (r.refusal ≡ 0 → ⊥)
    → on compare_numbers r.refusal ≡ true
number_c_compared n t u y r =
    call-on (λ a. a.refusal) (λ s. refl) compare_numbers (compare_only n t u y)

pub number_c_applied : (n : ℕ) (t : List ℕ) (m : Move) (r : ℕ) (t' : List ℕ)
    → c.Applies n t m r t' → (r ≡ 0 → ⊥) → on apply_numbers r ≡ true
number_c_applied n t m r t' =
    call-on (λ k. k) (code_told done) apply_numbers (apply_only n t m)

pub number_c_judged : (n : ℕ) (t ys : List ℕ) (m : Move) (out : List ℕ)
    (r : Answer) (out' : List ℕ) → c.Judges n t ys m out r out'
    → (r.refusal ≡ 0 → ⊥) → on judge_numbers r.refusal ≡ true
number_c_judged n t ys m out r out' =
    call-on (λ a. a.refusal) (code_told zeros) judge_numbers
    (judge_only n t m ys (length out))

pub number_c_verdict : (n : ℕ) (t : List ℕ) (y : ℕ) (m : Move) (r : Answer)
    → c.JudgesOne n t y m r → (r.refusal ≡ 0 → ⊥)
    → on verdict_numbers r.refusal ≡ true
number_c_verdict n t y m r =
    call-on (λ a. a.refusal) (λ s. refl) verdict_numbers (verdict_only n t m y)

pub number_c_listed : (n : ℕ) (ys : List ℕ) (m : Move) (k place : ℕ) (p : Page)
    (r : Answer) (q : Page) → c.Lists n ys m k place p r q
    → (r.refusal ≡ 0 → ⊥) → on judge_numbers r.refusal ≡ true
number_c_listed n ys m k place p r q =
    call-on (λ a. a.refusal) (code_told (place_after place)) judge_numbers
    (list-only n p.table m ys k (length p.out) place)

pub number_c_read : (n : ℕ) (s out : List ℕ) (r : Placed) (out' : List ℕ)
    → c.Plants n s out r out' → (r.refusal ≡ 0 → ⊥)
    → on read_numbers r.refusal ≡ true
number_c_read n s out r out' p =
    call-on (λ a. a.refusal) (code_told done) read_numbers
    (read_only n s (length out) p.said p.is) p.call

pub number_c_step : (j : List ℕ) (s : State) (m : Lent) (r : StepAnswer)
    (m' : Lent) → c.Steps j s m r m' → (r.refusal ≡ 0 → ⊥)
    → on step_numbers r.refusal ≡ true
number_c_step j s m r m' =
    call-on (λ a. a.refusal) (code_told told_of) step_numbers (step_only j s m)

-- A refused list of splits leaves the lent list.
pub kept_induced : (n : ℕ) (t : List ℕ) (y : ℕ) (out : List ℕ) (r : Refusal)
    (out' : List ℕ) → Induces n t y out (Err r) out' → out' ≡ out
kept_induced n t y out r out' p = (call-refused p).1

-- A refused move leaves the lent table.
pub kept_applied : (n : ℕ) (t : List ℕ) (m : Move) (r : Refusal) (t' : List ℕ)
    → Applies n t m (Err r) t' → t' ≡ t
kept_applied n t m r t' p = (call-refused p).1

-- A refused judgement leaves the lent list.
pub kept-judged : (n : ℕ) (t ys : List ℕ) (m : Move) (out : List ℕ)
    (r : Refusal) (out' : List ℕ)
    → JudgesAll n t ys m out (Err r) out' → out' ≡ out
kept-judged n t ys m out r out' p = (call-refused p).1

-- A move whose lines are refused leaves the lent table and the lent output.
pub kept_listed : (n : ℕ) (ys : List ℕ) (m : Move) (k place : ℕ) (p : Page)
    (r : Refusal) (q : Page) → Lists n ys m k place p (Err r) q
    → q ≡ p
kept_listed n ys m k place p r q x = (call-refused x).1

-- A refused text leaves the lent table.
pub kept_read : (n : ℕ) (s out : List ℕ) (r : Refusal) (out' : List ℕ)
    → Plants n s out (Err (unread.Refused r)) out' → out' ≡ out
kept_read n s out r out' p = (call-refused p.call).1

-- So does one that is refused with a place.
pub kept-read-at : (n : ℕ) (s out : List ℕ) (e : NotNewick) (out' : List ℕ)
    → Plants n s out (Err (unread.NotNewick e)) out' → out' ≡ out
kept-read-at n s out e out' p = (call_refused_at p.call).1

-- A refused step leaves the lent table, partitions and output.
pub kept_step : (j : List ℕ) (s : State) (m : Lent) (e : RefusedAt)
    (m' : Lent) → steps.Steps j s m (Err e) m' → m' ≡ m
kept_step j s m e m' g = (call_refused_at g).1

-- Under its C name a call whose refusal number is not 0 leaves what was lent.
pub kept_c_induced : (n : ℕ) (t : List ℕ) (y : ℕ) (out : List ℕ) (r : Answer)
    (out' : List ℕ) → c.Induces n t y out r out' → (r.refusal ≡ 0 → ⊥)
    → out' ≡ out
kept_c_induced n t y out r out' = call_kept (λ a. a.refusal) (code_told length)

pub kept_c_applied : (n : ℕ) (t : List ℕ) (m : Move) (r : ℕ) (t' : List ℕ)
    → c.Applies n t m r t' → (r ≡ 0 → ⊥) → t' ≡ t
kept_c_applied n t m r t' = call_kept (λ k. k) (code_told done)

pub kept_c_judged : (n : ℕ) (t ys : List ℕ) (m : Move) (out : List ℕ)
    (r : Answer) (out' : List ℕ) → c.Judges n t ys m out r out'
    → (r.refusal ≡ 0 → ⊥) → out' ≡ out
kept_c_judged n t ys m out r out' = call_kept (λ a. a.refusal) (code_told zeros)

pub kept_c_listed : (n : ℕ) (ys : List ℕ) (m : Move) (k place : ℕ) (p : Page)
    (r : Answer) (q : Page) → c.Lists n ys m k place p r q
    → (r.refusal ≡ 0 → ⊥) → q ≡ p
kept_c_listed n ys m k place p r q =
    call_kept (λ a. a.refusal) (code_told (place_after place))

pub kept_c_read : (n : ℕ) (s out : List ℕ) (r : Placed) (out' : List ℕ)
    → c.Plants n s out r out' → (r.refusal ≡ 0 → ⊥) → out' ≡ out
kept_c_read n s out r out' p =
    call_kept (λ a. a.refusal) (code_told done) p.call

pub kept_c_step : (j : List ℕ) (s : State) (m : Lent) (r : StepAnswer)
    (m' : Lent) → c.Steps j s m r m' → (r.refusal ≡ 0 → ⊥) → m' ≡ m
kept_c_step j s m r m' = call_kept (λ a. a.refusal) (code_told told_of)

-- Every job comes to an end: its listing closes with `end M` or with `refused
-- N at P`.
pub every_job_ends : (j : List ℕ) → Closes (job.listing j)
every_job_ends = listing-closes

-- ==== Demand 2: the tree after a move, the induced splits, each verdict, each
-- distance and the counts are those of the definitions.

-- Every accepted text gives a valid table.
pub read-valid : (n : ℕ) (s : List ℕ) (room : ℕ) (t : List ℕ)
    → Reads n s room (gives t) → Accepted n t
read-valid = reads_valid

-- With a right number of taxa and room for it, a table is given exactly for
-- the texts of the grammar.
pub read_iff : (n : ℕ) (s : List ℕ) (room : ℕ) → Right n → 2 * rows n ≤ room
    → ((t : List ℕ) × Reads n s room (gives t)) ↔ IsTree n s
read_iff = reads_iff

-- The table after an accepted move on a tree is a tree again.
pub tree_after : (n : ℕ) (t : List ℕ) (m : Move) → Accepted n t
    → Pass (move_checks n t m) → Accepted n (moved n t m)
tree_after = moved_accepted

-- A partition is the same exactly when its induced split sets before and after
-- are equal.
pub same_exactly : (n : ℕ) (t : List ℕ) (m : Move) (y : ℕ)
    → (dist n t (moved n t m) y ≡ 0) ↔ (splits n t y ≡ splits n (moved n t m) y)
same_exactly = same_iff_splits

-- The papers' count of groups gives that distance, for every tree, accepted
-- move and partition.
pub papers_rule : (n : ℕ) (t : List ℕ) (m : Move) → Valid n t
    → Pass (move_checks n t m) → (y : ℕ) → y < 2 ^ n
    → dist n t (moved n t m) y ≡ move_rule n t m y
papers_rule = moved-dist

-- The number that a judgement answers is the number of partitions that are the
-- same.
pub count_same : (n : ℕ) (t u ys : List ℕ)
    → zeros (distances n t u ys) ≡ unchanged n t u ys
count_same = zeros-unchanged

-- The `saved` number of a move is counted from the distances on the lines
-- above it and the sizes of the partitions; the class beside it, from the
-- distances alone.
pub saved_counted : (n m : ℕ) (ys ds : List ℕ)
    → verdict_lines m 1 ds
    ++ saved_line m (saved_of n ys ds) (zeros ds) (length ds)
    ≡ move_lines n m ys ds
saved_counted n m ys ds = lines_are m ds (saved_of n ys ds) (zeros ds) refl

-- That number is the number unchanged of the partitions of four or more taxa.
pub count_saved : (n : ℕ) (t u ys : List ℕ)
    → saved_of n ys (distances n t u ys) ≡ unchanged n t u (of_four_or_more n ys)
count_saved = saved_unchanged

-- A partition of fewer than four taxa has the distance 0 for any two valid
-- tables of the same n.
pub few-unchanged : (n : ℕ) (t u : List ℕ) (y : ℕ) → Valid n t → Valid n u
    → y < 2 ^ n → size n y < 4 → dist n t u y ≡ 0
few-unchanged n t u y first second bound few =
    few_same n y bound few first second

-- So for two valid tables and partitions of the n taxa, the number unchanged
-- is the number saved plus the number of those of fewer than four taxa.
pub saved_and_few : (n : ℕ) (t u ys : List ℕ) → Valid n t → Valid n u
    → each (λ y. ltb y (2 ^ n)) ys ≡ true
    → unchanged n t u ys
    ≡ saved_of n ys (distances n t u ys) + how_many_fewer n ys
saved_and_few n t u ys first second right =
    others-unchanged n t u ys first second right
    ∙ ap (λ (k : ℕ). k + how_many_fewer n ys) (sym (saved_unchanged n t u ys))

-- A move is judged, and its lines are written, only where each of the n taxa
-- is in some partition on the list.
pub judged-seen : (n : ℕ) (t ys : List ℕ) (m : Move) (room : ℕ) (ds : List ℕ)
    → judged_said n t ys m room ≡ gives ds → (i : ℕ) → i < n
    → in_some ys i ≡ true
judged-seen n t ys m room ds h i l =
    let cs = move_checks n t m ++ room_checks (length ys) room in
    given-seen n t ys cs (distances n t (moved n t m) ys) ds h i l

pub listed_seen : (n : ℕ) (t ys : List ℕ) (m : Move) (k room place : ℕ)
    (ls : List ℕ) → lines_said n t ys m k room place ≡ gives ls → (i : ℕ)
    → i < n → in_some ys i ≡ true
listed_seen n t ys m k room place ls h i l =
    let xs = lines_of n t ys m k in
    let cs = move_checks n t m ++ room_checks (place + length xs) room in
    given-seen n t ys cs xs ls h i l

-- So it is in a job: where a field gives lines, each taxon is in a partition.
pub lines_seen : (j : List ℕ) (k k' : Known) (ls : List ℕ)
    → job.field j k ≡ gives (next k' ls) → (ls ≡ [] → ⊥) → (i : ℕ) → i < k.taxa
    → in_some k.parts i ≡ true
lines_seen = field-seen

-- The bitwise or of the partitions has exactly the taxa that are in one.
pub union-has : (ys : List ℕ) (i : ℕ) → has (union ys) i ≡ in_some ys i
union-has = has-union

-- The steps in order, with room for any job, write the listing of the whole
-- job as defined; one step more than the job has bytes is enough, and further
-- ones change nothing.
pub steps_list : (j : List ℕ) (m : Lent) (f : ℕ) → Roomy m → length j < f
    → run f j first m ≡ job.listing j
steps_list = run-is-listing

-- The program's 250 bytes, 64 partitions and 8192 bytes are such room.
pub program_room : (table parts out : List ℕ) → length table ≡ 250
    → length parts ≡ 64 → length out ≡ 8192 → Roomy (lending table parts out)
program_room = room-enough

-- With room for any job no step is refused for a state or for room: it is 13
-- or what the field alone gives.
pub program_step : (j : List ℕ) (s : State) (m : Lent) → Going j s m
    → steps.stepped j s m ≡ pick (ltb job.longest (length j)) (refuses_at Refusal.Long 0)
    (job.field j (steps.known_of s m))
program_step = going_field

-- From any state a step past a field leaves a higher offset, not past the
-- job's end. So there are never more such steps than bytes.
pub steps_forward : (j : List ℕ) (s : State) (m m' : Lent) (x : Next)
    → steps.Steps j s m (Ok (Some x)) m'
    → (s.at < x.state.at) × (x.state.at ≤ length j)
steps_forward j s m m' x g =
    let f = step_forward j s m refl g in (f.0, f.1)

-- Every written line is ASCII, with one line feed and no blank at its end.
pub plain_lines : (j : List ℕ) → Plain (job.listing j)
plain_lines = listing_plain

-- The distance is what it was when a split was written by the side without the
-- lowest taxon.
pub distance_as_before : (n : ℕ) (t u : List ℕ) (y : ℕ) → y < 2 ^ n
    → dist n t u y ≡ dist_by holds_lowest n t u y
distance_as_before = dist-lowest

-- So are the lines of a move, and with them each verdict and the saved count.
pub lines_as_before : (n : ℕ) (t u ys : List ℕ)
    → ((y : ℕ) → mem y ys ≡ true → y < 2 ^ n) → (m : ℕ)
    → move_lines n m ys (distances n t u ys)
    ≡ move_lines n m ys (distances_by holds_lowest n t u ys)
lines_as_before n t u ys h m =
    ap (move_lines n m ys) (distances-lowest n t u ys h)

-- ==== Demand 3: more species never lower a distance.

-- For any two valid trees and Y1 within Y2, the distance over Y1 is at most
-- the distance over Y2.
pub distance_grows : (n y₁ y₂ : ℕ) → Sub y₁ y₂ → y₂ < 2 ^ n → (t u : List ℕ)
    → Valid n t → Valid n u → dist n t u y₁ ≤ dist n t u y₂
distance_grows n y₁ y₂ sub bound t u vt vu = dist_mono n y₁ y₂ sub bound t u

-- For one tree and one accepted move, more species never turn changed into
-- same.
pub changed_stays : (n : ℕ) (t : List ℕ) (m : Move) (y₁ y₂ : ℕ) → Sub y₁ y₂
    → y₂ < 2 ^ n → dist n t (moved n t m) y₂ ≡ 0
    → dist n t (moved n t m) y₁ ≡ 0
changed_stays = move_same_mono

-- Nor do they bring refusal 16: where each taxon was in some partition, it
-- still is.
pub seen_stays : (n : ℕ) (ys zs : List ℕ) → Gains n ys zs
    → all_seen n ys ≡ true → all_seen n zs ≡ true
seen_stays = seen_gains

-- Nor do they raise the number of partitions that are unchanged, which the
-- listing does not print.
pub unchanged_falls : (n : ℕ) (t : List ℕ) (m : Move) (ys zs : List ℕ)
    → Gains n ys zs
    → unchanged n t (moved n t m) zs ≤ unchanged n t (moved n t m) ys
unchanged_falls = move_unchanged_mono
