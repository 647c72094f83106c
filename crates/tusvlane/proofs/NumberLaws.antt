-- The numbers that each call can be refused with: those of its checks. Assumes
-- nothing.
use mathlib.Core.Path.{◌≡◌, refl, sym, subst}
use mathlib.Core.Bool.{Bool, true, false, ◌||◌}
use mathlib.Core.List.{List, [], ◌∷◌, ◌++◌}
use Prim.Native.Nat.{ℕ, ◌+◌, ◌*◌}
use lib.Dec.{eqb, ltb, leb}
use lib.ListN.{length, get_or}
use Rattle.calls.specs.declared.Refusal.{Refusal}
use Rattle.calls.specs.Calls.{Check, ◌else◌, Said, gives, refuses_at, judged, placed_at, OnlyBy}
use Rattle.calls.proofs.NumberLaws.{all_on, judged-only, placed-only, then-only}
use Rattle.taxa.specs.Sets.{pick}
use Rattle.tree.specs.Tree.{rows}
use Rattle.tree.specs.Splits.{splits, dist, distances}
use Rattle.tree.specs.Refusals.{count_checks, table_checks, tree_checks, partition_checks}
use Rattle.tree.specs.Refusals.{partitions_checks, room_checks, tree_said}
use Rattle.moves.specs.Moves.{Move, moved, move_checks}
use Rattle.moves.specs.Verdicts.{moved_said, judged_said, judged_one_said}
use Rattle.splits.specs.Promises.{trees_apart, induced_said, compared_said}
use Rattle.move_listing.specs.Listing.{lines_of, lines_said}
use Rattle.fields.specs.Fields.{tag_at, stated_at, content_at, number_in, move_in, allowed}
use Rattle.fields.specs.Fields.{headed, complete, length_checks}
use Rattle.job_steps.specs.Job.{Known, Fielded, next, over, Outcome, after}
use Rattle.job_steps.specs.Job.{with_taxa, put_step, with_partition, with_move}
use Rattle.job_steps.specs.Job.{taxa_step, table_step, partition_step, move_step, tagged_step_of}
use Rattle.job_steps.specs.Job.{tagged_step}
use Rattle.job_steps.specs.Job.{seen_so_far, field_of, field, longest}
use Rattle.job_steps.specs.Steps.{Lent, known_of, state_checks, has_room, room_for, fitting, stepped}
use Rattle.job_steps.specs.declared.State.{State}
use Rattle.newick_reader.specs.Promises.{Reads, of_count, of_text, of_room, of_tree}
use Rattle.tusvlane.specs.Numbers.{check_numbers, induced_numbers, compare_numbers, apply_numbers}
use Rattle.tusvlane.specs.Numbers.{verdict_numbers, judge_numbers, read_numbers, step_numbers}

-- ---- the calls that judge a list of checks
module _ (n : ℕ) (t : List ℕ) where
  pub check_only : OnlyBy check_numbers (tree_said n t)
  check_only = judged-only check_numbers (tree_checks n t) tt refl

  pub induced_only : (y room : ℕ) → OnlyBy induced_numbers (induced_said n t y room)
  induced_only y room =
      let l = splits n t y in
      judged-only induced_numbers
      (tree_checks n t ++ partition_checks n y ++ room_checks (length l) room) l refl

  pub compare_only : (u : List ℕ) (y : ℕ) → OnlyBy compare_numbers (compared_said n t u y)
  compare_only u y =
      judged-only compare_numbers (tree_checks n t ++ table_checks n u ++ partition_checks n y)
      (trees_apart n t u y) refl

  module _ (m : Move) where
    pub apply_only : OnlyBy apply_numbers (moved_said n t m)
    apply_only = judged-only apply_numbers (tree_checks n t ++ move_checks n t m) (moved n t m) refl

    pub verdict_only : (y : ℕ) → OnlyBy verdict_numbers (judged_one_said n t y m)
    verdict_only y =
        judged-only verdict_numbers (tree_checks n t ++ partition_checks n y ++ move_checks n t m)
        (dist n t (moved n t m) y) refl

    pub judge_only : (ys : List ℕ) (room : ℕ) → OnlyBy judge_numbers (judged_said n t ys m room)
    judge_only ys room =
        judged-only judge_numbers (tree_checks n t ++ partitions_checks n ys ++ move_checks n t m
        ++ room_checks (length ys) room)
        (distances n t (moved n t m) ys) refl

    pub list-only : (ys : List ℕ) (k room place : ℕ)
        → OnlyBy judge_numbers (lines_said n t ys m k room place)
    list-only ys k room place =
        let ls = lines_of n t ys m k in
        judged-only judge_numbers (tree_checks n t ++ partitions_checks n ys ++ move_checks n t m
        ++ room_checks (place + length ls) room) ls refl

-- ---- the text
pub read_only : (n : ℕ) (s : List ℕ) (room : ℕ) (h : Said (List ℕ)) → Reads n s room h
    → OnlyBy read_numbers h
read_only n s room h (of_count w e) = subst (OnlyBy read_numbers) (sym e) refl
read_only n s room h (of_text w p g e) = subst (OnlyBy read_numbers) (sym e) refl
read_only n s room h (of_room w g l e) = subst (OnlyBy read_numbers) (sym e) refl
read_only n s room h (of_tree w o g l e) = subst (OnlyBy read_numbers) (sym e) tt

-- ---- the step
abbrev Only : Outcome → Type 0
Only = OnlyBy step_numbers

only-pick : (b : Bool) (x y : Outcome) → Only x → Only y → Only (pick b x y)
only-pick true x y v w = v
only-pick false x y v w = w

only-after : {A : Type 0} (at : ℕ) (cs : List Check) (a : A) (f : A → Outcome)
    → all_on step_numbers cs ≡ true
    → ((x : A) → Only (f x)) → Only (after at (judged cs a) f)
only-after at cs a f h w =
    then-only step_numbers (placed_at at (judged cs a)) f
    (placed-only step_numbers at (judged cs a) (judged-only step_numbers cs a h)) w

only-room : (at : ℕ) (m : Lent) (x : Fielded) → Only (room_for at m x)
only-room at m (next k ls) =
    only-pick (has_room m k ls) (gives (next k ls)) (refuses_at Refusal.Room at) tt refl
only-room at m over = tt

module _ (job : List ℕ) (k : Known) where
  -- The step over a field of each tag.
  taxa-only : Only (taxa_step job k.at)
  taxa-only =
      let n = get_or job (k.at + 3) 0 in
      only-after k.at (length_checks job k.at 1 ++ count_checks n) n
      (λ x. gives (next (with_taxa k.at x) [])) refl (λ x. tt)

  table-only : Only (table_step job k.at k.taxa)
  table-only =
      let l = 2 * rows k.taxa in
      let t = content_at job k.at l in
      only-after k.at
      ((headed job k.at else Refusal.Field) ∷ (eqb (stated_at job k.at) l else Refusal.Length)
      ∷ (complete job k.at l else Refusal.Field) ∷ table_checks k.taxa t)
      t (put_step k.at k.taxa) refl (λ x. tt)

  partition_only : Only (partition_step job k)
  partition_only =
      let y = number_in (content_at job k.at 8) in
      only-after k.at (length_checks job k.at 8 ++ partition_checks k.taxa y) y
      (λ x. gives (next (with_partition k x) [])) refl (λ x. tt)

  move-only : Only (move_step job k)
  move-only =
      let m = move_in (content_at job k.at 4) in
      only-after k.at
      (length_checks job k.at 4 ++ tree_checks k.taxa k.table ++ partitions_checks k.taxa
      k.parts ++ move_checks k.taxa k.table m)
      m (λ x. gives (next (with_move k x)
      (lines_of k.taxa k.table k.parts x (k.moves + 1)))) refl (λ x. tt)

  tagged_only : (tag : ℕ) → Only (tagged_step job k tag)
  unfolding tagged_step_of
  tagged_only tag =
      only-pick (eqb tag 1) _ _ taxa-only
      (only-pick (eqb tag 2) _ _ table-only (only-pick (eqb tag 3) _ _ partition_only move-only))

  field-only : Only (field job k)
  unfolding field_of
  field-only =
      let tag = tag_at job k.at in
      only-pick (leb (length job) k.at) _ _
      (only-after (length job) ((leb 1 (length k.parts) else Refusal.Field)
      ∷ (seen_so_far k else Refusal.Unseen) ∷ []) (tt {0})
      (λ u. gives over) refl (λ u. tt))
      (only-after k.at
      (((eqb tag 3 || seen_so_far k) else Refusal.Unseen)
      ∷ (allowed k.at (length k.parts) k.moves tag else Refusal.Field) ∷ [])
      (tt {0}) (λ u. tagged_step job k tag) refl (λ u. tagged_only tag))

pub step_only : (job : List ℕ) (s : State) (m : Lent) → OnlyBy step_numbers (stepped job s m)
step_only job s m =
    only-pick (ltb longest (length job)) (refuses_at Refusal.Long 0) _ refl
    (only-after s.at (state_checks s m) (tt {0})
    (λ u. fitting s.at m (field job (known_of s m))) refl
    (λ u. then-only step_numbers (field job (known_of s m)) (room_for s.at m)
    (field-only job (known_of s m)) (only-room s.at m)))
