-- What the three calls say by the answer of the door. Assumes nothing.
use mathlib.Core.Path.{◌≡◌, refl, sym, ap, ◌∙◌}
use mathlib.Core.List.{List, []}
use Prim.Native.Nat.{ℕ, ◌^◌, ◌≤◌, ◌<◌}
use Rattle.std.specs.Prelude.{Result, Ok, Err}
use lib.Dec.{leb}
use lib.ListN.{length}
use borrow.Author.Tests.{le-leb, lt-leb, ltb-true}
use Rattle.calls.specs.Between.{Wrote}
use Rattle.group_rule.specs.Zeros.{zeros}
use Rattle.calls.specs.declared.Refusal.{Refusal}
use Rattle.calls.specs.Calls.{Said, gives, judged}
use Rattle.calls.proofs.CheckLaws.{judged-next, judged_fail}
use Rattle.calls.proofs.CallLaws.{answers, call-is, call-refuses, call-gives}
use Rattle.tree.specs.Splits.{dist, distances}
use Rattle.tree.specs.Refusals.{partition_checks, partitions_checks, room_checks}
use Rattle.moves.specs.Moves.{Move, moved}
use Rattle.moves.specs.Between.{plan_moved}
use Rattle.moves.specs.declared.Plan.{Plan}
use Rattle.door.specs.Between.{parts_said, Entered, Opened}
use Rattle.door.proofs.PartitionLaws.{no_parts}
use Rattle.door.proofs.DoorLaws.{door_refuses, door_opens, opened-says, opened-moved}
use Rattle.judge.specs.Promises.{Applies, JudgesAll, JudgesOne}
use Rattle.judge.specs.Between.{JudgesPlan}

-- ---- a move alone
module _ {n : ℕ} {t : List ℕ} {m : Move} {near s : List ℕ} where
  module _ {r : Result Plan Refusal} (e : Entered n t (gives tt) m r near s) where
    pub moves-refused : {k : Refusal} → r ≡ Err k → Applies n t m (Err k) t
    moves-refused {k = k} h = call-refuses k (door_refuses [] (no_parts n) e [] (moved n t m) h)

    pub moves-opens : {p : Plan} → r ≡ Ok p → Opened n t near s [] m p
    moves-opens = door_opens [] (no_parts n) e

  pub moves-done : {p : Plan} {t' : List ℕ} → Opened n t near s [] m p → t' ≡ plan_moved n t p
      → Applies n t m (Ok tt) t'
  unfolding judged
  moves-done o e = call-gives (moved n t m) (opened-says o [] (moved n t m)) refl
      (e ∙ opened-moved o)

-- ---- a move judged for a list of partitions

-- Where only the room is left.
module _ (n : ℕ) (t ys : List ℕ) (p : Plan) (out : List ℕ) where
  pub plan_11 : length out < length ys → JudgesPlan n t ys p out (Err Refusal.Room) out
  plan_11 h =
      call-refuses Refusal.Room
      (judged_fail (leb (length ys) (length out)) Refusal.Room []
      (distances n t (plan_moved n t p) ys) (lt-leb (length ys) (length out) h))

  pub plan-told : {r : ℕ} {out' : List ℕ} → length ys ≤ length out
      → Wrote zeros (distances n t (plan_moved n t p) ys) out r out'
      → JudgesPlan n t ys p out (Ok r) out'
  unfolding judged
  plan-told h told =
      let ds = distances n t (plan_moved n t p) ys in
      call-gives ds (judged-next (leb (length ys) (length out)) Refusal.Room [] ds
      (le-leb (length ys) (length out) h))
      told.count told.memory

module _ (ys : List ℕ) {n : ℕ} {t : List ℕ} {m : Move} {near s out : List ℕ}
    {parts : Said (Unit {0})} where
  pub judges_refused : {r : Result Plan Refusal} {k : Refusal} → parts ≡ parts_said n (partitions_checks n ys)
      → Entered n t parts m r near s
      → r ≡ Err k → JudgesAll n t ys m out (Err k) out
  judges_refused {k = k} by e h =
      call-refuses k
      (door_refuses (partitions_checks n ys) by e (room_checks (length ys) (length out))
      (distances n t (moved n t m) ys) h)

module _ (ys : List ℕ) {n : ℕ} {t : List ℕ} {m : Move} {near s out out' : List ℕ} {p : Plan}
    (r : Result ℕ Refusal) where
  pub judges_plan : Opened n t near s (partitions_checks n ys) m p → JudgesPlan n t ys p out r out'
      → JudgesAll n t ys m out r out'
  judges_plan o c =
      let more = room_checks (length ys) (length out) in
      call-is (ap (λ (u : List ℕ). judged more (distances n t u ys)) (opened-moved o)
      ∙ sym (opened-says o more (distances n t (moved n t m) ys))) c

-- ---- a move judged for one partition
module _ (y : ℕ) {n : ℕ} {t : List ℕ} {m : Move} {near s : List ℕ} where
  pub one_refused : {parts : Said (Unit {0})} {r : Result Plan Refusal} {k : Refusal}
      → parts ≡ parts_said n (partition_checks n y)
      → Entered n t parts m r near s → r ≡ Err k → JudgesOne n t y m (Err k)
  one_refused by e h = answers
      (sym (door_refuses (partition_checks n y) by e [] (dist n t (moved n t m) y) h))

  pub one_told : {p : Plan} {d : ℕ} → Opened n t near s (partition_checks n y) m p
      → d ≡ dist n t (plan_moved n t p) y
      → JudgesOne n t y m (Ok d)
  unfolding judged
  one_told o e =
      answers (ap gives (e ∙ ap (λ (u : List ℕ). dist n t u y) (opened-moved o))
      ∙ sym (opened-says o [] (dist n t (moved n t m) y)))

  -- The partition is one of the n taxa.
  pub one_within : {p : Plan} → Opened n t near s (partition_checks n y) m p → y < 2 ^ n
  one_within o = ltb-true y (2 ^ n) o.parts.0
