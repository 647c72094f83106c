-- What the two calls say at each test of the code, and that each answer is
-- settled by what it says. Assumes nothing.
use mathlib.Core.Path.{◌≡◌, sym, ap, ap₂, ◌∙◌}
use mathlib.Core.Bool.{false}
use mathlib.Core.List.{List, [], ◌++◌}
use Rattle.std.specs.Prelude.{Result, Ok, Err}
use Prim.Native.Nat.{ℕ, ◌^◌, ◌≤◌, ◌<◌}
use native.Mathlib.Omega.{arith}
use lib.Dec.{ltb}
use lib.ListN.{length}
use borrow.Author.Tests.{le-leb, lt-leb, lt-ltb, le-ltb}
use Rattle.calls.specs.declared.Refusal.{Refusal}
use Rattle.calls.specs.Calls.{Check, gives, refuses, judged, Pass}
use Rattle.calls.proofs.CheckLaws.{judged_pass, judged-next, judged_fail, refuses_more}
use Rattle.calls.proofs.CallLaws.{answers, call-refuses, call-gives}
use Rattle.tree.specs.Splits.{splits}
use Rattle.tree.specs.Refusals.{count_checks, table_checks, tree_checks, partition_checks, room_checks}
use Rattle.tree.specs.Refusals.{tree_said, Accepted}
use Rattle.tree.proofs.RefusalLaws.{accepted_pass, accepted_iff}
use Rattle.calls.specs.Between.{Wrote}
use Rattle.sides.specs.Between.{Sighted}
use Rattle.sides.proofs.LookLaws.{sighted-refused}
use Rattle.splits.specs.declared.Apart.{Apart}
use Rattle.splits.specs.Promises.{induced_said, Induces}
use Rattle.splits.specs.Promises.{trees_apart, compared_said, apart, compare_says, Compares}
use Rattle.splits.specs.Between.{lists_apart, Listed}
use Rattle.splits.proofs.ListLaws.{Within, listed_apart}

-- ---- the induced splits
module _ (n : ℕ) (t : List ℕ) (y : ℕ) (out : List ℕ) where
  abbrev l : List ℕ
  l = splits n t y

  abbrev room : List Check
  room = room_checks (length l) (length out)

  past_5 : Accepted n t → induced_said n t y (length out) ≡ judged (partition_checks n y ++ room) l
  past_5 good =
      judged_pass (tree_checks n t) (partition_checks n y ++ room) l (accepted_pass n t good)

  past_6 : Within n t y → induced_said n t y (length out) ≡ judged room l
  past_6 w = past_5 w.good
      ∙ judged-next (ltb y (2 ^ n)) Refusal.Partition room l w.bound

pub induces_tree : {n : ℕ} {t : List ℕ} (y : ℕ) {out : List ℕ} {c : Result (Unit {0}) Refusal} {r : Refusal}
    {s : List ℕ} → Sighted n t c s → c ≡ Err r
    → Induces n t y out (Err r) out
induces_tree {n} {t} y {out} {r = r} f e = call-refuses r
    (refuses_more (tree_checks n t) (partition_checks n y ++ room n t y out) tt (splits n t y) r
    (sighted-refused f e))

module _ {n : ℕ} {t : List ℕ} (y : ℕ) {out : List ℕ} where
  pub induces_6 : Accepted n t → ltb y (2 ^ n) ≡ false
      → Induces n t y out (Err Refusal.Partition) out
  induces_6 good h =
      call-refuses Refusal.Partition
      (past_5 n t y out good
      ∙ judged_fail (ltb y (2 ^ n)) Refusal.Partition (room n t y out) (splits n t y) h)

module _ {n : ℕ} {t : List ℕ} {y : ℕ} {out : List ℕ} (w : Within n t y) where
  pub induces_11 : length out < length (splits n t y)
      → Induces n t y out (Err Refusal.Room) out
  induces_11 h =
      call-refuses Refusal.Room
      (past_6 n t y out w ∙ judged_fail _ Refusal.Room [] (splits n t y)
      (lt-leb (length (splits n t y)) (length out) h))

  pub induces_list : length (splits n t y) ≤ length out → {r : ℕ} {out' : List ℕ}
      → Wrote length (splits n t y) out r out' → Induces n t y out (Ok r) out'
  unfolding judged
  induces_list h L =
      call-gives (splits n t y)
      (past_6 n t y out w ∙ judged-next _ Refusal.Room [] (splits n t y)
      (le-leb (length (splits n t y)) (length out) h))
      L.count L.memory

-- ---- the comparison
module _ (n : ℕ) (t u : List ℕ) (y : ℕ) where
  abbrev both : ℕ × ℕ
  both = trees_apart n t u y

  past_first : Accepted n t
      → compared_said n t u y ≡ judged (table_checks n u ++ partition_checks n y) both
  past_first good = judged_pass (tree_checks n t) (table_checks n u ++ partition_checks n y) both
      (accepted_pass n t good)

  past-second : Accepted n t → Accepted n u
      → compared_said n t u y ≡ judged (partition_checks n y) both
  past-second good good' = past_first good
      ∙ judged_pass (table_checks n u) (partition_checks n y) both (accepted_pass n u good').1

pub compares_first : {n : ℕ} {t : List ℕ} (u : List ℕ) (y : ℕ) {c : Result (Unit {0}) Refusal} {r : Refusal}
    {s : List ℕ} → Sighted n t c s → c ≡ Err r
    → Compares n t u y (Err r)
compares_first {n} {t} u y {r = r} f e =
    answers (sym (refuses_more (tree_checks n t) (table_checks n u ++ partition_checks n y) tt
    (both n t u y) r (sighted-refused f e)))

module _ {n : ℕ} {t : List ℕ} (u : List ℕ) (y : ℕ) (good : Accepted n t) where
  -- the count n belongs to both trees
  pub compares_second : {r : Refusal} → tree_said n u ≡ refuses r
      → Compares n t u y (Err r)
  compares_second {r} e =
      let count : Pass (count_checks n) = ((accepted_pass n t good).0, tt) in
      let w = sym (judged_pass (count_checks n) (table_checks n u) tt count) ∙ e in
      answers (sym (past_first n t u y good
      ∙ refuses_more (table_checks n u) (partition_checks n y) (tt {0}) (both n t u y) r w))

  pub compares_6 : tree_said n u ≡ gives tt → 2 ^ n ≤ y
      → Compares n t u y (Err Refusal.Partition)
  compares_6 e h = answers (sym (past-second n t u y good ((accepted_iff n u).0 e)
      ∙ judged_fail (ltb y (2 ^ n)) Refusal.Partition [] (both n t u y) (le-ltb y (2 ^ n) h)))

pub compares_lists : {n : ℕ} {t u : List ℕ} {y : ℕ} {a b : List ℕ} → Listed n t y a
    → Listed n u y b → (r : Apart) → apart r ≡ lists_apart a b → Compares n t u y (Ok r)
unfolding judged
compares_lists {n} {t} {u} {y} k l r e =
    answers (ap gives e ∙ listed_apart k l ∙ sym (past-second n t u y k.good l.good
    ∙ judged-next (ltb y (2 ^ n)) Refusal.Partition [] (both n t u y)
    (lt-ltb y (2 ^ n) k.bound)))

-- ---- a comparison is settled by what it says
abbrev of_two : ℕ → ℕ → Apart
of_two d x = record { distance = d; missing = x }

pub compared_one : (a b : Result Apart Refusal) → compare_says a ≡ compare_says b → a ≡ b
compared_one (Ok a) (Ok b) h =
    let w : ◌≡◌ {A = ℕ × ℕ} (apart a) (apart b) = cc in
    ap Ok (ap₂ of_two (ap (λ (v : ℕ × ℕ). v.0) w) (ap (λ (v : ℕ × ℕ). v.1) w))
compared_one (Ok a) (Err r) h = absurd (let z : ◌≡◌ {A = ℕ} 0 1 = cc in omega arith)
compared_one (Err r) (Ok a) h = absurd (let z : ◌≡◌ {A = ℕ} 0 1 = cc in omega arith)
compared_one (Err r) (Err s) h = let e : r ≡ s = cc in ap Err e
