-- What the call for a move's lines says by the answer of the door, and that
-- its answer is settled by what it says. Assumes nothing.
use mathlib.Core.Path.{◌≡◌, refl, sym, ap, ap₂, ◌∙◌}
use mathlib.Core.List.{List, []}
use Prim.Native.Nat.{ℕ, ◌+◌, ◌≤◌, ◌<◌}
use Rattle.std.specs.Prelude.{Result, Ok, Err}
use lib.Dec.{leb}
use lib.ListN.{length, take}
use borrow.Author.Tests.{le-leb, lt-leb}
use Rattle.taxa.specs.Most.{most}
use Rattle.calls.specs.declared.Refusal.{Refusal}
use Rattle.calls.specs.Calls.{Said, gives, refuses, refuses_at, judged, tells, says, lent_then}
use Rattle.calls.specs.Between.{Wrote}
use Rattle.calls.proofs.CheckLaws.{judged-next, judged_fail}
use Rattle.calls.proofs.CallLaws.{call-is, call-refuses, call-gives}
use Rattle.tree.specs.Splits.{distances}
use Rattle.tree.specs.Refusals.{partitions_checks, room_checks}
use Rattle.moves.specs.Moves.{Move, moved}
use Rattle.moves.specs.Between.{plan_moved}
use Rattle.moves.specs.declared.Plan.{Plan}
use Rattle.door.specs.Between.{parts_said, Entered, Opened}
use Rattle.group_rule.specs.Zeros.{zeros}
use Rattle.door.proofs.PartitionLaws.{each_of}
use Rattle.door.proofs.DoorLaws.{door_refuses, opened-says, opened-moved}
use Rattle.lines.specs.Lines.{placed}
use Rattle.lines.specs.Between.{WroteAt}
use Rattle.saved.specs.Saved.{saved_of}
use Rattle.saved.proofs.SavedLaws.{saved_wide}
use Rattle.move_lines.specs.MoveLines.{lines_with, move_lines}
use Rattle.move_listing.specs.Listing.{lines_of, lines_said, page, Lists}
use Rattle.move_listing.specs.Between.{Puts, rows_moved}
use Rattle.move_listing.proofs.FoundLaws.{found_are}

-- ---- lines where there is room
module _ (ls : List ℕ) (place : ℕ) (out : List ℕ) where
  pub puts_11 : length out < place + length ls → Puts ls place out (Err Refusal.Room) out
  puts_11 h = call-refuses Refusal.Room
      (judged_fail (leb (place + length ls) (length out)) Refusal.Room [] ls
      (lt-leb (place + length ls) (length out) h))

  pub puts_done : place + length ls ≤ length out → {r : ℕ} {out' : List ℕ}
      → WroteAt ls place out r out' → Puts ls place out (Ok r) out'
  unfolding judged
  puts_done h w =
      call-gives ls
      (judged-next (leb (place + length ls) (length out)) Refusal.Room [] ls
      (le-leb (place + length ls) (length out) h))
      w.place w.memory

-- ---- the call
module _ (ys : List ℕ) (k place : ℕ) {n : ℕ} {t : List ℕ} {m : Move} {near s out : List ℕ} where
  pub lists_refused : {parts : Said (Unit {0})} {e : Result Plan Refusal}
      {r : Refusal} → parts ≡ parts_said n (partitions_checks n ys)
      → Entered n t parts m e near s → e ≡ Err r
      → Lists n ys m k place (page t out) (Err r) (page t out)
  lists_refused {r = r} by d h =
      let ls = lines_of n t ys m k in
      call-refuses r (door_refuses (partitions_checks n ys) by d
      (room_checks (place + length ls) (length out)) ls h)

  -- What is put for the distances and the number saved is listed, and the
  -- table moves where it is.
  module _
      {p : Plan} (o : Opened n t near s (partitions_checks n ys) m p)
      {out' ds₀ ds : List ℕ} {same saved : ℕ}
      (e : Wrote zeros (distances n t (plan_moved n t p) ys) ds₀ same ds)
      (c : saved ≡ saved_of most ys (take (length ys) ds))
    where
      put : (r : Result ℕ Refusal) {t' : List ℕ}
          → Puts (lines_with k (take (length ys) ds) saved) place out r out'
          → t' ≡ lent_then (rows_moved n p) (says r) t
          → Lists n ys m k place (page t out) r (page t' out')
      put r {t'} puts moves =
          let ls = lines_of n t ys m k in
          let roomed : List ℕ → Said (List ℕ) =
          λ l. judged (room_checks (place + length l) (length out)) l in
          let left = opened-says o (room_checks (place + length ls) (length out)) ls in
          let call = call-is (ap roomed lines ∙ sym left) puts in
          let told = moves ∙ ap (λ (x : Said ℕ). lent_then (rows_moved n p) x t) call.says in
          record {
            says = call.says;
            memory = go (lines_said n t ys m k (length out) place) call.memory told;
          }
        where
          found : List ℕ
          found = take (length ys) ds

          lines : lines_with k found saved ≡ lines_of n t ys m k
          lines =
              ap (lines_with k found) (c ∙ saved_wide n most ys found o.looked.good.few
              (each_of n ys o.parts))
              ∙ ap (move_lines n k ys) (found_are n t (plan_moved n t p) ys e
              ∙ ap (λ (u : List ℕ). distances n t u ys) (opened-moved o))

          go : (x : Said (List ℕ)) → out' ≡ lent_then (λ w q. placed q place w) x out
              → t' ≡ lent_then (rows_moved n p) (tells (λ w. place + length w) x) t
              → page t' out' ≡ lent_then (λ w q. page (moved n q.table m) (placed q.out place w))
              x (page t out)
          go (gives w) a b = ap₂ page (b ∙ opened-moved o) a
          go (refuses j) a b = ap₂ page b a
          go (refuses_at j q) a b = ap₂ page b a

      module _ {x : Result ℕ Refusal}
          (puts : Puts (lines_with k (take (length ys) ds) saved) place out x out') where
        pub lists_11 : {r : Refusal} → x ≡ Err r
            → Lists n ys m k place (page t out) (Err r) (page t out')
        lists_11 {r} h = put (Err r) (rw h at puts) refl

        pub lists_put : {end : ℕ} {t' : List ℕ} → x ≡ Ok end → t' ≡ plan_moved n t p
            → Lists n ys m k place (page t out) (Ok end) (page t' out')
        lists_put {end} h moves = put (Ok end) (rw h at puts) moves
