-- The step over one field: what the code gives at each of its returns is the
-- outcome. Assumes nothing.
use mathlib.Core.Path.{◌≡◌, refl, sym, ap, ap₂, ◌∙◌}
use mathlib.Core.Logic.{◌⊎◌, inl, inr}
use mathlib.Core.Bool.{Bool, true, false, ◌&&◌}
use mathlib.Core.List.{List, [], ◌∷◌, ◌++◌, append-nil}
use Prim.Native.Nat.{ℕ, ◌+◌, ◌*◌, ◌≤◌, ◌<◌}
use native.Mathlib.Nat.{zero-add}
use native.Mathlib.Omega.{arith}
use lib.Dec.{leb}
use lib.ListN.{length, take, drop, take-append-drop, length-append, drop_of_length-le}
use lib.Seq.{length-take-le, take_all}
use borrow.Author.Tests.{le-leb, lt-leb, leb-true, leb-false, eqb-true}
use Rattle.taxa.specs.Sets.{pick}
use Rattle.taxa.proofs.Bools.{either}
use Rattle.tree.specs.Tree.{rows}
use Rattle.calls.specs.Calls.{Check, Said, gives, judged, at_start, refuses_at, ◌else◌}
use Rattle.tree.specs.Refusals.{tree_checks, partitions_checks, room_checks}
use Rattle.calls.proofs.CheckLaws.{judged-next}
use Rattle.calls.proofs.CallLaws.{call-is, call-refused, call-given}
use Rattle.std.specs.Prelude.{Result, Ok, Err}
use Rattle.calls.specs.declared.Refusal.{Refusal}
use Rattle.moves.specs.Moves.{Move, moved, move_checks}
use Rattle.moves.proofs.AnyMove.Named.{moved_length}
use Rattle.fields.specs.Fields.{content_at, move_in, allowed_of, allowed, length_right}
use Rattle.fields.proofs.FieldLaws.{Framed}
use Rattle.lines.proofs.Placing.{placed_start}
use Rattle.move_listing.specs.Listing.{lines_of, lines_said, Page, page, Lists}
use Rattle.job_steps.specs.Job.{Known, Outcome, next, after, move_step}
use Rattle.job_steps.specs.Steps.{Lent, lending, held_table, known_of, fitting, told}
use Rattle.job_steps.specs.Between.{Held}
use Rattle.job_steps.specs.Steps.{GivesFrom, state_of}
use Rattle.job_steps.specs.declared.State.{State}
use Rattle.job_steps.specs.declared.Next.{Next}

-- ---- the lent memory

-- Three parts that are equal make equal memory.
pub lending_same : {a b c x y z : List ℕ} → a ≡ x → b ≡ y → c ≡ z → lending a b c ≡ lending x y z
lending_same e f g = rw (e, f, g)

-- What is taken from the start of a list and put there leaves it.
pub put-taken : (n : ℕ) (l : List ℕ) → at_start (take n l) l ≡ l
put-taken n l = go (either (leb n (length l)))
  where
    go : (leb n (length l) ≡ true) ⊎ (leb n (length l) ≡ false) → at_start (take n l) l ≡ l
    go (inl e) =
        ap (λ (k : ℕ). take n l ++ drop k l) (length-take-le n l (leb-true n (length l) e))
        ∙ take-append-drop n l
    go (inr e) =
        let whole = take_all n l (let w = leb-false n (length l) e in omega arith) in
        ap (λ (x : List ℕ). x ++ drop (length x) l) whole
        ∙ ap (λ (x : List ℕ). l ++ x) (drop_of_length-le l {i = length l} (omega arith))
        ∙ append-nil l

-- ---- what a state holds

-- The table that a state has is at the start of the memory, whatever the
-- state.
pub table-first : (s : State) (table : List ℕ) → table ≡ at_start (held_table s table) table
table-first s table = go (leb s.at 4)
  where
    go : (b : Bool) → table ≡ at_start (pick b [] (take (2 * rows s.taxa) table)) table
    go true = refl
    go false = sym (put-taken (2 * rows s.taxa) table)

-- So it fits there.
pub table_fits : (s : State) (table : List ℕ) → length (held_table s table) ≤ length table
table_fits s table =
    omega (
      arith,
      ap length (table-first s table),
      length-append (held_table s table) (drop (length (held_table s table)) table),
    )

module _ {s : State} {m : Lent} (h : Held s m) where
  pub parts_held : length (take s.parts m.parts) ≡ s.parts
  parts_held = length-take-le s.parts m.parts h.for_parts

  pub table_held : 4 < s.at → held_table s m.table ≡ take (2 * rows s.taxa) m.table
  table_held l =
      ap (λ (c : Bool). pick c [] (take (2 * rows s.taxa) m.table)) (lt-leb s.at 4 l)

-- ---- which field a state allows
module _ (at parts moves tag : ℕ) (h : allowed at parts moves tag ≡ true) where
  -- Only tag 1 is allowed first, and only tag 2 second.
  pub not_first : (tag ≡ 1 → ⊥) → at ≡ 0 → ⊥
  unfolding allowed_of
  not_first d e = d (eqb-true tag 1 (rw e at h))

  pub not_second : (tag ≡ 2 → ⊥) → at ≡ 4 → ⊥
  unfolding allowed_of
  not_second d e = d (eqb-true tag 2 (rw e at h))

-- ---- a move: its checks with that of the room, in one list
abbrev with_lines : ℕ → Known → Said (List ℕ) → Outcome
with_lines at k x = after at x (λ ls. gives (next k ls))

outcome_of : {A : Type 0} (cs : List Check) (a : A) (f : A → Outcome) (k : Known) (ls : List ℕ)
    (at : ℕ)
    (m : Lent) → f a ≡ gives (next k ls) → length k.table ≤ length m.table
    → length k.parts ≤ length m.parts
    → fitting at m (after at (judged cs a) f)
    ≡ with_lines at k (judged (cs ++ room_checks (0 + length ls) (length m.out)) ls)
unfolding judged
outcome_of [] a f k ls at m e lt lp =
    ap (fitting at m) e
    ∙ ap₂ (λ (b c : Bool). pick (b && c && leb (length ls) (length m.out)) (gives (next k ls))
    (refuses_at Refusal.Room at))
    (le-leb (length k.table) (length m.table) lt)
    (le-leb (length k.parts) (length m.parts) lp)
    ∙ last (leb (length ls) (length m.out))
    ∙ ap (λ (z : ℕ). with_lines at k (judged ((leb z (length m.out) else Refusal.Room) ∷ []) ls))
    (sym (zero-add (length ls)))
  where
    last : (b : Bool) → pick b (gives (next k ls)) (refuses_at Refusal.Room at)
        ≡ with_lines at k (judged ((b else Refusal.Room) ∷ []) ls)
    last true = refl
    last false = refl
outcome_of ((true else r) ∷ cs) a f k ls at m e lt lp = outcome_of cs a f k ls at m e lt lp
outcome_of ((false else r) ∷ cs) a f k ls at m e lt lp = refl

-- What a step over a move gives.
abbrev MoveGives : List ℕ → State → Lent → Result Next Refusal → Lent → Type 0
MoveGives job s m r m' = GivesFrom s.at (fitting s.at m (move_step job (known_of s m))) r m m'

-- The outcome by the checks of the field and by the table, which is held.
by_checks : State → Lent → Said Move → List ℕ → Outcome
by_checks s m x u =
    fitting s.at m
    (after s.at x
    (λ a. gives (next (record {
      at = s.at + 7;
      taxa = s.taxa;
      table = moved s.taxa u a;
      parts = take s.parts m.parts;
      moves = s.moves + 1;
    })
    (lines_of s.taxa u (take s.parts m.parts) a (s.moves + 1)))))

-- The move a is read from the field of a state that passes its checks, past the table's field,
-- with a table of d bytes.
pub record MoveRead (job : List ℕ) (s : State) (table parts out : List ℕ) (d : ℕ) (a : Move)
    : Type 0 where
  pub held : Held s (lending table parts out)
  pub past : 4 < s.at
  pub framed : Framed job s.at 4
  pub long : d ≡ 2 * rows s.taxa
  pub is : a ≡ move_in (content_at job s.at 4)

module _ {job : List ℕ} {s : State} {table parts out : List ℕ} {d : ℕ} {a : Move}
    (R : MoveRead job s table parts out d a) where
  abbrev m : Lent
  m = lending table parts out

  abbrev l : ℕ
  l = 2 * rows s.taxa

  abbrev t : List ℕ
  t = take l table

  abbrev ys : List ℕ
  ys = take s.parts parts

  abbrev mv : Move
  mv = move_in (content_at job s.at 4)

  table-there : l ≤ length table
  table-there = R.held.for_table R.past

  table-length : length t ≡ l
  table-length = length-take-le l table table-there

  abbrev checks : List ℕ → List Check
  checks u = tree_checks s.taxa u ++ partitions_checks s.taxa ys ++ move_checks s.taxa u mv

  abbrev ls : List ℕ
  ls = lines_of s.taxa t ys mv (s.moves + 1)

  abbrev said : Said (List ℕ)
  said = lines_said s.taxa t ys mv (s.moves + 1) (length out) 0

  -- What is known after the move, the table being held.
  abbrev k' : Known
  k' = record {
    at = s.at + 7;
    taxa = s.taxa;
    table = moved s.taxa t mv;
    parts = ys;
    moves =
        s.moves + 1;
  }

  moved-fits : length k'.table ≤ length table
  moved-fits = omega (arith, moved_length s.taxa t mv, table-length, table-there)

  same : fitting s.at m (move_step job (known_of s m)) ≡ with_lines s.at k' said
  unfolding by_checks
  same =
      ap (λ (x : Said Move). by_checks s m x (known_of s m).table)
      (judged-next (length_right job s.at 4) Refusal.Field _ mv R.framed.right)
      ∙ ap (λ (u : List ℕ). by_checks s m (judged (checks u) mv) u) (table_held R.held R.past)
      ∙ outcome_of (checks t) mv _ k' ls s.at m refl moved-fits
      (omega (arith, parts_held R.held, R.held.for_parts))

  -- The state after the move.
  abbrev s' : State
  s' = record { at = s.at + 7; taxa = s.taxa; parts = s.parts; moves = s.moves + 1 }

  move-refused : (r : Refusal) (t' out' : List ℕ)
      → Lists s.taxa ys mv (s.moves + 1) 0 (page t out) (Err r) (page t' out')
      → MoveGives job s m (Err r) (lending (t' ++ drop l table) parts out')
  move-refused r t' out' L =
      let w = call-refused L in
      let q = same ∙ ap (with_lines s.at k') w.0 in
      let there : t' ++ drop l table ≡ table =
      ap (λ (p : Page). p.table ++ drop l table) w.1 ∙ take-append-drop l table in
      let kept : out' ≡ out = ap (λ (p : Page). p.out) w.1 in
      call-is (sym q) (record {
        says = refl;
        memory = ap₂ (λ (x y : List ℕ). lending x parts y)
            there kept;
      })

  move-done : (w : ℕ) (t' out' : List ℕ)
      → Lists s.taxa ys mv (s.moves + 1) 0 (page t out) (Ok w) (page t' out')
      → MoveGives job s m (Ok (record { state = s'; wrote = w }))
      (lending (t' ++ drop l table) parts out')
  move-done w t' out' L =
      let g = call-given L in
      let y = g.0 in
      let q = same ∙ ap (with_lines s.at k') g.1 in
      let v : w ≡ length y = g.2 ∙ zero-add (length y) in
      let there : t' ++ drop l table ≡ at_start k'.table table =
      ap (λ (p : Page). p.table ++ drop l table) g.3
      ∙ ap (λ (z : ℕ). moved s.taxa t mv ++ drop z table)
      (sym (moved_length s.taxa t mv ∙ table-length)) in
      let lines : out' ≡ at_start y out = ap (λ (p : Page). p.out) g.3 ∙ placed_start out y in
      let state : s' ≡ state_of k' =
      ap (λ (i : ℕ). record { at = s.at + 7; taxa = s.taxa; parts = i; moves = s.moves + 1 })
      (sym (parts_held R.held)) in
      call-is (sym q) (record {
        says = ap₂ (λ (x : State) (i : ℕ). gives (told x i)) state v;
        memory = lending_same there (sym (put-taken s.parts parts)) lines;
      })

  -- The same as the code has the table's length and the move.
  pub refused-there : {x : Result ℕ Refusal} {r : Refusal} {t' out' : List ℕ} → x ≡ Err r
      → Lists s.taxa ys a (s.moves + 1) 0 (page (take d table) out) x (page t' out')
      → MoveGives job s m (Err r) (lending (t' ++ drop d table) parts out')
  refused-there {x} {r} {t'} {out'} x-is L =
      rw R.long (move-refused r t' out' (rw (R.long, R.is, x-is) at L))

  pub done-there : {x : Result ℕ Refusal} {w : ℕ} {t' out' : List ℕ} → x ≡ Ok w
      → Lists s.taxa ys a (s.moves + 1) 0 (page (take d table) out) x (page t' out')
      → MoveGives job s m (Ok (record { state = s'; wrote = w }))
      (lending (t' ++ drop d table) parts out')
  done-there {x} {w} {t'} {out'} x-is L =
      rw R.long (move-done w t' out' (rw (R.long, R.is, x-is) at L))
