-- In a job and with room for any job, a step is the step over one field, and
-- leaves memory of the same kind. Assumes nothing.
use mathlib.Core.Path.{◌≡◌, refl, sym, ap, ap₂, ◌∙◌}
use mathlib.Core.Bool.{Bool, true, ◌||◌}
use mathlib.Core.List.{List, [], ◌++◌}
use Prim.Native.Nat.{ℕ, ◌*◌, ◌≤◌}
use native.Mathlib.Omega.{arith}
use lib.Dec.{eqb, leb}
use lib.ListN.{length, take, drop, length-append, length-drop}
use lib.Seq.{take_at, take-append_seam}
use borrow.Author.Tests.{lt-leb, le-leb, eq-eqb}
use Rattle.taxa.specs.Most.{most}
use Rattle.taxa.specs.Sets.{pick}
use Rattle.taxa.proofs.Bools.{and_both, or_left, or_right}
use Rattle.tree.specs.Tree.{rows}
use Rattle.calls.specs.Calls.{Pass, at_start, gives, refuses_at, refuses}
use Rattle.calls.proofs.CheckLaws.{judged-all}
use Rattle.job_steps.specs.Job.{Known, Outcome, next, over, field, longest}
use Rattle.job_steps.specs.Steps.{Lent, lending, known_of, state_checks, fitting, stepped}
use Rattle.job_steps.specs.Steps.{lent_by}
use Rattle.job_steps.specs.Steps.{state_of}
use Rattle.job_steps.specs.Runs.{Roomy}
use Rattle.job_steps.specs.Sound.{Stage, from_start, at_table, past-table, Sound}
use Rattle.job_steps.proofs.StateLaws.{step_next}
use Rattle.job_steps.proofs.SoundLaws.{sound_next, lines_few}

-- There are no more taxa than the most.
taxa-few : {k : Known} → Stage k → k.taxa ≤ most
taxa-few (from_start e) = let z = ap (λ (x : Known). x.taxa) e in omega arith
taxa-few (at_table e big few t p m) = few
taxa-few (past-table l t p) = t.few

-- After n there are taxa enough.
taxa-right : {k : Known} → Stage k → (eqb k.at 0 || leb 4 k.taxa) ≡ true
taxa-right {k} (from_start e) =
    or_left (eqb k.at 0) (leb 4 k.taxa) (eq-eqb k.at 0 (ap (λ (x : Known). x.at) e))
taxa-right {k} (at_table e big few t p m) =
    or_right (eqb k.at 0) (leb 4 k.taxa) (le-leb 4 k.taxa big)
taxa-right {k} (past-table l t p) =
    or_right (eqb k.at 0) (leb 4 k.taxa) (le-leb 4 k.taxa t.valid.big)

-- The offset is 0 or past the first field.
offset-right : {k : Known} → Stage k → (eqb k.at 0 || leb 4 k.at) ≡ true
offset-right {k} (from_start e) =
    or_left (eqb k.at 0) (leb 4 k.at) (eq-eqb k.at 0 (ap (λ (x : Known). x.at) e))
offset-right {k} (at_table e big few t p m) =
    or_right (eqb k.at 0) (leb 4 k.at) (le-leb 4 k.at (omega (arith, e)))
offset-right {k} (past-table l t p) =
    or_right (eqb k.at 0) (leb 4 k.at) (le-leb 4 k.at (omega (arith, l)))

-- No table is longer than one of the most taxa.
table-few : {k : Known} → Stage k → length k.table ≤ 2 * rows most
table-few (from_start e) = let z = ap (λ (x : Known). length x.table) e in omega arith
table-few (at_table e big few t p m) = let z = ap length t in omega arith
table-few (past-table l t p) = omega (arith, t.few, t.valid.len)

-- What a field gives fits the memory.
abbrev Fits : Lent → Known → List ℕ → Type 0
Fits m k ls =
    (length k.table ≤ length m.table) × (length k.parts ≤ length m.parts)
    × (length ls ≤ length m.out)

-- What fits is not refused.
fitting_same : (at : ℕ) (m : Lent) (o : Outcome)
    → ((k : Known) (ls : List ℕ) → o ≡ gives (next k ls) → Fits m k ls) → fitting at m o ≡ o
fitting_same at m (gives (next k ls)) h =
    let f = h k ls refl in
    rw (
      le-leb (length k.table) (length m.table) f.0,
      le-leb (length k.parts) (length m.parts) f.1,
      le-leb (length ls) (length m.out) f.2,
    )
fitting_same at m (gives over) h = refl
fitting_same at m (refuses r) h = refl
fitting_same at m (refuses_at r p) h = refl

-- Memory that begins with the table holds it.
table_kept : {k : Known} (xs : List ℕ) → Stage k
    → pick (leb k.at 4) [] (take (2 * rows k.taxa) (k.table ++ xs)) ≡ k.table
table_kept xs (from_start e) =
    ap (λ (x : Known). pick (leb x.at 4) [] (take (2 * rows x.taxa) (x.table ++ xs))) e
    ∙ sym (ap (λ (x : Known). x.table) e)
table_kept {k} xs (at_table e big few t p m) =
    ap (λ (b : Bool). pick b [] (take (2 * rows k.taxa) (k.table ++ xs)))
    (le-leb k.at 4 (omega arith)) ∙ sym t
table_kept {k} xs (past-table l t p) =
    ap (λ (b : Bool). pick b [] (take (2 * rows k.taxa) (k.table ++ xs))) (lt-leb k.at 4 l)
    ∙ take_at k.table xs (2 * rows k.taxa) t.valid.len

-- Memory that begins with the table and the partitions of what is known holds
-- what is known.
known_kept : {k : Known} (xs ys out : List ℕ) → Stage k
    → known_of (state_of k) (lending (k.table ++ xs) (k.parts ++ ys) out) ≡ k
known_kept {k} xs ys out s =
    ap₂ (λ (t p : List ℕ). record {
      at = k.at;
      taxa = k.taxa;
      table = t;
      parts = p;
      moves =
          k.moves;
    })
    (table_kept xs s) (take-append_seam k.parts ys)

-- A list put first that fits leaves the length.
put-length : (l m : List ℕ) → length l ≤ length m → length (at_start l m) ≡ length m
put-length l m h = omega (arith, length-append l (drop (length l) m), length-drop (length l) m)

module _ (job : List ℕ) (short : length job ≤ longest) where
  module _ {k : Known} (s : Sound job k) {m : Lent} (roomy : Roomy m) where
    -- A job has fewer moves than bytes.
    moves-few : k.moves ≤ longest
    moves-few = omega (arith, s.few-moves, s.within, short)

    -- No check of the state refuses it.
    state-right : Pass (state_checks (state_of k) m)
    state-right =
        let few = taxa-few s.stage in
        let n = k.taxa in
        let table = leb (2 * rows n) (length m.table) in (
          and_both (eqb k.at 0 || leb 4 n) (leb n most) (taxa-right s.stage)
              (le-leb n most few),
          (
            and_both (leb k.at 4 || table) (leb (length k.parts) (length m.parts))
                (or_right (leb k.at 4) table
                (le-leb (2 * rows n) (length m.table) (omega (arith, roomy.for_table))))
                (le-leb (length k.parts) (length m.parts)
                (omega (arith, roomy.for_parts, s.few-parts))),
            (
              and_both (eqb k.at 0 || leb 4 k.at) (leb k.moves longest)
                  (offset-right s.stage) (le-leb k.moves longest moves-few),
              tt,
            ),
          ),
        )

    -- What a field gives fits.
    fits-memory : (k' : Known) (ls : List ℕ) → field job k ≡ gives (next k' ls) → Fits m k' ls
    fits-memory k' ls h =
        let s' = sound_next s k' ls h in (
          omega (arith, table-few s'.stage, roomy.for_table),
          omega (arith, s'.few-parts, roomy.for_parts),
          omega (arith, lines_few s moves-few k' ls h, roomy.for_lines),
        )

    -- A step from the state and the memory that hold what is known is the step
    -- over the field.
    pub step_is_field : known_of (state_of k) m ≡ k → stepped job (state_of k) m ≡ field job k
    step_is_field e =
        sym (step_next {job = job} {s = state_of k} {m = m} (record {
          short = short;
          says = judged-all (state_checks (state_of k) m) (tt {0}) state-right;
        }))
        ∙ ap (λ (x : Known). fitting k.at m (field job x)) e
        ∙ fitting_same k.at m (field job k) fits-memory

    module _ (k' : Known) (ls : List ℕ) (h : field job k ≡ gives (next k' ls)) where
      -- After the step there is room as before.
      pub memory_roomy : Roomy (lent_by (next k' ls) m)
      memory_roomy =
          let f = fits-memory k' ls h in
          record {
            for_table = omega (arith, put-length k'.table m.table f.0, roomy.for_table);
            for_parts = omega (arith, put-length k'.parts m.parts f.1, roomy.for_parts);
            for_lines = omega (arith, put-length ls m.out f.2, roomy.for_lines);
          }

      -- And the memory holds what is known then.
      pub memory_keeps : known_of (state_of k') (lent_by (next k' ls) m) ≡ k'
      memory_keeps =
          known_kept (drop (length k'.table) m.table) (drop (length k'.parts) m.parts)
          (at_start ls m.out) (sound_next s k' ls h).stage
