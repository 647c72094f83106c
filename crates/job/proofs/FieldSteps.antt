-- The step over the next field, by its tag and at a job's end: what the code
-- gives is the outcome. Assumes nothing.
use mathlib.Core.Path.{◌≡◌, refl, sym, ap, ap₂, ◌∙◌}
use mathlib.Core.Bool.{Bool, true, false, ◌&&◌, ◌||◌}
use mathlib.Core.List.{List, [], ◌∷◌, ◌++◌}
use Prim.Native.Nat.{ℕ, ◌+◌, ◌≤◌, ◌<◌}
use native.Mathlib.Omega.{arith}
use lib.Dec.{eqb, leb}
use lib.ListN.{length, take}
use borrow.Author.Tests.{le-leb, lt-leb}
use Rattle.taxa.specs.Sets.{pick}
use Rattle.calls.specs.Calls.{Said, gives, refuses, judged, refuses_at, tells, ◌else◌, Call}
use Rattle.std.specs.Prelude.{Result, Err}
use Rattle.calls.specs.declared.Refusal.{Refusal}
use Rattle.calls.proofs.CallLaws.{call-is, call-refuses_at}
use Rattle.calls.proofs.CheckLaws.{judged-next, judged_fail}
use Rattle.fields.specs.Fields.{tag_at, allowed}
use Rattle.job_steps.specs.Job.{Known, Outcome, next, over, after, seen_so_far, end_step, tag_step}
use Rattle.job_steps.specs.Job.{field, tagged_step, taxa_field, table_field, partition_field, taxa_step}
use Rattle.job_steps.specs.Job.{put_step, table_step, partition_step, move_step, with_taxa}
use Rattle.job_steps.specs.Job.{with_partition, field_of, tagged_step_of}
use Rattle.job_steps.specs.Steps.{Lent, lending, held_table, known_of, fitting, Told, told_of, lent_by}
use Rattle.job_steps.specs.Between.{Held}
use Rattle.job_steps.specs.Steps.{says_from, GivesFrom, parts_lent, table_lent}
use Rattle.job_steps.specs.declared.State.{State}
use Rattle.job_steps.specs.declared.Next.{Next}
use Rattle.job_steps.proofs.StepLaws.{lending_same, parts_held, table-first, table_fits}
use Rattle.job_steps.proofs.StepLaws.{not_first, not_second}

-- ---- what a state holds where a tag is allowed
module _ {s : State} {m : Lent} (h : Held s m) {tag : ℕ}
    (a : allowed s.at s.parts s.moves tag ≡ true) (one : tag ≡ 1 → ⊥) where
  -- After n there are taxa enough.
  pub taxa_there : 4 ≤ s.taxa
  taxa_there = h.taxa-big (not_first _ _ _ _ a one)

  -- After the table the offset is past its field.
  pub table_there : (tag ≡ 2 → ⊥) → 4 < s.at
  table_there two =
      let past = not_second _ _ _ _ a two in
      let far = h.offset (not_first _ _ _ _ a one) in
      grind arith

-- ---- the step that a tag takes
abbrev tagged : List ℕ → State → Lent → Outcome
tagged job s m = fitting s.at m (tagged_step job (known_of s m) (tag_at job s.at))

-- ---- n
module _ (job : List ℕ) (s : State) (r : Result Next Refusal) (m : Lent) where
  -- What gives no table, no partitions and no lines fits.
  plain : (n : ℕ) → fitting s.at m (gives (next (with_taxa s.at n) []))
      ≡ gives (next (with_taxa s.at n) [])
  plain n =
      rw (
        le-leb 0 (length m.table) (omega arith),
        le-leb 0 (length m.parts) (omega arith),
        le-leb 0 (length m.out) (omega arith),
      )

  pub taxa-gives : tag_at job s.at ≡ 1 → says_from s.at r ≡ tells told_of (taxa_step job s.at)
      → GivesFrom s.at (tagged job s m) r m m
  unfolding tagged_step_of
  taxa-gives e h = rw e (go (taxa_field job s.at) h)
    where
      go : (x : Said ℕ) → says_from s.at r
          ≡ tells told_of (after s.at x (λ n. gives (next (with_taxa s.at n) [])))
          → GivesFrom s.at (fitting s.at m
          (after s.at x (λ n. gives (next (with_taxa s.at n) [])))) r m m
      go (gives n) w = call-is (sym (plain n)) (record { says = w; memory = refl })
      go (refuses j) w = record { says = w; memory = refl }
      go (refuses_at j q) w = record { says = w; memory = refl }

-- ---- the table

-- A step that was lent memory for the table alone is the step with all that is
-- lent.
module _
    (job : List ℕ) (s : State) (r : Result Next Refusal)
    (table table' parts out : List ℕ)
  where
    abbrev at : ℕ
    at = s.at

    abbrev n : ℕ
    n = s.taxa

    -- the outcome of a table u that fits where b says so
    abbrev table_so : Bool → List ℕ → Outcome
    table_so b u = pick (b && true && true) (put_step at n u) (refuses_at Refusal.Room at)

    so_table : (ps os u : List ℕ)
        → fitting at (lending table ps os) (put_step at n u)
        ≡ table_so (leb (length u) (length table)) u
    so_table ps os u =
        ap₂ (λ (a b : Bool). pick (leb (length u) (length table) && a && b) (put_step at n u)
        (refuses_at Refusal.Room at))
        (le-leb 0 (length ps) (omega arith)) (le-leb 0 (length os) (omega arith))

    kept_there : table_lent table' ≡ table_lent table
        → lending table' parts out ≡ lending table parts out
    kept_there e = ap (λ (x : Lent). lending x.table parts out) e

    table-wide : (b : Bool) (u : List ℕ)
        → GivesFrom s.at (table_so b u) r (table_lent table) (table_lent table')
        → GivesFrom s.at (table_so b u) r (lending table parts out) (lending table' parts out)
    table-wide true u g =
        record {
          says = g.says;
          memory = ap (λ (x : Lent). lending x.table parts out) g.memory;
        }
    table-wide false u g = record { says = g.says; memory = kept_there g.memory }

    pub table-gives : tag_at job s.at ≡ 2
        → GivesFrom s.at (fitting s.at (table_lent table) (table_step job s.at s.taxa)) r
        (table_lent table) (table_lent table')
        → GivesFrom s.at (tagged job s (lending table parts out)) r (lending table parts out)
        (lending table' parts out)
    unfolding tagged_step_of
    table-gives e h = rw e (go (table_field job at n) h)
      where
        go : (x : Said (List ℕ))
            → GivesFrom s.at (fitting at (table_lent table) (after at x (put_step at n))) r
            (table_lent table) (table_lent table')
            → GivesFrom s.at (fitting at (lending table parts out) (after at x (put_step at n))) r
            (lending table parts out) (lending table' parts out)
        go (gives u) g =
            call-is (sym (so_table parts out u))
            (table-wide (leb (length u) (length table)) u (call-is (so_table [] [] u) g))
        go (refuses j) g = record { says = g.says; memory = kept_there g.memory }
        go (refuses_at j q) g = record { says = g.says; memory = kept_there g.memory }

-- ---- a partition

-- A step that was lent memory for the partitions alone is the step with all
-- that is lent.
module _
    (job : List ℕ) (s : State) (r : Result Next Refusal)
    (table parts parts' out : List ℕ)
  where
    -- what is known after a partition y, with the table u
    abbrev with_y : List ℕ → ℕ → Known
    with_y u y =
        record {
          at = s.at + 11;
          taxa = s.taxa;
          table = u;
          parts = take s.parts parts ++ y
              ∷ [];
          moves = s.moves;
        }

    -- the outcome of a partition y that fits where b says so, with the table u
    abbrev part_so : Bool → List ℕ → ℕ → Outcome
    part_so b u y = pick (true && b && true) (gives (next (with_y u y) []))
        (refuses_at Refusal.Room s.at)

    so_part : (ts os : List ℕ) (y : ℕ)
        → fitting s.at (lending ts parts os) (gives (next (with_y (held_table s ts) y) []))
        ≡ part_so (leb (length (take s.parts parts ++ y ∷ [])) (length parts)) (held_table s ts) y
    so_part ts os y =
        let b = leb (length (take s.parts parts ++ y ∷ [])) (length parts) in
        ap₂ (λ (a c : Bool). pick (a && b && c) (gives (next (with_y (held_table s ts) y) []))
        (refuses_at Refusal.Room s.at))
        (le-leb (length (held_table s ts)) (length ts) (table_fits s ts))
        (le-leb 0 (length os) (omega arith))

    part-wide : (b : Bool) (y : ℕ)
        → GivesFrom s.at (part_so b (held_table s []) y) r (parts_lent parts) (parts_lent parts')
        → GivesFrom s.at (part_so b (held_table s table) y) r (lending table parts out)
        (lending table parts' out)
    part-wide true y g =
        record {
          says = g.says;
          memory = lending_same (table-first s table)
              (ap (λ (x : Lent). x.parts) g.memory) refl;
        }
    part-wide false y g =
        record {
          says = g.says;
          memory = ap (λ (x : Lent). lending table x.parts out) g.memory;
        }

    pub partition_gives : tag_at job s.at ≡ 3
        → GivesFrom s.at
        (fitting s.at (parts_lent parts) (partition_step job (known_of s (parts_lent parts))))
        r (parts_lent parts) (parts_lent parts')
        → GivesFrom s.at (tagged job s (lending table parts out)) r (lending table parts out)
        (lending table parts' out)
    unfolding tagged_step_of
    partition_gives e h = rw e (go (partition_field job s.at s.taxa) h)
      where
        by : (ts os : List ℕ) → Said ℕ → Outcome
        by ts os x =
            fitting s.at (lending ts parts os)
            (after s.at x (λ y. gives
            (next (with_partition (known_of s (lending ts parts os)) y) [])))

        go : (x : Said ℕ) → GivesFrom s.at (by [] [] x) r (parts_lent parts) (parts_lent parts')
            → GivesFrom s.at (by table out x) r (lending table parts out) (lending table parts' out)
        go (gives y) g =
            call-is (sym (so_part table out y))
            (part-wide (leb (length (take s.parts parts ++ y ∷ [])) (length parts)) y
            (call-is (so_part [] [] y) g))
        go (refuses j) g =
            record {
              says = g.says;
              memory = ap (λ (x : Lent). lending table x.parts out)
                  g.memory;
            }
        go (refuses_at j q) g =
            record {
              says = g.says;
              memory = ap (λ (x : Lent). lending table x.parts out)
                  g.memory;
            }

-- ---- a move
pub move_gives : (job : List ℕ) (s : State) (r : Result Next Refusal) {m m' : Lent}
    → tag_at job s.at ≡ 4
    → GivesFrom s.at (fitting s.at m (move_step job (known_of s m))) r m m'
    → GivesFrom s.at (tagged job s m) r m m'
unfolding tagged_step_of
move_gives job s r e g = rw e g

-- ---- the end of a job, 16 before a field, and a tag that is not allowed
-- The outcome of a step over the next field.
abbrev o : List ℕ → State → Lent → Outcome
o job s m = fitting s.at m (field job (known_of s m))

-- What the end of a job gives is told, and leaves the memory.
pub end_gives : (job : List ℕ) (s : State) {m : Lent} → length job ≤ s.at → {x : Said Told}
    → x ≡ tells told_of (end_step (length job) (known_of s m))
    → Call (tells told_of) lent_by (o job s m) m x m
unfolding field_of
end_gives job s {m} a {x} e =
    call-is (ap (λ (b : Bool). fitting s.at m
    (pick b (end_step (length job) k) (tag_step job k (tag_at job s.at))))
    (sym (le-leb (length job) s.at a)))
    (go (judged ((leb 1 (length k.parts) else Refusal.Field)
    ∷ (seen_so_far k else Refusal.Unseen) ∷ []) (tt {0})) e)
  where
    k : Known
    k = known_of s m

    go : (y : Said (Unit {0})) → x ≡ tells told_of (after (length job) y (λ u. gives over))
        → Call (tells told_of) lent_by (fitting s.at m (after (length job) y (λ u. gives over)))
        m x m
    go (gives u) w = record { says = w; memory = refl }
    go (refuses j) w = record { says = w; memory = refl }
    go (refuses_at j q) w = record { says = w; memory = refl }

-- A state that passes its checks stands at a field.
pub record AtField (job : List ℕ) (s : State) (m : Lent) : Type 0 where
  pub held : Held s m
  pub inside : s.at < length job

module _ {job : List ℕ} {s : State} {m : Lent} (F : AtField job s m) where
  abbrev k : Known
  k = known_of s m

  abbrev tag : ℕ
  tag = tag_at job s.at

  -- The checks before a field: 16, and whether its tag is allowed.
  abbrev ok : Bool
  ok = allowed s.at (length k.parts) s.moves tag

  abbrev by : Said (Unit {0}) → Outcome
  by x = fitting s.at m (after s.at x (λ u. tagged_step job k tag))

  at_field : o job s m ≡ by (judged
      (((eqb tag 3 || seen_so_far k) else Refusal.Unseen) ∷ (ok else Refusal.Field) ∷ []) tt)
  unfolding field_of
  at_field = ap (λ (b : Bool). fitting s.at m
      (pick b (end_step (length job) k) (tag_step job k tag)))
      (lt-leb (length job) s.at F.inside)

  pub tag_16 : (eqb tag 3 || seen_so_far (known_of s m)) ≡ false
      → GivesFrom s.at (o job s m) (Err Refusal.Unseen) m m
  tag_16 e = call-refuses_at Refusal.Unseen s.at (at_field ∙ ap by
      (judged_fail (eqb tag 3 || seen_so_far k) Refusal.Unseen ((ok else Refusal.Field) ∷ []) tt e))

  module _ (e : (eqb tag 3 || seen_so_far (known_of s m)) ≡ true) where
    past_16 : o job s m ≡ by (judged ((ok else Refusal.Field) ∷ []) tt)
    past_16 = at_field ∙ ap by
        (judged-next (eqb tag 3 || seen_so_far k) Refusal.Unseen ((ok else Refusal.Field) ∷ []) tt e)

    held : ok ≡ allowed s.at s.parts s.moves tag
    held = ap (λ (c : ℕ). allowed s.at c s.moves tag) (parts_held F.held)

    pub tag_12 : allowed s.at s.parts s.moves tag ≡ false
        → GivesFrom s.at (o job s m) (Err Refusal.Field) m m
    tag_12 w = call-refuses_at Refusal.Field s.at
        (past_16 ∙ ap by (judged_fail ok Refusal.Field [] tt (held ∙ w)))

    pub tag_next : allowed s.at s.parts s.moves tag ≡ true
        → fitting s.at m (tagged_step job k tag) ≡ o job s m
    unfolding judged
    tag_next w = sym (past_16 ∙ ap by (judged-next ok Refusal.Field [] tt (held ∙ w)))
