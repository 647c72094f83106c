-- Any move that passes its checks: what the checks say, kind by kind; the
-- table stays valid and accepted; the distance is the papers' rule.
-- Assumes nothing.
use mathlib.Core.Path.{◌≡◌, refl}
use mathlib.Core.Bool.{Bool, true, false, ◌&&◌, false≢true}
use mathlib.Core.List.{List, [], ◌∷◌}
use Prim.Native.Nat.{ℕ, ◌*◌, ◌-◌, ◌^◌, ◌≤◌, ◌<◌}
use native.Mathlib.Omega.{arith}
use lib.Dec.{eqb, leb}
use borrow.Author.Tests.{eqb-true, eqb-false, leb-true, not-true}
use Rattle.taxa.specs.Sets.{pick}
use Rattle.taxa.proofs.Bools.{and_left, and_right}
use Rattle.tree.specs.Tree.{lo, hi, rows, touches, Valid}
use Rattle.tree.specs.Splits.{dist}
use Rattle.calls.specs.Calls.{Pass}
use Rattle.tree.specs.Refusals.{each, Accepted}
use Rattle.tree.proofs.RefusalLaws.{valid_accepted}
use Rattle.moves.specs.Moves.{Move, nni, nni_fits, end_with, spr, tbr, target, at_both, moved}
use Rattle.moves.specs.Moves.{kind_right, all_rows, rows_right, fits, any_moves, move_checks}
use Rattle.moves.specs.Groups.{nni_rule, spr_rule, tbr_rule, move_rule}
use Rattle.moves.proofs.Nni.Move.{nni-valid, nni-dist}
use Rattle.moves.proofs.Spr.Rule.{spr-valid, spr-dist}
use Rattle.moves.proofs.Tbr.Aims.{Aim}
use Rattle.moves.proofs.Tbr.Rule.{aim-low, aim_high, tbr-valid, tbr-dist}

-- ---- what the checks say, kind by kind
-- an NNI: its rows are rows of the table, and they fit
pub record NniPass (n : ℕ) (t : List ℕ) (m : Move) : Type 0 where
  pub kind-is : m.kind ≡ 1
  pub e_lt : m.first < rows n
  pub x_lt : m.second < rows n
  pub y_lt : m.third < rows n
  pub fit : nni_fits n t m.first m.second m.third ≡ true

-- an SPR: two different rows of the table, and the second does not touch the
-- end that moves
pub record SprPass (n : ℕ) (t : List ℕ) (m : Move) : Type 0 where
  pub kind-is : m.kind ≡ 2
  pub a_lt : m.first < rows n
  pub b_lt : m.second < rows n
  pub ab : m.first ≡ m.second → ⊥
  pub away : touches t m.second (end_with n t m.first m.second) ≡ false

-- a TBR: its rows are rows of the table, each target lies on its side of the
-- row that is cut, and not both touch it
pub record TbrPass (n : ℕ) (t : List ℕ) (m : Move) : Type 0 where
  pub kind-is : m.kind ≡ 3
  pub a_lt : m.first < rows n
  pub b_lt : m.second < rows n
  pub c_lt : m.third < rows n
  pub low : target n t m.first (lo t m.first) m.second ≡ true
  pub high : target n t m.first (hi t m.first) m.third ≡ true
  pub away : at_both t m.second (lo t m.first) m.third (hi t m.first) ≡ false

-- one of the three
pub data Passed (n : ℕ) (t : List ℕ) (m : Move) : Type 0 where
  by_nni : NniPass n t m → Passed n t m
  by_spr : SprPass n t m → Passed n t m
  by_tbr : TbrPass n t m → Passed n t m

-- so say the checks of a move that passes them
pub passed : (n : ℕ) (t : List ℕ) (m : Move) → 4 ≤ n → Pass (move_checks n t m) → Passed n t m
unfolding kind_right rows_right each fits any_moves
passed n t m big w = go (eqb m.kind 1) (eqb m.kind 2) (eqb m.kind 3) refl refl refl w.0
  where
    M : ℕ
    M = 2 * n - 4

    a : ℕ
    a = m.first

    b : ℕ
    b = m.second

    c : ℕ
    c = m.third

    lt : (r : ℕ) → leb r M ≡ true → r < rows n
    lt r h = omega (arith, leb-true r M h)

    -- rows that are all right
    head_lt : (r : ℕ) (rs : List ℕ) → all_rows n (r ∷ rs) ≡ true → r < rows n
    head_lt r rs h = lt r (and_left (leb r M) (all_rows n rs) h)

    rest_lt : (r : ℕ) (rs : List ℕ) → all_rows n (r ∷ rs) ≡ true → all_rows n rs ≡ true
    rest_lt r rs h = and_right (leb r M) (all_rows n rs) h

    one_kind : m.kind ≡ 1 → Passed n t m
    one_kind e =
        let h : all_rows n (a ∷ b ∷ c ∷ []) ≡ true = (rw e at w).1.0 in
        let i = rest_lt a (b ∷ c ∷ []) h in
        by_nni (record {
          kind-is = e;
          e_lt = head_lt a (b ∷ c ∷ []) h;
          x_lt = head_lt b (c ∷ []) i;
          y_lt = head_lt c [] (rest_lt b (c ∷ []) i);
          fit = (rw e at w).1.1.0;
        })

    two-kind : m.kind ≡ 2 → Passed n t m
    two-kind e =
        let h : all_rows n (a ∷ b ∷ []) ≡ true = (rw e at w).1.0 in
        by_spr (record {
          kind-is = e;
          a_lt = head_lt a (b ∷ []) h;
          b_lt = head_lt b [] (rest_lt a (b ∷ []) h);
          ab = eqb-false a b (not-true (eqb a b) (rw e at w).1.1.0);
          away = not-true (touches t b (end_with n t a b)) (rw e at w).1.1.1.0;
        })

    three-kind : m.kind ≡ 3 → Passed n t m
    three-kind e =
        let h : all_rows n (a ∷ b ∷ c ∷ []) ≡ true = (rw e at w).1.0 in
        let i = rest_lt a (b ∷ c ∷ []) h in
        let f : (target n t a (lo t a) b && target n t a (hi t a) c) ≡ true = (rw e at w).1.1.0 in
        by_tbr (record {
          kind-is = e;
          a_lt = head_lt a (b ∷ c ∷ []) h;
          b_lt = head_lt b (c ∷ []) i;
          c_lt = head_lt c [] (rest_lt b (c ∷ []) i);
          low = and_left (target n t a (lo t a) b) (target n t a (hi t a) c) f;
          high = and_right (target n t a (lo t a) b) (target n t a (hi t a) c) f;
          away = not-true (at_both t b (lo t a) c (hi t a)) (rw e at w).1.1.1.0;
        })

    go : (x y z : Bool) → eqb m.kind 1 ≡ x → eqb m.kind 2 ≡ y → eqb m.kind 3 ≡ z
        → pick x true (pick y (eqb c 0) (pick z true false)) ≡ true → Passed n t m
    go true y z e f g h = one_kind (eqb-true m.kind 1 e)
    go false true z e f g h = two-kind (eqb-true m.kind 2 f)
    go false false true e f g h = three-kind (eqb-true m.kind 3 g)
    go false false false e f g h = absurd (false≢true h)

-- ---- the two sides of a TBR that passes
module _ {n : ℕ} {t : List ℕ} {m : Move} (vt : Valid n t) (k : TbrPass n t m) where
  pub low-aim : Aim n t m.first (lo t m.first) m.second
  low-aim =
      aim-low m.first m.second m.third vt k.a_lt k.b_lt k.c_lt k.low k.high

  pub high_aim : Aim n t m.first (hi t m.first) m.third
  high_aim =
      aim_high m.first m.second m.third vt k.a_lt k.b_lt k.c_lt k.low k.high

-- ---- the table and the papers' distance, by the kind
module _ (n : ℕ) (t : List ℕ) (m : Move) where
  pub moved-nni : m.kind ≡ 1 → moved n t m ≡ nni t m.first m.second m.third
  unfolding moved
  moved-nni e = rw e

  pub moved-spr : m.kind ≡ 2 → moved n t m ≡ spr n t m.first m.second
  unfolding moved
  moved-spr e = rw e

  pub moved-tbr : m.kind ≡ 3 → moved n t m ≡ tbr n t m.first m.second m.third
  unfolding moved
  moved-tbr e = rw e

  pub rule-nni : (Y : ℕ) → m.kind ≡ 1 → move_rule n t m Y ≡ nni_rule n t m.first Y
  unfolding move_rule
  rule-nni Y e = rw e

  pub rule-spr : (Y : ℕ) → m.kind ≡ 2 → move_rule n t m Y ≡ spr_rule n t m.first m.second Y
  unfolding move_rule
  rule-spr Y e = rw e

  pub rule-tbr : (Y : ℕ)
      → m.kind ≡ 3
      → move_rule n t m Y ≡ tbr_rule n t m.first m.second m.third Y
  unfolding move_rule
  rule-tbr Y e = rw e

-- ---- the table stays valid
pub moved-valid : {n : ℕ} {t : List ℕ} (m : Move)
    → Valid n t
    → Pass (move_checks n t m)
    → Valid n (moved n t m)
moved-valid {n} {t} m vt w = go (passed n t m vt.big w)
  where
    go : Passed n t m → Valid n (moved n t m)
    go (by_nni k) =
        rw (moved-nni n t m k.kind-is)
        (nni-valid m.first m.second m.third vt k.e_lt k.x_lt k.y_lt k.fit)
    go (by_spr k) =
        rw (moved-spr n t m k.kind-is)
        (spr-valid m.first m.second vt k.a_lt k.b_lt k.ab k.away)
    go (by_tbr k) =
        rw (moved-tbr n t m k.kind-is)
        (tbr-valid m.first m.second m.third vt k.a_lt k.b_lt k.c_lt k.low
        k.high)

-- so what no check of a tree refused none refuses afterwards
pub moved_accepted : (n : ℕ) (t : List ℕ) (m : Move)
    → Accepted n t
    → Pass (move_checks n t m)
    → Accepted n (moved n t m)
moved_accepted n t m a w = valid_accepted a.few (moved-valid m a.valid w)

-- ---- the distance over any set of taxa is the papers' rule
pub moved-dist : (n : ℕ) (t : List ℕ) (m : Move)
    → Valid n t
    → Pass (move_checks n t m)
    → (Y : ℕ) → Y < 2 ^ n
    → dist n t (moved n t m) Y ≡ move_rule n t m Y
moved-dist n t m vt w Y bound = go (passed n t m vt.big w)
  where
    go : Passed n t m → dist n t (moved n t m) Y ≡ move_rule n t m Y
    go (by_nni k) =
        rw (moved-nni n t m k.kind-is, rule-nni n t m Y k.kind-is)
        (nni-dist m.first m.second m.third vt k.e_lt k.x_lt k.y_lt
        k.fit Y bound)
    go (by_spr k) =
        rw (moved-spr n t m k.kind-is, rule-spr n t m Y k.kind-is)
        (spr-dist m.first m.second vt k.a_lt k.b_lt k.ab k.away Y bound)
    go (by_tbr k) =
        rw (moved-tbr n t m k.kind-is, rule-tbr n t m Y k.kind-is)
        (tbr-dist m.first m.second m.third vt k.a_lt k.b_lt k.c_lt k.low
        k.high Y bound)
