-- The plan of a move that passes its checks: its ends and targets are right,
-- its rows are those of the move, and its groups give the distance. Assumes
-- nothing.
use mathlib.Core.Path.{◌≡◌, refl, sym, ap, subst, ◌∙◌}
use mathlib.Core.Bool.{Bool, true, false, not, ◌||◌, false≢true, true≢false}
use mathlib.Core.List.{List}
use Prim.Native.Nat.{ℕ, ◌+◌, ◌*◌, ◌-◌, ◌^◌, ◌≤◌, ◌<◌}
use native.Mathlib.Omega.{arith}
use lib.Dec.{eqb}
use lib.Bits.{bit_and}
use borrow.Author.Tests.{le-ltb, ne_eqb, not-false}
use Rattle.std.specs.Prelude.{Some, None, is_some}
use Rattle.std.specs.Bool.{then_some}
use Rattle.std.proofs.lemmas.Option.{none-some}
use Rattle.taxa.specs.Sets.{pick, has, some}
use Rattle.tree.specs.Tree.{lo, hi, rows, touches, far, part, Valid}
use Rattle.tree.specs.Splits.{dist}
use Rattle.tree.proofs.Joins.{lo-touch, hi-touch, touch_joins, joins_touch, joins_flip, far-lo}
use Rattle.tree.proofs.Colourings.{two-sides, valid-table}
use Rattle.moves.specs.Moves.{Move, end_with, move_end, spr, stay_or, tbr, target, moved}
use Rattle.moves.specs.Groups.{groups, stayed, met, rule, nni_rule, spr_rule, tbr_rule, move_rule}
use Rattle.moves.specs.Between.{to_go, to_stay, nni_plan, spr_plan, tbr_plan, plan_of, Planned}
use Rattle.moves.specs.Between.{Aims, SideRight, end_moved, side_moved, plan_moved}
use Rattle.moves.specs.Between.{end_groups, side_groups, by_groups}
use Rattle.moves.specs.declared.Plan.{Plan}
use Rattle.moves.proofs.Ways.GroupLists.{met-append}
use Rattle.moves.proofs.Ways.Covers.{Covers, stayed_covers, stayed-two, side-met, rule_comm}
use Rattle.moves.proofs.Nni.Move.{nni_checked}
use Rattle.moves.proofs.Spr.Rows.{EndFits}
use Rattle.moves.proofs.Spr.Rule.{spr-fits}
use Rattle.moves.proofs.Tbr.Aims.{Aim, side_covers, side-few}
use Rattle.moves.proofs.Tbr.Rule.{at_high}
use Rattle.moves.proofs.AnyMove.Moved.{TbrPass, Passed, by_nni, by_spr, by_tbr, passed}
use Rattle.moves.proofs.AnyMove.Moved.{low-aim, high_aim, moved-nni, moved-spr, moved-tbr}
use Rattle.moves.proofs.AnyMove.Moved.{moved-dist, rule-nni, rule-spr, rule-tbr}

-- ---- the plan, by the kind
module _ (n : ℕ) (t : List ℕ) (m : Move) where
  pub plan-nni : m.kind ≡ 1 → plan_of n t m ≡ nni_plan t m.first m.second m.third
  unfolding plan_of
  plan-nni e = rw e

  pub plan-spr : m.kind ≡ 2 → plan_of n t m ≡ spr_plan n t m.first m.second
  unfolding plan_of
  plan-spr e = rw e

  pub plan-tbr : m.kind ≡ 3 → plan_of n t m ≡ tbr_plan t m.first m.second m.third
  unfolding plan_of
  plan-tbr e = rw e

-- ---- the table after it

-- An end that is put onto its target unless that touches it, in a table where
-- the same rows touch it.
go_or_stay : (n : ℕ) (t u : List ℕ) (v a b : ℕ) → touches u b v ≡ touches t b v
    → side_moved n u a (to_go t v b) ≡ stay_or n u v a b
unfolding stay_or
go_or_stay n t u v a b e =
    ap (λ (c : Bool). end_moved n u a v (then_some (not c) b)) (sym e) ∙ go (touches u b v)
  where
    go : (c : Bool)
        → end_moved n u a v (then_some (not c) b) ≡ pick c u (move_end n u v a b)
    go true = refl
    go false = refl

pub plan-moved : {n : ℕ} {t : List ℕ} {p : Plan}
    → Valid n t
    → (k : Planned n t p) → plan_moved n t p ≡ moved n t k.move
unfolding plan_moved spr tbr
plan-moved {n} {t} {p} vt k = go (passed n t m vt.big k.fits)
  where
    m : Move
    m = k.move

    a : ℕ
    a = m.first

    b : ℕ
    b = m.second

    c : ℕ
    c = m.third

    tbrs : TbrPass n t m
        → side_moved n (side_moved n t a (to_go t (lo t a) b)) a (to_go t (hi t a) c) ≡ tbr n t a b c
    tbrs q =
        ap (λ (u : List ℕ). side_moved n u a (to_go t (hi t a) c))
        (go_or_stay n t t (lo t a) a b refl)
        ∙ go_or_stay n t (stay_or n t (lo t a) a b) (hi t a) a c
        (at_high (low-aim vt q) (high_aim vt q) c)

    by : (q : Plan) → plan_of n t m ≡ q → plan_moved n t p ≡ plan_moved n t q
    by q e = ap (plan_moved n t) (k.is ∙ e)

    go : Passed n t m → plan_moved n t p ≡ moved n t m
    go (by_nni q) =
        by (nni_plan t a b c) (plan-nni n t m q.kind-is) ∙ sym (moved-nni n t m q.kind-is)
    go (by_spr q) =
        by (spr_plan n t a b) (plan-spr n t m q.kind-is)
        ∙ rw q.away (sym (moved-spr n t m q.kind-is))
    go (by_tbr q) =
        by (tbr_plan t a b c) (plan-tbr n t m q.kind-is)
        ∙ tbrs q
        ∙ sym (moved-tbr n t m q.kind-is)

-- ---- its row, ends and targets

-- The two ends of one row; of an NNI both are inner nodes and stay, and what is
-- exchanged are rows.
pub record PlanRight (n : ℕ) (t : List ℕ) (p : Plan) : Type 0 where
  pub row : p.row < rows n
  pub ends : far t p.row p.first.node ≡ p.second.node
  pub first : SideRight n t p.row p.first
  pub second : SideRight n t p.row p.second
  pub inner : is_some p.exchanged ≡ true → (n ≤ p.first.node) × (n ≤ p.second.node)
  pub stay : is_some p.exchanged ≡ true → (p.first.target ≡ None) × (p.second.target ≡ None)
  pub pair : (x y : ℕ) → p.exchanged ≡ Some (x, y) → (x < rows n) × (y < rows n)

-- The end of an SPR lies with its target.
spr-target : {n : ℕ} {t : List ℕ} {p a b : ℕ} → EndFits n t p a b → target n t a p b ≡ true
unfolding target
spr-target {n} {t} {p} {a} {b} k =
    let lo_lt = ((valid-table k.valid).ends b k.b_lt).0 in
    let a_row = touch_joins t a p k.a_p in
    let there = two-sides a p (far t a p) k.valid k.a_lt a_row (lo t b) lo_lt in
    rw (le-ltb p n k.inner, ne_eqb b a k.ba)
    (not-false (has (part n t a p) (lo t b)) (sym there ∙ k.b_out))

pub plan-right : {n : ℕ} {t : List ℕ} {p : Plan} → Valid n t → Planned n t p → PlanRight n t p
plan-right {n} {t} {p} vt k = go (passed n t m vt.big k.fits)
  where
    m : Move
    m = k.move

    a : ℕ
    a = m.first

    to : (q : Plan) → p ≡ q → PlanRight n t q → PlanRight n t p
    to q e r = subst (PlanRight n t) (sym e) r

    -- an end v that stays
    stays : (v : ℕ) → touches t a v ≡ true → SideRight n t a (to_stay v)
    stays v h = record { touch = h; aim = λ b e. absurd (none-some _ e) }

    -- an end v that goes onto row b, unless b touches it
    goes : (v b : ℕ) → touches t a v ≡ true → b < rows n → target n t a v b ≡ true
        → SideRight n t a (to_go t v b)
    goes v b h l f = record { touch = h; aim = to_b (touches t b v) refl }
      where
        to_b : (c : Bool) → touches t b v ≡ c → (d : ℕ) → then_some (not c) b ≡ Some d
            → Aims n t a v d
        to_b true e d w = absurd (none-some _ w)
        to_b false e d w =
            let same : b ≡ d = cc in
            subst (Aims n t a v) same (record { row = l; fits = f; apart = e })

    go : Passed n t m → PlanRight n t p
    go (by_nni q) =
        let w = nni_checked n t a m.second m.third q.fit in
        to (nni_plan t a m.second m.third) (k.is ∙ plan-nni n t m q.kind-is)
        (record {
          row = q.e_lt;
          ends = far-lo a vt q.e_lt;
          first = stays (lo t a) (lo-touch t a);
          second = stays (hi t a) (hi-touch t a);
          inner = λ h. (w.lo-inner, w.hi-inner);
          stay = λ h. (refl, refl);
          pair = λ x y e.
              let same : ◌≡◌ {A = ℕ × ℕ} (m.second, m.third) (x, y) = cc in
              subst (λ (w : ℕ × ℕ). (w.0 < rows n) × (w.1 < rows n)) same (q.x_lt, q.y_lt);
        })
    go (by_spr q) =
        let e = end_with n t a m.second in
        let f = spr-fits a m.second vt q.a_lt q.b_lt q.ab q.away in
        let j = touch_joins t a e f.a_p in
        let other = joins_touch t a (far t a e) e (joins_flip t a e (far t a e) j) in
        to (spr_plan n t a m.second) (k.is ∙ plan-spr n t m q.kind-is)
        (record {
          row = q.a_lt;
          ends = refl;
          first = goes e m.second f.a_p q.b_lt (spr-target f);
          second = stays (far t a e) other;
          inner = λ h. absurd (false≢true h);
          stay = λ h. absurd (false≢true h);
          pair = λ x y h. absurd (none-some _ h);
        })
    go (by_tbr q) =
        to (tbr_plan t a m.second m.third) (k.is ∙ plan-tbr n t m q.kind-is)
        (record {
          row = q.a_lt;
          ends = far-lo a vt q.a_lt;
          first = goes (lo t a) m.second (lo-touch t a) q.b_lt q.low;
          second = goes (hi t a) m.third (hi-touch t a) q.c_lt q.high;
          inner = λ h. absurd (false≢true h);
          stay = λ h. absurd (false≢true h);
          pair = λ x y h. absurd (none-some _ h);
        })

-- ---- the distance from its groups

-- Two ways to list a side in two groups at most are the same to the rule.
rule_same : (k k' j : ℕ) → k ≤ 2 → k' ≤ 2 → eqb k 0 ≡ eqb k' 0 → rule k j ≡ rule k' j
unfolding rule
rule_same k k' j a b e =
    ap (λ (x : Bool). pick (x || eqb j 0) 0 (2 * (k - 2 + (j - 2)))) e
    ∙ ap (λ (i : ℕ). pick (eqb k' 0 || eqb j 0) 0 (2 * (i + (j - 2)))) (omega arith)

-- An end whose target touches it: its groups by the way are those of an end
-- that stays.
side-rule : {n : ℕ} {t : List ℕ} {a v b : ℕ} → Aim n t a v b → (y j : ℕ) → y < 2 ^ n
    → rule (met y (side_groups n t a (to_go t v b))) j ≡ rule (met y (groups n t a v b)) j
unfolding side_groups
side-rule {n} {t} {a} {v} {b} A y j bound = go (touches t b v) refl
  where
    none : (gs : List ℕ)
        → Covers n gs (part n t a v)
        → some (bit_and (part n t a v) y) ≡ not (eqb (met y gs) 0)
    none gs cov = side-met n y (part n t a v) gs bound cov

    not_one : (p q : Bool) → not p ≡ not q → p ≡ q
    not_one true true h = refl
    not_one true false h = absurd (false≢true h)
    not_one false true h = absurd (true≢false h)
    not_one false false h = refl

    go : (c : Bool) → touches t b v ≡ c
        → rule (met y (end_groups n t a v (then_some (not c) b))) j
        ≡ rule (met y (groups n t a v b)) j
    go true e =
        let first = none (stayed n t a v) (stayed_covers v A.valid A.a_lt A.a_v) in
        let second = none (groups n t a v b) (side_covers A) in
        rule_same (met y (stayed n t a v)) (met y (groups n t a v b)) j (stayed-two n t a v y)
        (side-few A e y)
        (not_one (eqb (met y (stayed n t a v)) 0) (eqb (met y (groups n t a v b)) 0)
        (sym first ∙ second))
    go false e = refl

-- The groups on the two sides of a plan give the distance that the move makes.
pub plan-dist : {n : ℕ} {t : List ℕ} {p : Plan} → Valid n t → Planned n t p → (y : ℕ) → y < 2 ^ n
    → by_groups (is_some p.exchanged) (side_groups n t p.row p.first) (side_groups n t p.row p.second) y
    ≡ dist n t (plan_moved n t p) y
unfolding side_groups nni_rule spr_rule tbr_rule
plan-dist {n} {t} {p} vt k y bound =
    go (passed n t m vt.big k.fits)
    ∙ sym (moved-dist n t m vt k.fits y bound)
    ∙ ap (λ (u : List ℕ). dist n t u y) (sym (plan-moved vt k))
  where
    m : Move
    m = k.move

    a : ℕ
    a = m.first

    rule_of : Plan → ℕ
    rule_of q =
        by_groups (is_some q.exchanged) (side_groups n t q.row q.first)
        (side_groups n t q.row q.second) y

    go : Passed n t m → rule_of p ≡ move_rule n t m y
    go (by_nni q) =
        ap rule_of (k.is ∙ plan-nni n t m q.kind-is)
        ∙ sym (rule-nni n t m y q.kind-is
        ∙ ap (λ (i : ℕ). pick (eqb i 4) 2 0)
        (met-append y (stayed n t a (lo t a)) (stayed n t a (hi t a))))
    go (by_spr q) =
        ap rule_of (k.is ∙ plan-spr n t m q.kind-is)
        ∙ rw q.away (sym (rule-spr n t m y q.kind-is))
    go (by_tbr q) =
        let high = side_groups n t a (to_go t (hi t a) m.third) in
        let gs = groups n t a (lo t a) m.second in
        ap rule_of (k.is ∙ plan-tbr n t m q.kind-is)
        ∙ side-rule (low-aim vt q) y (met y high) bound
        ∙ rule_comm (met y gs) (met y high)
        ∙ side-rule (high_aim vt q) y (met y gs) bound
        ∙ rule_comm (met y (groups n t a (hi t a) m.third)) (met y gs)
        ∙ sym (rule-tbr n t m y q.kind-is)
