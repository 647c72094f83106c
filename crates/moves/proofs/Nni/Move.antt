-- The move `nni` on a valid table, where the rows fit: the ends that rows x
-- and y have on row e are exchanged and every other row is as before; the
-- table stays valid; the distance is that of the four groups, Proposition 1.
-- Assumes nothing.
use mathlib.Core.Path.{◌≡◌, refl, sym, ap, ◌∙◌}
use mathlib.Core.Logic.{◌⊎◌, inl, inr}
use mathlib.Core.Bool.{Bool, true, false, not, ◌&&◌, ◌||◌, true≢false, false≢true}
use mathlib.Core.List.{List}
use Prim.Native.Nat.{ℕ, ◌+◌, ◌^◌, ◌≤◌, ◌<◌}
use native.Mathlib.Omega.{arith}
use lib.Dec.{eqb, leb}
use lib.Bits.{bit_and}
use borrow.Author.Tests.{eqb-true, eqb-false, ne_eqb, leb-true}
use Rattle.taxa.specs.Sets.{pick, tally, some}
use Rattle.taxa.proofs.Bools.{Either, either, and_left, and_right, or_cases}
use Rattle.taxa.proofs.Sizes.{tally_one}
use Rattle.tree.specs.Tree.{lo, hi, rows, touches, far, part, Valid}
use Rattle.tree.specs.Splits.{dist}
use Rattle.tree.proofs.Joins.{Joins, joins_touch, joins_flip, joins_same, joins_not}
use Rattle.tree.proofs.Joins.{both_touch, far-lo, far-hi, joins_differ}
use Rattle.tree.proofs.Colourings.{hangs, parallel}
use Rattle.tree.proofs.Forks.{Fork}
use Rattle.moves.specs.Moves.{end_on, nni, nni_fits, at_both}
use Rattle.moves.specs.Groups.{met, stayed, nni_rule}
use Rattle.moves.proofs.Ways.Meeting.{some-met, none_miss}
use Rattle.moves.proofs.Ways.GroupLists.{met-append}
use Rattle.moves.proofs.Ways.ThirdRow.{meets_by, Third, third-row}
use Rattle.moves.proofs.Nni.Ends.{End}
use Rattle.moves.proofs.Nni.Exchange.{Exchange, Four}
use Rattle.moves.proofs.Nni.FourGroups.{OneMissed, miss_A, miss_B, miss_C, miss_D}
use Rattle.moves.proofs.Nni.FourGroups.{exchange_same, exchange_changed}
use Rattle.moves.proofs.Nni.Swap.{NniFit, NniRows, swapped, fit_flip, rows_flip}
use Rattle.moves.proofs.Nni.Swap.{not_both, xy, swapped_rows, swapped_valid}

-- ---- node p, which has rows e, x and f before, has rows e, y and f after
module _ {n : ℕ} {t t' : List ℕ} {e x y p q : ℕ} (k : NniFit n t e x y p q)
    (w : NniRows t t' e x y p q)
    {f : ℕ} (P : Fork n t p e x f q (far t x p) (far t f p)) where
  y_not_third : y ≡ f → ⊥
  y_not_third d =
      let f_p = joins_touch t f p (far t f p) P.f_row in
      not_both k y k.y_lt k.ye (ap (λ (r : ℕ). touches t r p) d ∙ f_p) k.y_q

  fork_after : Fork n t' p e y f q (far t y q) (far t f p)
  fork_after =
      let s = w.rest f (λ d. P.xf (sym d)) (λ d. y_not_third (sym d)) in
      record {
        e_row = w.e_after;
        x_row = w.y_after;
        f_row = joins_same t t' f p (far t f p) s.0 s.1 P.f_row;
        e_lt = k.e_lt;
        x_lt = k.y_lt;
        f_lt = P.f_lt;
        ex = λ d. k.ye (sym d);
        ef = P.ef;
        xf = y_not_third;
        pq = P.pq;
        inner = P.inner;
        p_lt = P.p_lt;
        only = λ r h a b c. go r h a b c (either (eqb r x));
      }
    where
      px : p ≡ far t x p → ⊥
      px = joins_differ x k.valid k.x_lt p (far t x p) w.x_before

      go : (r : ℕ) → r < rows n → (r ≡ e → ⊥) → (r ≡ y → ⊥) → (r ≡ f → ⊥) → Either (eqb r x)
          → (p ≡ lo t' r → ⊥) × (p ≡ hi t' r → ⊥)
      go r h a b c (inl u) =
          rw (eqb-true r x u) (joins_not t' x q (far t x p) p w.x_after P.pq px)
      go r h a b c (inr u) =
          let s = w.rest r (eqb-false r x u) b in
          let o = P.only r h a (eqb-false r x u) c in
          (λ d. o.0 (d ∙ s.0), λ d. o.1 (d ∙ s.1))

-- ---- so it is an exchange, with f and g the third rows at p and at q
-- an end of e, by its node and its two other rows
abbrev pub end_of : List ℕ → ℕ → ℕ → ℕ → End
end_of t p x f = record { node = p; row = x; far = far t x p; third = f; last = far t f p }

module _ {n : ℕ} {t : List ℕ} {e x y p q : ℕ} (k : NniFit n t e x y p q) where
  abbrev t' : List ℕ
  t' = swapped t x y p q

  module _ {f g : ℕ}
      (P : Fork n t p e x f q (far t x p) (far t f p))
      (Q : Fork n t q e y g p (far t y q) (far t g q)) where
    thirds : f ≡ g → ⊥
    thirds d =
        let f_p = joins_touch t f p (far t f p) P.f_row in
        let g_q = joins_touch t g q (far t g q) Q.f_row in
        not_both k f P.f_lt (λ v. P.ef (sym v)) f_p (ap (λ (r : ℕ). touches t r q) d ∙ g_q)

    pub exchange : Exchange n t t' e (end_of t p x f) (end_of t q y g)
    exchange =
        let w = swapped_rows k in
        let k' = fit_flip k in
        let w' = rows_flip w in
        record {
          valid = k.valid;
          valid' = swapped_valid k;
          at_P = P;
          at_Q = Q;
          at_P' = fork_after k w P;
          at_Q' = fork_after k' w' Q;
          rest = w.rest;
          rows_differ = xy k;
          row-third = y_not_third k' w' Q;
          third-row = y_not_third k w P;
          thirds_differ = thirds;
        }

    g_A : ℕ
    g_A = part n t x (far t x p)

    g_B : ℕ
    g_B = part n t f (far t f p)

    g_C : ℕ
    g_C = part n t y (far t y q)

    g_D : ℕ
    g_D = part n t g (far t g q)

    four : Four n t (end_of t p x f) (end_of t q y g) g_A g_B g_C g_D
    unfolding g_A g_B g_C g_D
    four = record {
      on_P = record {
        by_row = hangs x p (far t x p) k.valid k.x_lt P.x_row;
        by_third = hangs f p (far t f p) k.valid P.f_lt P.f_row;
      };
      on_Q = record {
        by_row = hangs y q (far t y q) k.valid k.y_lt Q.x_row;
        by_third = hangs g q (far t g q) k.valid Q.f_lt Q.f_row;
      };
    }

    -- 2 where the tests of all four pass, else 0
    abbrev all_four : Bool → Bool → Bool → Bool → ℕ
    all_four A B C D = pick (eqb (tally A + tally B + (tally C + tally D)) 4) 2 0

    -- the distance by how many of the four groups meet Y
    four_met : ℕ → ℕ
    four_met Y = meets_by n t Y p x + meets_by n t Y p f + (meets_by n t Y q y + meets_by n t Y q g)

    four_dist : (Y : ℕ) → Y < 2 ^ n → dist n t t' Y ≡ pick (eqb (four_met Y) 4) 2 0
    unfolding g_A g_B g_C g_D four_met
    four_dist Y bound =
        go (some (bit_and g_A Y)) (some (bit_and g_B Y)) (some (bit_and g_C Y)) (some (bit_and g_D Y))
        refl refl refl refl
      where
        same : (A B C D : Bool)
            → OneMissed Y g_A g_B g_C g_D
            → (tally A + tally B + (tally C + tally D) ≡ 4 → ⊥)
            → dist n t t' Y ≡ all_four A B C D
        same A B C D m d =
            exchange_same exchange four Y bound m
            ∙ sym (ap (λ (b : Bool). pick b 2 0)
            (ne_eqb (tally A + tally B + (tally C + tally D)) 4 d))

        go : (A B C D : Bool)
            → some (bit_and g_A Y) ≡ A
            → some (bit_and g_B Y) ≡ B
            → some (bit_and g_C Y) ≡ C
            → some (bit_and g_D Y) ≡ D
            → dist n t t' Y ≡ all_four A B C D
        go true true true true a b c d =
            exchange_changed exchange four Y bound (record {
              in_A = some-met n Y g_A bound a;
              in_B = some-met n Y g_B bound b;
              in_C = some-met n Y g_C bound c;
              in_D = some-met n Y g_D bound d;
            })
        go false B C D a b c d =
            same false B C D (miss_A (none_miss Y g_A a))
            (λ w. omega (arith, tally_one B, tally_one C, tally_one D))
        go true false C D a b c d =
            same true false C D (miss_B (none_miss Y g_B b))
            (λ w. omega (arith, tally_one C, tally_one D))
        go true true false D a b c d =
            same true true false D (miss_C (none_miss Y g_C c)) (λ w. omega (arith, tally_one D))
        go true true true false a b c d =
            same true true true false (miss_D (none_miss Y g_D d)) (λ w. omega arith)

  -- the third rows at p and at q
  pub third_P : Third n t e p q x
  third_P = third-row k.valid k.e_lt k.x_lt k.xe k.p_inner k.e_row k.x_p

  pub third_Q : Third n t e q p y
  third_Q =
      third-row k.valid k.e_lt k.y_lt k.ye k.q_inner (joins_flip t e p q k.e_row)
      k.y_q

  pub swapped_dist : (Y : ℕ) → Y < 2 ^ n → dist n t (swapped t x y p q) Y ≡ nni_rule n t e Y
  unfolding nni_rule four_met
  swapped_dist Y bound =
      four_dist third_P.fork third_Q.fork Y bound
      ∙ ap (λ (m : ℕ). pick (eqb m 4) 2 0)
      (sym (met-append Y (stayed n t e (lo t e)) (stayed n t e (hi t e)) ∙ total k.e_row))
    where
      f : ℕ
      f = third_P.row

      g : ℕ
      g = third_Q.row

      total : Joins t e p q → met Y (stayed n t e (lo t e)) + met Y (stayed n t e (hi t e))
          ≡ meets_by n t Y p x + meets_by n t Y p f + (meets_by n t Y q y + meets_by n t Y q g)
      total (inl j) =
          rw (j.0, j.1) (omega (arith, third_P.stays Y bound, third_Q.stays Y bound))
      total (inr j) =
          rw (j.0, j.1) (omega (arith, third_P.stays Y bound, third_Q.stays Y bound))

-- ---- the move itself
pub nni_eq : (t : List ℕ) (e x y : ℕ)
    → nni t e x y ≡ swapped t x y (end_on t e x) (far t e (end_on t e x))
unfolding nni swapped
nni_eq t e x y = refl

-- what the check of an NNI says: e joins two inner nodes, and the other rows x
-- and y are at its two ends
pub record NniChecked (n : ℕ) (t : List ℕ) (e x y : ℕ) : Type 0 where
  pub lo-inner : n ≤ lo t e
  pub hi-inner : n ≤ hi t e
  pub xe : x ≡ e → ⊥
  pub ye : y ≡ e → ⊥
  pub ends : (at_both t x (lo t e) y (hi t e) ≡ true) ⊎ (at_both t x (hi t e) y (lo t e) ≡ true)

pub nni_checked : (n : ℕ) (t : List ℕ) (e x y : ℕ) → nni_fits n t e x y ≡ true → NniChecked n t e x y
unfolding nni_fits
nni_checked n t e x y h = go (leb n u) (leb n v) (eqb x e) (eqb y e) refl refl refl refl h
  where
    u : ℕ
    u = lo t e

    v : ℕ
    v = hi t e

    straight : Bool
    straight = at_both t x u y v

    crossed : Bool
    crossed = at_both t x v y u

    go : (a b c d : Bool) → leb n u ≡ a → leb n v ≡ b → eqb x e ≡ c → eqb y e ≡ d
        → (a && b && not c && not d && (straight || crossed)) ≡ true
        → NniChecked n t e x y
    go true true false false p q r s h = record {
      lo-inner = leb-true n u p;
      hi-inner = leb-true n v q;
      xe = eqb-false x e r;
      ye = eqb-false y e s;
      ends = or_cases straight crossed h;
    }
    go true true false true p q r s h = absurd (false≢true h)
    go true true true d p q r s h = absurd (false≢true h)
    go true false c d p q r s h = absurd (false≢true h)
    go false b c d p q r s h = absurd (false≢true h)

-- a move that passes its check fits: p is the end that x has on e, q the other
-- end of e, which is the end that y has on e
pub nni_fit : {n : ℕ} {t : List ℕ} (e x y : ℕ) → Valid n t
    → e < rows n
    → x < rows n
    → y < rows n
    → nni_fits n t e x y ≡ true
    → NniFit n t e x y (end_on t e x) (far t e (end_on t e x))
nni_fit {n} {t} e x y vt le lx ly h = go (touches t x u) refl w.ends
  where
    u : ℕ
    u = lo t e

    v : ℕ
    v = hi t e

    w : NniChecked n t e x y
    w = nni_checked n t e x y h

    fit : (p q : ℕ) → Joins t e p q → n ≤ p → n ≤ q → touches t x p ≡ true → touches t y q ≡ true
        → NniFit n t e x y p q
    fit p q j ip iq tx ty = record {
      valid = vt;
      e_lt = le;
      x_lt = lx;
      y_lt = ly;
      e_row = j;
      xe = w.xe;
      ye = w.ye;
      p_inner = ip;
      q_inner = iq;
      x_p = tx;
      y_q = ty;
    }

    not_two : touches t x u ≡ true → touches t x v ≡ true → ⊥
    not_two a b =
        parallel e x u v vt le lx w.xe (inl (refl, refl))
        (both_touch t x u v (λ d. omega (arith, (vt.order e le).0)) a b)

    go : (b : Bool) → touches t x u ≡ b
        → (at_both t x u y v ≡ true) ⊎ (at_both t x v y u ≡ true)
        → NniFit n t e x y (pick b u v) (far t e (pick b u v))
    go true q (inl s) =
        let y_v = and_right (touches t x u) (touches t y v) s in
        rw (far-lo e vt le) (fit u v (inl (refl, refl)) w.lo-inner w.hi-inner q y_v)
    go true q (inr s) = absurd (not_two q (and_left (touches t x v) (touches t y u) s))
    go false q (inl s) = absurd (true≢false (sym (and_left (touches t x u) (touches t y v) s) ∙ q))
    go false q (inr s) =
        let x_v = and_left (touches t x v) (touches t y u) s in
        let y_u = and_right (touches t x v) (touches t y u) s in
        rw (far-hi e vt le) (fit v u (inr (refl, refl)) w.hi-inner w.lo-inner x_v y_u)

module _ {n : ℕ} {t : List ℕ} (e x y : ℕ) (vt : Valid n t)
    (le : e < rows n) (lx : x < rows n) (ly : y < rows n) (h : nni_fits n t e x y ≡ true) where
  fits : NniFit n t e x y (end_on t e x) (far t e (end_on t e x))
  fits = nni_fit e x y vt le lx ly h

  -- the table stays valid
  pub nni-valid : Valid n (nni t e x y)
  nni-valid = rw (nni_eq t e x y) (swapped_valid fits)

  -- the ends that x and y have on e are exchanged, and every other row keeps
  -- both its ends
  pub nni-rest : NniRows t (nni t e x y) e x y (end_on t e x) (far t e (end_on t e x))
  nni-rest = rw (nni_eq t e x y) (swapped_rows fits)

  -- Proposition 1: the distance over Y is 2 when all of the four groups around
  -- e meet Y, else 0
  pub nni-dist : (Y : ℕ) → Y < 2 ^ n → dist n t (nni t e x y) Y ≡ nni_rule n t e Y
  nni-dist Y bound = rw (nni_eq t e x y) (swapped_dist fits Y bound)
