-- Laws for the counts of rows at each node. Assumes nothing.
use mathlib.Core.Path.{◌≡◌, refl, sym, ap, ◌∙◌}
use mathlib.Core.Logic.{◌⊎◌, inl, inr}
use mathlib.Core.Bool.{Bool, true, false}
use mathlib.Core.List.{List}
use Prim.Native.Nat.{ℕ, ◌+◌, ◌*◌, ◌-◌, ◌≤◌, ◌<◌}
use native.Mathlib.Numerals.{add-one}
use native.Mathlib.Omega.{arith}
use lib.Dec.{eqb, ltb, leb}
use lib.ListN.{length, get_or, set, length-set, replicate, length-replicate, get_or-replicate}
use lib.Seq.{get_or-set_same, get_or-set_other}
use borrow.Author.Tests.{eqb-true, eqb-false, ltb-true, leb-true, le-ltb, lt-ltb}
use Rattle.taxa.specs.Most.{most}
use Rattle.taxa.specs.Sets.{pick, tally}
use Rattle.taxa.proofs.Bools.{either, and_left, and_right}
use Rattle.tree.specs.Tree.{lo, hi, rows, nodes, touches, in_order, right_degree, degree, wanted}
use Rattle.tree.specs.Tree.{every, count}
use Rattle.tree.proofs.RowCounts.{every-all, every_same, touch-tally, count_le}
use Rattle.table.specs.Between.{Ordered, Rowed, Counted}
use Rattle.table.proofs.Ends.{lo-node, hi-node}

-- one more at place a
bump : (d : List ℕ) (a v x : ℕ) → a < length d → x ≡ get_or d a 0 + 1
    → get_or (set d a x) v 0 ≡ get_or d v 0 + tally (eqb a v)
bump d a v x h e = go (either (eqb a v))
  where
    go : (eqb a v ≡ true) ⊎ (eqb a v ≡ false) → get_or (set d a x) v 0 ≡ get_or d v 0 + tally (eqb a v)
    go (inl w) = rw (w, ← eqb-true a v w, get_or-set_same d a x 0 h) e
    go (inr w) = rw (w, get_or-set_other d a v x 0 (λ q. eqb-false a v w (sym q))) (omega arith)

pub counted_none : (n : ℕ) (t : List ℕ) → n ≤ most → Counted n t (replicate (nodes most) 0) 0
unfolding count
counted_none n t h = record {
  room = length-replicate {A = ℕ} (nodes most) 0;
  at = λ v l. get_or-replicate {A = ℕ} (nodes most) v 0 0 (omega arith);
}

-- No count passes the number of rows, so a byte holds it.
count_fits : {n : ℕ} {t d : List ℕ} {i v : ℕ} → Ordered n t → i < rows n → Counted n t d i
    → v < nodes n → get_or d v 0 + 1 < 256
count_fits {t = t} {i = i} {v = v} o row counted l =
    omega (arith, counted.at v l, count_le (λ r. touches t r v) i, row, o.few)

pub first_fits : {n : ℕ} {t d : List ℕ} {i a : ℕ} → Ordered n t → i < rows n → Counted n t d i
    → a ≡ lo t i → get_or d a 0 + 1 < 256
first_fits {i = i} o row counted e =
    count_fits o row counted (omega (arith, (o.order i row).0, (o.order i row).1, e))

-- Row i is to be counted at its ends a and b.
pub record Counting (n : ℕ) (t d : List ℕ) (i a b : ℕ) : Type 0 where
  pub ordered : Ordered n t
  pub row : i < rows n
  pub counted : Counted n t d i
  pub first : a ≡ lo t i
  pub second : b ≡ hi t i

module _ {n : ℕ} {t d : List ℕ} {i a b : ℕ} (c : Counting n t d i a b) where
  abbrev once : List ℕ
  once = set d a (get_or d a 0 + 1)

  ends : (lo t i < hi t i) × (hi t i < nodes n)
  ends = c.ordered.order i c.row

  pub a_lt : a < nodes most
  a_lt = lo-node c.ordered c.row c.first

  pub b_lt : b < nodes most
  b_lt = hi-node c.ordered c.row c.second

  pub b_fits : get_or once b 0 + 1 < 256
  b_fits = omega (
    arith,
    get_or-set_other d a b (get_or d a 0 + 1) 0 (λ e. omega (arith, ends.0, c.first, c.second)),
    count_fits {v = b} c.ordered c.row c.counted (omega (arith, ends.1, c.second)),
  )

  pub counted_more : Counted n t (set once b (get_or once b 0 + 1)) (i + 1)
  unfolding count
  counted_more = record {
    room = length-set once b (get_or once b 0 + 1) ∙ length-set d a (get_or d a 0 + 1)
        ∙ c.counted.room;
    at = λ v l.
        bump once b v (get_or once b 0 + 1)
        (omega (arith, length-set d a (get_or d a 0 + 1), b_lt, c.counted.room)) refl
        ∙ ap (λ (k : ℕ). k + tally (eqb b v))
        (bump d a v (get_or d a 0 + 1) (omega (arith, a_lt, c.counted.room)) refl)
        ∙ rw (add-one i, c.first, c.second) (omega (
          arith,
          c.counted.at v l,
          touch-tally t i v (λ e. omega (arith, ends.0)),
        ));
  }

-- the test of the counts is the test of the degrees
pub degrees_test : {n : ℕ} {t d : List ℕ} → Counted n t d (rows n)
    → every (λ v. eqb (get_or d v 0) (wanted n v)) (nodes n) ≡ every (right_degree n t) (nodes n)
degrees_test {n} {t} {d} c =
    every_same (λ v. eqb (get_or d v 0) (wanted n v)) (right_degree n t) (nodes n)
    (λ v l. ap (λ (x : ℕ). eqb x (wanted n v)) (c.at v l))

-- The checks 1 and 2 pass.
pub record Sized (n : ℕ) (t : List ℕ) : Type 0 where
  pub big : 4 ≤ n
  pub few : n ≤ most
  pub len : length t ≡ 2 * rows n

module _ {n : ℕ} {t : List ℕ} where
  pub ordered_of : Sized n t → every (in_order n t) (rows n) ≡ true → Ordered n t
  ordered_of z e = record {
    big = z.big;
    few = z.few;
    len = z.len;
    order = λ r h.
        let w = every-all (in_order n t) (rows n) e r h in (
          ltb-true (lo t r) (hi t r)
              (and_left (ltb (lo t r) (hi t r)) (leb (hi t r) (2 * n - 3)) w),
          omega (
            arith,
            leb-true (hi t r) (2 * n - 3)
                (and_right (ltb (lo t r) (hi t r)) (leb (hi t r) (2 * n - 3)) w),
            z.big,
          ),
        );
  }

  pub rowed_of : Ordered n t → every (right_degree n t) (nodes n) ≡ true → Rowed n t
  rowed_of o e = record {
    ordered = o;
    leaf = λ v a. eqb-true (degree n t v) (wanted n v)
        (every-all (right_degree n t) (nodes n) e v (omega (arith, o.big)))
        ∙ ap (λ (x : Bool). pick x 1 3) (lt-ltb v n a);
    inner = λ v a b. eqb-true (degree n t v) (wanted n v)
        (every-all (right_degree n t) (nodes n) e v b)
        ∙ ap (λ (x : Bool). pick x 1 3) (le-ltb v n a);
  }
