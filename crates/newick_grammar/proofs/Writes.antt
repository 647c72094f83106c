-- Rows written into a table one after another, each over a blank one: what the
-- table then has at each row, and how many rows end at a node.
-- Assumes nothing.
use mathlib.Core.Path.{◌≡◌, refl, sym, ap, ◌∙◌, subst}
use mathlib.Core.Logic.{◌⊎◌, inl, inr}
use mathlib.Core.Bool.{Bool, true, false}
use mathlib.Core.List.{List}
use Prim.Native.Nat.{ℕ, ◌+◌, ◌*◌, ◌≤◌, ◌<◌}
use native.Mathlib.Omega.{arith}
use lib.Dec.{eqb, ltb}
use lib.ListN.{length, set, length-set, length-replicate, get_or-replicate, get_or-eq_default}
use lib.Seq.{get_or-set_same, get_or-set_other}
use borrow.Author.Tests.{ltb-true, ltb-false, eqb-true, eqb-false, eq-eqb, ne_eqb}
use Rattle.taxa.specs.Sets.{tally}
use Rattle.taxa.proofs.Bools.{either}
use Rattle.taxa.proofs.Sizes.{tally_one}
use Rattle.tree.specs.Tree.{lo, hi, rows, nodes, count}
use Rattle.tree.proofs.RowCounts.{but, but_other, count_same, count-drop}
use Rattle.newick_grammar.specs.Numbers.{join, blank}
use Rattle.newick_grammar.proofs.Low.{low, low_in, low-out, low-some}
use Rattle.newick_grammar.proofs.Rooted.{under, under_none, Rooted}

-- ---- one row: it has its ends, and every other row is as before
module _ (t : List ℕ) (v p : ℕ) where
  pub length-join : length (join v p t) ≡ length t
  length-join = length-set (set t (2 * v) v) (2 * v + 1) p ∙ length-set t (2 * v) v

  lo-join : 2 * v + 1 < length t → lo (join v p t) v ≡ v
  lo-join h =
      get_or-set_other (set t (2 * v) v) (2 * v + 1) (2 * v) p 0 (omega arith)
      ∙ get_or-set_same t (2 * v) v 0 (omega arith)

  hi-join : 2 * v + 1 < length t → hi (join v p t) v ≡ p
  hi-join h = get_or-set_same (set t (2 * v) v) (2 * v + 1) p 0
      (omega (arith, length-set t (2 * v) v))

  lo_other : (r : ℕ) → (r ≡ v → ⊥) → lo (join v p t) r ≡ lo t r
  lo_other r d =
      get_or-set_other (set t (2 * v) v) (2 * v + 1) (2 * r) p 0 (omega arith)
      ∙ get_or-set_other t (2 * v) (2 * r) v 0 (omega arith)

  hi_other : (r : ℕ) → (r ≡ v → ⊥) → hi (join v p t) r ≡ hi t r
  hi_other r d =
      get_or-set_other (set t (2 * v) v) (2 * v + 1) (2 * r + 1) p 0 (omega arith)
      ∙ get_or-set_other t (2 * v) (2 * r + 1) v 0 (omega arith)

-- a test like another save at v, where the other fails, passes once more if
-- at v
count_one : (P Q : ℕ → Bool) (v m : ℕ) → v < m → P v ≡ false
    → ((r : ℕ) → (r ≡ v → ⊥) → Q r ≡ P r)
    → count Q m ≡ tally (Q v) + count P m
count_one P Q v m l p h = go (Q v) refl
  where
    at : (R : ℕ → Bool) → R v ≡ false → ((r : ℕ) → (r ≡ v → ⊥) → R r ≡ P r)
        → (r : ℕ) → (eqb r v ≡ true) ⊎ (eqb r v ≡ false) → R r ≡ P r
    at R f o r (inl e) = ap R (eqb-true r v e) ∙ f ∙ sym (ap P (eqb-true r v e) ∙ p)
    at R f o r (inr e) = o r (eqb-false r v e)

    go : (b : Bool) → Q v ≡ b → count Q m ≡ tally b + count P m
    go false q = count_same Q P m (λ r k. at Q q h r (either (eqb r v))) ∙ omega arith
    go true q =
        let off : but Q v v ≡ false = rw (q, eq-eqb v v refl) in
        let rest : count (but Q v) m ≡ count P m
        = count_same (but Q v) P m
        (λ r k. at (but Q v) off (λ s d. but_other Q v s d ∙ h s d) r (either (eqb r v))) in
        omega (arith, count-drop Q v m q l)

-- a row written over a blank one is one more at the node it goes to
under_join : (t : List ℕ) (v q p m : ℕ) → 0 < p → v < m → 2 * v + 1 < length t
    → hi t v ≡ 0
    → under (join v q t) p m ≡ tally (eqb q p) + under t p m
under_join t v q p m pos l h e =
    let none : eqb (hi t v) p ≡ false = ne_eqb (hi t v) p (λ d. omega arith) in
    count_one (λ r. eqb (hi t r) p) (λ r. eqb (hi (join v q t) r) p) v m l none
    (λ r d. ap (λ (x : ℕ). eqb x p) (hi_other t v q r d))
    ∙ ap (λ (x : ℕ). tally (eqb x p) + under t p m) (hi-join t v q h)

-- ---- rows in order, the first of the list written last: row v to p
pub data Writes : Type 0 where
  none : Writes
  put : ℕ → ℕ → Writes → Writes

-- the table with those rows
unfoldable pub joins : Writes → List ℕ → List ℕ
joins none t = t
joins (put v p w) t = join v p (joins w t)

-- how often row v is written; how often one is joined to p
unfoldable pub firsts : ℕ → Writes → ℕ
firsts v none = 0
firsts v (put x p w) = tally (eqb x v) + firsts v w

unfoldable pub seconds : ℕ → Writes → ℕ
seconds p none = 0
seconds p (put v q w) = tally (eqb q p) + seconds p w

-- each is joined to a larger node, from n up to below m
unfoldable pub Fit : ℕ → ℕ → Writes → Type 0
Fit n m none = Unit {0}
Fit n m (put v p w) = (v < p) × (n ≤ p) × (p < m) × Fit n m w

-- no row written changes the length
pub length_joins : (w : Writes) (t : List ℕ) → length (joins w t) ≡ length t
unfolding joins
length_joins none t = refl
length_joins (put v p w) t = length-join (joins w t) v p ∙ length_joins w t

-- a row not written stays
hi-kept : (w : Writes) (t : List ℕ) (v : ℕ) → firsts v w ≡ 0
    → hi (joins w t) v ≡ hi t v
unfolding joins firsts
hi-kept none t v h = refl
hi-kept (put x p w) t v h = go (either (eqb x v)) (hi-kept w t v (omega arith))
  where
    go : (eqb x v ≡ true) ⊎ (eqb x v ≡ false) → hi (joins w t) v ≡ hi t v
        → hi (join x p (joins w t)) v ≡ hi t v
    go (inl e) ih = absurd (omega (arith, h, ap tally e))
    go (inr e) ih = hi_other (joins w t) x p v (λ d. eqb-false x v e (sym d)) ∙ ih

-- a row written has its own number first, and then a larger one
record Row (n m v : ℕ) (t : List ℕ) : Type 0 where
  own : lo t v ≡ v
  above : (v < hi t v) × (n ≤ hi t v) × (hi t v < m)

row_written : (n m : ℕ) (w : Writes) (t : List ℕ) (v : ℕ) → Fit n m w
    → 2 * v + 1 < length t → 0 < firsts v w
    → Row n m v (joins w t)
unfolding joins firsts Fit
row_written n m none t v f h l = absurd (omega arith)
row_written n m (put x p w) t v f h l =
    go (either (eqb x v)) (λ k. row_written n m w t v f.3 h k)
  where
    u : List ℕ
    u = joins w t

    long : 2 * v + 1 < length u
    long = omega (arith, length_joins w t)

    go : (eqb x v ≡ true) ⊎ (eqb x v ≡ false) → (0 < firsts v w → Row n m v u)
        → Row n m v (join x p u)
    go (inl e) ih =
        let d : v ≡ x = sym (eqb-true x v e) in
        let k : 2 * x + 1 < length u = omega (arith, long) in
        let b : hi (join x p u) x ≡ p = hi-join u x p k in
        subst (λ (y : ℕ). Row n m y (join x p u)) (sym d) (record {
          own = lo-join u x p k;
          above = (omega (arith, b, f.0), omega (arith, b, f.1), omega (arith, b, f.2));
        })
    go (inr e) ih =
        let r = ih (omega (arith, l, ap tally e)) in
        let d : v ≡ x → ⊥ = λ y. eqb-false x v e (sym y) in
        let b : hi (join x p u) v ≡ hi u v = hi_other u x p v d in
        let a = r.above in
        record {
          own = lo_other u x p v d ∙ r.own;
          above = (omega (arith, b, a.0), omega (arith, b, a.1), omega (arith, b, a.2));
        }

-- rows each written once over blank ones: as many end at p as are joined to it
under_joins : (w : Writes) (t : List ℕ) (p m : ℕ) → 0 < p → 2 * m ≤ length t
    → ((v : ℕ) → hi t v ≡ 0) → ((v : ℕ) → firsts v w ≤ low m v)
    → under (joins w t) p m ≡ seconds p w + under t p m
unfolding joins firsts seconds
under_joins none t p m pos h z o = omega arith
under_joins (put v q w) t p m pos h z o =
    let mine : tally (eqb v v) ≡ 1 = ap tally (eq-eqb v v refl) in
    let only : firsts v w ≡ 0 = omega (arith, o v, mine, tally_one (ltb v m)) in
    let l : v < m = low-some m v (tally (eqb v v)) (omega (arith, mine)) (omega (arith, o v)) in
    under_join (joins w t) v q p m pos l (omega (arith, length_joins w t))
    (hi-kept w t v only ∙ z v)
    ∙ omega (arith, under_joins w t p m pos h z (λ x. omega (arith, o x)))

-- ---- the whole table, written from the blank one
pub blank-length : (n : ℕ) → length (blank n) ≡ 2 * rows n
blank-length n = length-replicate (2 * rows n) 0

-- a written table has the length of a blank one
pub length-written : (n : ℕ) (w : Writes)
    → length (joins w (blank n)) ≡ 2 * rows n
length-written n w = length_joins w (blank n) ∙ blank-length n

-- a blank row ends at 0, in the table or beyond it
blank_zero : (n r : ℕ) → hi (blank n) r ≡ 0
blank_zero n r = go (either (ltb (2 * r + 1) (2 * rows n)))
  where
    go : (ltb (2 * r + 1) (2 * rows n) ≡ true) ⊎ (ltb (2 * r + 1) (2 * rows n) ≡ false)
        → hi (blank n) r ≡ 0
    go (inl e) = get_or-replicate (2 * rows n) (2 * r + 1) 0 0 (ltb-true (2 * r + 1) (2 * rows n) e)
    go (inr e) =
        get_or-eq_default (blank n) 0
        (omega (arith, blank-length n, ltb-false (2 * r + 1) (2 * rows n) e))

-- each row written once, to larger nodes, two to each inner one and three to
-- the last
pub record Whole (n : ℕ) (w : Writes) : Type 0 where
  pub fit : Fit n (nodes n) w
  pub once : (v : ℕ) → firsts v w ≡ low (rows n) v
  pub twice : (p : ℕ)
      → seconds p w + 2 * low n p ≡ 2 * low (rows n) p + 3 * tally (eqb (rows n) p)

-- then the table has each node's row and each node's number of rows
pub whole_rooted : {n : ℕ} {w : Writes} → 4 ≤ n → Whole n w
    → Rooted n (joins w (blank n))
whole_rooted {n} {w} big h =
    let t = joins w (blank n) in
    let len = blank-length n in
    let at : (r : ℕ) → r < rows n → Row n (nodes n) r t
    = λ r l. row_written n (nodes n) w (blank n) r h.fit (omega arith)
    (omega (arith, h.once r, low_in (rows n) r l)) in
    record {
      len = length-written n w;
      own = λ r l. (at r l).own;
      above = λ r l. (at r l).above;
      twice = λ p l.
          let clear = under_none (blank n) p (rows n) (λ r k e. omega (arith, blank_zero n r)) in
          under_joins w (blank n) p (rows n) (omega arith) (omega arith) (blank_zero n)
          (λ v. omega (arith, h.once v))
          ∙ omega (arith, h.twice p, low-out n p l, clear);
    }
