-- Two rows, x at one end p of a row e and y at its other end q, exchange those
-- ends: which ends the rows have afterwards, and that the table stays valid.
-- Assumes nothing.
use mathlib.Core.Path.{◌≡◌, sym, ap, ◌∙◌, subst}
use mathlib.Core.Logic.{inl, inr}
use mathlib.Core.Bool.{Bool, true}
use mathlib.Core.List.{List}
use Prim.Native.Nat.{ℕ, ◌*◌, ◌≤◌, ◌<◌}
use native.Mathlib.Omega.{arith}
use lib.Dec.{eqb}
use lib.ListN.{length}
use borrow.Author.Tests.{eqb-true, eqb-false}
use Rattle.taxa.proofs.Bools.{Either, either}
use Rattle.tree.specs.Tree.{lo, hi, rows, nodes, touches, far, degree, Valid}
use Rattle.tree.proofs.Joins.{Joins, join_flat, flat_join, touch_joins, joins_touch, joins_flip}
use Rattle.tree.proofs.Joins.{joins_same, both_touch, joins_nodes, joins_differ}
use Rattle.tree.proofs.Colourings.{FlatAll, parallel, connected_by}
use Rattle.moves.specs.Moves.{put}
use Rattle.moves.proofs.Rows.Puts.{length-put, put_joins, put-ordered}
use Rattle.moves.proofs.Rows.Puts.{order_same, lo_other, hi_other}
use Rattle.moves.proofs.Rows.Ends.{SameRow}
use Rattle.moves.proofs.Rows.Degrees.{count_deg, deg_nni}

-- ---- the rows fit: row e joins the inner nodes p and q, x is another row at p
-- and y another row at q
pub record NniFit (n : ℕ) (t : List ℕ) (e x y p q : ℕ) : Type 0 where
  pub valid : Valid n t
  pub e_lt : e < rows n
  pub x_lt : x < rows n
  pub y_lt : y < rows n
  pub e_row : Joins t e p q
  pub xe : x ≡ e → ⊥
  pub ye : y ≡ e → ⊥
  pub p_inner : n ≤ p
  pub q_inner : n ≤ q
  pub x_p : touches t x p ≡ true
  pub y_q : touches t y q ≡ true

-- x is put from p to q, and y from q to p
unfoldable pub swapped : List ℕ → ℕ → ℕ → ℕ → ℕ → List ℕ
swapped t x y p q = put (put t x q (far t x p)) y p (far t y q)

-- what it does to the rows of t: x, at p before, is at q after; y, at q
-- before, is at p after; each keeps its other end; no other row changes
pub record NniRows (t t' : List ℕ) (e x y p q : ℕ) : Type 0 where
  pub e_before : Joins t e p q
  pub e_after : Joins t' e p q
  pub x_before : Joins t x p (far t x p)
  pub x_after : Joins t' x q (far t x p)
  pub y_before : Joins t y q (far t y q)
  pub y_after : Joins t' y p (far t y q)
  pub rest : (r : ℕ) → (r ≡ x → ⊥) → (r ≡ y → ⊥) → SameRow t t' r

-- the two rows play the same part
pub fit_flip : {n : ℕ} {t : List ℕ} {e x y p q : ℕ} → NniFit n t e x y p q → NniFit n t e y x q p
fit_flip {n} {t} {e} {x} {y} {p} {q} k = record {
  valid = k.valid;
  e_lt = k.e_lt;
  x_lt = k.y_lt;
  y_lt = k.x_lt;
  e_row = joins_flip t e p q k.e_row;
  xe = k.ye;
  ye = k.xe;
  p_inner = k.q_inner;
  q_inner = k.p_inner;
  x_p = k.y_q;
  y_q = k.x_p;
}

pub rows_flip : {t t' : List ℕ} {e x y p q : ℕ} → NniRows t t' e x y p q → NniRows t t' e y x q p
rows_flip {t} {t'} {e} {x} {y} {p} {q} w = record {
  e_before = joins_flip t e p q w.e_before;
  e_after = joins_flip t' e p q w.e_after;
  x_before = w.y_before;
  x_after = w.y_after;
  y_before = w.x_before;
  y_after = w.x_after;
  rest = λ r a b. w.rest r b a;
}

module _ {n : ℕ} {t : List ℕ} {e x y p q : ℕ} (k : NniFit n t e x y p q) where
  abbrev t' : List ℕ
  t' = swapped t x y p q

  -- the far ends of x and of y
  abbrev c : ℕ
  c = far t x p

  abbrev d : ℕ
  d = far t y q

  -- the table with x put
  abbrev t₁ : List ℕ
  t₁ = put t x q c

  len₁ : length t₁ ≡ 2 * rows n
  len₁ = length-put t x q c ∙ k.valid.len

  pub e_nodes : (p < nodes n) × (q < nodes n)
  e_nodes = joins_nodes e k.valid k.e_lt p q k.e_row

  pub pq : p ≡ q → ⊥
  pq = joins_differ e k.valid k.e_lt p q k.e_row

  x_row : Joins t x p c
  x_row = touch_joins t x p k.x_p

  y_row : Joins t y q d
  y_row = touch_joins t y q k.y_q

  -- no row but e is at both ends of e
  pub not_both : (r : ℕ)
      → r < rows n
      → (r ≡ e → ⊥)
      → touches t r p ≡ true
      → touches t r q ≡ true
      → ⊥
  not_both r h ne a b =
      parallel e r p q k.valid k.e_lt h ne k.e_row (both_touch t r p q pq a b)

  pub xy : x ≡ y → ⊥
  xy w = not_both x k.x_lt k.xe k.x_p (ap (λ (r : ℕ). touches t r q) w ∙ k.y_q)

  -- ---- the rows after
  rest : (r : ℕ) → (r ≡ x → ⊥) → (r ≡ y → ⊥) → SameRow t t' r
  unfolding swapped
  rest r a b = (
    lo_other t₁ y p d r b ∙ lo_other t x q c r a,
    hi_other t₁ y p d r b ∙ hi_other t x q c r a,
  )

  x_same : SameRow t₁ t' x
  unfolding swapped
  x_same = (lo_other t₁ y p d x xy, hi_other t₁ y p d x xy)

  x_row' : Joins t' x q c
  x_row' =
      joins_same t₁ t' x q c x_same.0 x_same.1
      (put_joins t x q c (omega (arith, k.valid.len, k.x_lt)))

  y_row' : Joins t' y p d
  unfolding swapped
  y_row' = put_joins t₁ y p d (omega (arith, len₁, k.y_lt))

  e_row' : Joins t' e p q
  e_row' =
      let r = rest e (λ w. k.xe (sym w)) (λ w. k.ye (sym w)) in
      joins_same t t' e p q r.0 r.1 k.e_row

  pub swapped_rows : NniRows t (swapped t x y p q) e x y p q
  swapped_rows = record {
    e_before = k.e_row;
    e_after = e_row';
    x_before = x_row;
    x_after = x_row';
    y_before = y_row;
    y_after = y_row';
    rest = rest;
  }

  -- ---- the table stays valid
  -- every row has the smaller end first
  ord : (r : ℕ) → r < rows n → (lo t' r < hi t' r) × (hi t' r < nodes n)
  unfolding swapped
  ord r h = go (either (eqb r x)) (either (eqb r y))
    where
      x_at_q : q ≡ c → touches t x q ≡ true
      x_at_q w =
          joins_touch t x q p (joins_flip t x p q (subst (λ (v : ℕ). Joins t x p v) (sym w) x_row))

      y_at_p : p ≡ d → touches t y p ≡ true
      y_at_p w =
          joins_touch t y p q (joins_flip t y q p (subst (λ (v : ℕ). Joins t y q v) (sym w) y_row))

      qc : q ≡ c → ⊥
      qc w = not_both x k.x_lt k.xe k.x_p (x_at_q w)

      pd : p ≡ d → ⊥
      pd w = not_both y k.y_lt k.ye (y_at_p w) k.y_q

      c_lt : c < nodes n
      c_lt = (joins_nodes x k.valid k.x_lt p c x_row).1

      d_lt : d < nodes n
      d_lt = (joins_nodes y k.valid k.y_lt q d y_row).1

      go : Either (eqb r x) → Either (eqb r y) → (lo t' r < hi t' r) × (hi t' r < nodes n)
      go (inl w) u =
          rw (eqb-true r x w) (order_same t₁ t' x (nodes n) x_same
          (put-ordered t x q c (nodes n) (omega (arith, k.valid.len, k.x_lt)) qc
          e_nodes.1 c_lt))
      go (inr w) (inl u) =
          rw (eqb-true r y u)
          (put-ordered t₁ y p d (nodes n) (omega (arith, len₁, k.y_lt)) pd e_nodes.0 d_lt)
      go (inr w) (inr u) =
          let s = rest r (eqb-false r x w) (eqb-false r y u) in
          order_same t t' r (nodes n) s (k.valid.order r h)

  -- every node keeps its number of rows
  degrees : (v : ℕ) → degree n t' v ≡ degree n t v
  unfolding swapped
  degrees v =
      count_deg t' v (rows n) (λ r h. (ord r h).0)
      ∙ deg_nni t x y p q c d v (rows n) (omega (arith, k.valid.len)) k.x_lt
      k.y_lt xy x_row y_row
      ∙ sym (count_deg t v (rows n) (λ r h. (k.valid.order r h).0))

  -- a colour that no row of the new table changes no row of the old one
  -- changes
  flat_back : (h : ℕ → Bool) → FlatAll n t' h → FlatAll n t h
  flat_back h f r l = go (either (eqb r x)) (either (eqb r y))
    where
      across : h p ≡ h q
      across = flat_join t' e p q h e_row' (f e k.e_lt)

      go : Either (eqb r x) → Either (eqb r y) → h (lo t r) ≡ h (hi t r)
      go (inl w) u =
          rw (eqb-true r x w)
          (join_flat t x p c h x_row (across ∙ flat_join t' x q c h x_row' (f x k.x_lt)))
      go (inr w) (inl u) =
          rw (eqb-true r y u)
          (join_flat t y q d h y_row (sym across ∙ flat_join t' y p d h y_row' (f y k.y_lt)))
      go (inr w) (inr u) =
          let s = rest r (eqb-false r x w) (eqb-false r y u) in
          sym (ap h s.0) ∙ f r l ∙ ap h s.1

  pub swapped_valid : Valid n (swapped t x y p q)
  unfolding swapped
  swapped_valid = record {
    big = k.valid.big;
    len = length-put t₁ y p d ∙ len₁;
    order = ord;
    leaf = λ v l. degrees v ∙ k.valid.leaf v l;
    inner = λ v h l. degrees v ∙ k.valid.inner v h l;
    connected = connected_by t t' k.valid.big k.valid.connected
        (λ r h. let w = ord r h in (omega arith, w.1)) flat_back;
  }
