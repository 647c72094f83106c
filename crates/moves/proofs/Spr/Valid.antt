-- The end p of row a put onto row b, on p's side of a: what is connected stays
-- connected, every node keeps its number of rows, and the table stays valid.
-- Assumes nothing.
use mathlib.Core.Path.{◌≡◌, refl, sym, ap, ap₂, ◌∙◌}
use mathlib.Core.Logic.{inl, inr}
use mathlib.Core.Bool.{Bool, true, false, ◌||◌, or-true}
use mathlib.Core.List.{List}
use Prim.Native.Nat.{ℕ, ◌<◌}
use native.Mathlib.Omega.{arith}
use lib.Dec.{eqb}
use borrow.Author.Tests.{eqb-true, eqb-false, eq-eqb, ne_eqb}
use Rattle.taxa.specs.Sets.{pick, has}
use Rattle.taxa.proofs.Bools.{Either, either}
use Rattle.tree.specs.Tree.{lo, hi, rows, far, degree, part, Connected, Valid}
use Rattle.tree.proofs.Rounds.{part_start}
use Rattle.tree.proofs.Joins.{join_flat, flat_join}
use Rattle.tree.proofs.Bridges.{Table}
use Rattle.tree.proofs.Colourings.{FlatAll, one_colour, connected_by, valid-table}
use Rattle.tree.proofs.RowCounts.{Pair}
use Rattle.tree.proofs.Forks.{Fork}
use Rattle.moves.specs.Moves.{move_end}
use Rattle.moves.proofs.Rows.Degrees.{count_deg, deg_move}
use Rattle.moves.proofs.Spr.Rows.{EndFits, end_rows, move_end_eq, after, after-len}
use Rattle.moves.proofs.Spr.Rows.{after-order, fork, bf, bg, rest, f_row, b_row, g_row, h_M}

pick_same : (w : Bool) (u v : Bool) → v ≡ u → pick w u v ≡ u
pick_same true u v h = refl
pick_same false u v h = h

-- ---- the end p of row a put onto row b, with f and g the two other rows at p
module _ {n : ℕ} {t : List ℕ} {p a b f g : ℕ} (k : EndFits n t p a b) (q : Pair n t a p f g) where
  -- the table after, the far ends of a, f and g, and the part that is moved
  abbrev t' : List ℕ
  t' = after k q

  abbrev o : ℕ
  o = far t a p

  abbrev r : ℕ
  r = far t f p

  abbrev s : ℕ
  s = far t g p

  abbrev M : ℕ
  M = part n t a o

  tab : Table n t
  tab = valid-table k.valid

  abbrev F : Fork n t p a f g o r s
  F = fork k q

  -- ---- what is connected stays connected
  -- p is at no end of b
  not_b : (p ≡ lo t b → ⊥) × (p ≡ hi t b → ⊥)
  not_b = F.only b k.b_lt k.ba (bf k q) (bg k q)

  -- a colour that no row of t' changes
  module _ (c : ℕ → Bool) (flat : FlatAll n t' c) where
    -- the colour of r for p and for what is moved
    d : ℕ → Bool
    d i = pick (has M i || eqb p i) (c r) (c i)

    c_rs : c r ≡ c s
    c_rs = flat_join t' f r s c (f_row k q) (flat f F.x_lt)

    c_lo : c (lo t b) ≡ c p
    c_lo = flat_join t' b (lo t b) p c (b_row k q) (flat b k.b_lt)

    c_hi : c p ≡ c (hi t b)
    c_hi = flat_join t' g p (hi t b) c (g_row k q) (flat g F.f_lt)

    d_p : d p ≡ c r
    unfolding d
    d_p =
        let in_set : (has M p || eqb p p) ≡ true
        = ap (λ (x : Bool). has M p || x) (eq-eqb p p refl) ∙ or-true (has M p) in
        ap (λ (x : Bool). pick x (c r) (c p)) in_set

    d_r : d r ≡ c r
    unfolding d
    d_r = pick_same (has M r || eqb p r) (c r) (c r) refl

    d_s : d s ≡ c r
    unfolding d
    d_s = pick_same (has M s || eqb p s) (c r) (c s) (sym c_rs)

    d_in : (i : ℕ) → has M i ≡ true → d i ≡ c r
    unfolding d
    d_in i h = ap (λ (x : Bool). pick (x || eqb p i) (c r) (c i)) h

    d_out : (i : ℕ) → has M i ≡ false → (p ≡ i → ⊥) → d i ≡ c i
    unfolding d
    d_out i h l = ap₂ (λ (x y : Bool). pick (x || y) (c r) (c i)) h (ne_eqb p i l)

    -- a row of t that stays, and is not a
    d_stays : (j : ℕ) → j < rows n → (j ≡ a → ⊥) → (j ≡ b → ⊥) → (j ≡ f → ⊥) → (j ≡ g → ⊥)
        → d (lo t j) ≡ d (hi t j)
    d_stays j h ja jb jf jg = go (either (has M (lo t j)))
      where
        not_p : (p ≡ lo t j → ⊥) × (p ≡ hi t j → ⊥)
        not_p = F.only j h ja jf jg

        across : has M (lo t j) ≡ has M (hi t j)
        across = (h_M k q).parts.closed j h ja

        go : Either (has M (lo t j)) → d (lo t j) ≡ d (hi t j)
        go (inl m) = d_in (lo t j) m ∙ sym (d_in (hi t j) (sym across ∙ m))
        go (inr m) =
            let u = rest k q j jb jf jg in
            d_out (lo t j) m not_p.0
            ∙ sym (ap c u.0) ∙ flat j h ∙ ap c u.1
            ∙ sym (d_out (hi t j) (sym across ∙ m) not_p.1)

    -- so no row of t changes d
    d_flat : FlatAll n t d
    d_flat j h = go (either (eqb j a)) (either (eqb j f)) (either (eqb j g)) (either (eqb j b))
      where
        hi-out : has M (hi t b) ≡ false
        hi-out = sym ((h_M k q).parts.closed b k.b_lt k.ba) ∙ k.b_out

        go : Either (eqb j a) → Either (eqb j f) → Either (eqb j g) → Either (eqb j b)
            → d (lo t j) ≡ d (hi t j)
        go (inl w) x y z =
            rw (eqb-true j a w)
            (join_flat t a p o d F.e_row (d_p ∙ sym (d_in o (part_start n t a o))))
        go (inr w) (inl x) y z =
            rw (eqb-true j f x) (join_flat t f p r d F.x_row (d_p ∙ sym d_r))
        go (inr w) (inr x) (inl y) z =
            rw (eqb-true j g y) (join_flat t g p s d F.f_row (d_p ∙ sym d_s))
        go (inr w) (inr x) (inr y) (inl z) =
            rw (eqb-true j b z) (
            d_out (lo t b) k.b_out not_b.0
            ∙ c_lo ∙ c_hi
            ∙ sym (d_out (hi t b) hi-out not_b.1))
        go (inr w) (inr x) (inr y) (inr z) =
            d_stays j h (eqb-false j a w) (eqb-false j b z) (eqb-false j f x) (eqb-false j g y)

    -- so p has r's colour
    c_pr : c p ≡ c r
    c_pr =
        let lo_lt = (tab.ends b k.b_lt).0 in
        sym c_lo
        ∙ sym (d_out (lo t b) k.b_out not_b.0)
        ∙ one_colour d tab.connected d_flat (lo t b) p lo_lt F.p_lt
        ∙ d_p

    flat_back : FlatAll n t c
    flat_back j h = go (either (eqb j f)) (either (eqb j g)) (either (eqb j b))
      where
        go : Either (eqb j f) → Either (eqb j g) → Either (eqb j b) → c (lo t j) ≡ c (hi t j)
        go (inl x) y z = rw (eqb-true j f x) (join_flat t f p r c F.x_row c_pr)
        go (inr x) (inl y) z =
            rw (eqb-true j g y) (join_flat t g p s c F.f_row (c_pr ∙ c_rs))
        go (inr x) (inr y) (inl z) = rw (eqb-true j b z) (c_lo ∙ c_hi)
        go (inr x) (inr y) (inr z) =
            let u = rest k q j (eqb-false j b z) (eqb-false j f x) (eqb-false j g y) in
            sym (ap c u.0) ∙ flat j h ∙ ap c u.1

  after-connected : Connected n t'
  after-connected =
      connected_by t t' k.valid.big k.valid.connected
      (λ j h. let w = after-order k q j h in (omega arith, w.1)) flat_back

  -- ---- every node keeps its number of rows
  pub degrees : (v : ℕ) → degree n (after k q) v ≡ degree n t v
  unfolding after
  degrees v =
      count_deg t' v (rows n) (λ j h. (after-order k q j h).0)
      ∙ deg_move t f g b p r s v (rows n) (omega (arith, k.valid.len))
      q.f_lt q.g_lt k.b_lt
      (λ w. omega (arith, q.fg)) (λ w. bf k q (sym w)) (λ w. bg k q (sym w))
      F.x_row F.f_row
      ∙ sym (count_deg t v (rows n) (λ j h. (k.valid.order j h).0))

  -- ---- so the table stays valid
  pub after-valid : Valid n (after k q)
  after-valid = record {
    big = k.valid.big;
    len = after-len k q;
    order = after-order k q;
    inner = λ v h l. degrees v ∙ k.valid.inner v h l;
    leaf = λ v l. degrees v ∙ k.valid.leaf v l;
    connected = after-connected;
  }

pub move_end-valid : {n : ℕ} {t : List ℕ} {p a b : ℕ}
    → EndFits n t p a b
    → Valid n (move_end n t p a b)
unfolding after
move_end-valid {n} {t} {p} {a} {b} k =
    let w = end_rows k in
    rw (move_end_eq n t p a b w.0 w.1 w.2.list) (after-valid k w.2)
