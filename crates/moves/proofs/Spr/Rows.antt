-- The end p of row a put onto row b: which ends the rows have afterwards.
-- Assumes nothing.
use mathlib.Core.Path.{◌≡◌, refl, sym, ap, ◌∙◌, subst}
use mathlib.Core.Logic.{inl, inr}
use mathlib.Core.Bool.{true, false}
use mathlib.Core.List.{List, [], ◌∷◌}
use Prim.Native.Nat.{ℕ, ◌*◌, ◌≤◌, ◌<◌}
use native.Mathlib.Omega.{arith}
use lib.Dec.{eqb}
use lib.ListN.{length}
use borrow.Author.Tests.{eqb-true, eqb-false}
use Rattle.taxa.specs.Sets.{has}
use Rattle.taxa.proofs.Bools.{Either, either}
use Rattle.tree.specs.Tree.{lo, hi, rows, nodes, touches, far, others, part, Valid}
use Rattle.tree.proofs.Joins.{Joins, joins_same, joins_nodes, not_touch, touch-node}
use Rattle.tree.proofs.Colourings.{Hangs, hangs, parallel, valid-table}
use Rattle.tree.proofs.RowCounts.{Pair, pair}
use Rattle.tree.proofs.Forks.{Fork, fork_of}
use Rattle.moves.specs.Moves.{put, move_end}
use Rattle.moves.proofs.Rows.Ends.{SameRow}
use Rattle.moves.proofs.Rows.Puts.{length-put, put_joins, put-ordered}
use Rattle.moves.proofs.Rows.Puts.{order_same, lo_other, hi_other}

-- ---- the rows fit: p is an end of a, b lies on p's side of a and does not
-- touch p
pub record EndFits (n : ℕ) (t : List ℕ) (p a b : ℕ) : Type 0 where
  pub valid : Valid n t
  pub a_lt : a < rows n
  pub b_lt : b < rows n
  pub a_p : touches t a p ≡ true
  pub inner : n ≤ p
  pub ba : b ≡ a → ⊥
  pub b_p : touches t b p ≡ true → ⊥
  pub b_out : has (part n t a (far t a p)) (lo t b) ≡ false

-- the two other rows at p
pub end_rows : {n : ℕ} {t : List ℕ} {p a b : ℕ} → EndFits n t p a b → (f g : ℕ) × Pair n t a p f g
end_rows {n} {t} {p} {a} k =
    pair a p k.valid k.a_lt k.a_p k.inner (touch-node a k.valid k.a_lt p k.a_p)

-- f and g are the two other rows at p
pub move_end_eq : (n : ℕ) (t : List ℕ) (p a b f g : ℕ) → others t a p (rows n) ≡ f ∷ g ∷ []
    → move_end n t p a b ≡ put (put (put t f (far t f p) (far t g p)) b (lo t b) p) g p (hi t b)
unfolding move_end
move_end_eq n t p a b f g h = rw h

module _ {n : ℕ} {t : List ℕ} {p a b f g : ℕ} (k : EndFits n t p a b) (q : Pair n t a p f g) where
  -- the table after
  unfoldable pub after : List ℕ
  after = put (put (put t f (far t f p) (far t g p)) b (lo t b) p) g p (hi t b)

  -- the far ends of f and g
  abbrev r : ℕ
  r = far t f p

  abbrev s : ℕ
  s = far t g p

  pub fork : Fork n t p a f g (far t a p) r s
  fork = fork_of k.valid k.a_lt k.a_p k.inner q

  pub bf : b ≡ f → ⊥
  bf w = k.b_p (ap (λ (x : ℕ). touches t x p) w ∙ q.f_p)

  pub bg : b ≡ g → ⊥
  bg w = k.b_p (ap (λ (x : ℕ). touches t x p) w ∙ q.g_p)

  fg : f ≡ g → ⊥
  fg w = omega (arith, q.fg)

  t₁ : List ℕ
  t₁ = put t f r s

  t₂ : List ℕ
  t₂ = put t₁ b (lo t b) p

  len₁ : length t₁ ≡ 2 * rows n
  unfolding t₁
  len₁ = length-put t f r s ∙ k.valid.len

  len₂ : length t₂ ≡ 2 * rows n
  unfolding t₂
  len₂ = length-put t₁ b (lo t b) p ∙ len₁

  after_is : after ≡ put t₂ g p (hi t b)
  unfolding after t₂ t₁
  after_is = refl

  pub after-len : length after ≡ 2 * rows n
  after-len = ap length after_is ∙ length-put t₂ g p (hi t b) ∙ len₂

  -- every row but b, f and g keeps both its ends
  pub rest : (j : ℕ) → (j ≡ b → ⊥) → (j ≡ f → ⊥) → (j ≡ g → ⊥) → SameRow t after j
  unfolding after t₂ t₁
  rest j jb jf jg = (
    lo_other t₂ g p (hi t b) j jg ∙ lo_other t₁ b (lo t b) p j jb ∙ lo_other t f r s j jf,
    hi_other t₂ g p (hi t b) j jg ∙ hi_other t₁ b (lo t b) p j jb ∙ hi_other t f r s j jf,
  )

  -- which ends those three have
  pub g_row : Joins after g p (hi t b)
  unfolding after t₂ t₁
  g_row = put_joins t₂ g p (hi t b) (omega (arith, len₂, q.g_lt))

  -- b is as after the second is put
  b_same : SameRow t₂ after b
  unfolding after t₂ t₁
  b_same = (lo_other t₂ g p (hi t b) b bg, hi_other t₂ g p (hi t b) b bg)

  pub b_row : Joins after b (lo t b) p
  unfolding t₂ t₁
  b_row =
      joins_same t₂ after b (lo t b) p b_same.0 b_same.1
      (put_joins t₁ b (lo t b) p (omega (arith, len₁, k.b_lt)))

  -- f is as after the first row is put
  f_same : SameRow t₁ after f
  unfolding after t₂ t₁
  f_same = (
    lo_other t₂ g p (hi t b) f fg ∙ lo_other t₁ b (lo t b) p f (λ w. bf (sym w)),
    hi_other t₂ g p (hi t b) f fg ∙ hi_other t₁ b (lo t b) p f (λ w. bf (sym w)),
  )

  pub f_row : Joins after f r s
  unfolding t₁
  f_row =
      joins_same t₁ after f r s f_same.0 f_same.1
      (put_joins t f r s (omega (arith, k.valid.len, q.f_lt)))

  -- the ends that f gets differ
  pub rs : r ≡ s → ⊥
  rs w =
      parallel f g p r k.valid q.f_lt q.g_lt (λ e. fg (sym e)) fork.x_row
      (subst (λ (x : ℕ). Joins t g p x) (sym w) fork.f_row)

  not_p : (p ≡ lo t b → ⊥) × (p ≡ hi t b → ⊥)
  not_p = not_touch t b p k.b_p

  r_lt : r < nodes n
  r_lt = (joins_nodes f k.valid q.f_lt p r fork.x_row).1

  s_lt : s < nodes n
  s_lt = (joins_nodes g k.valid q.g_lt p s fork.f_row).1

  -- every row has the smaller end first
  pub after-order : (j : ℕ) → j < rows n → (lo after j < hi after j) × (hi after j < nodes n)
  unfolding after t₂ t₁
  after-order j h = go (either (eqb j f)) (either (eqb j g)) (either (eqb j b))
    where
      go : Either (eqb j f) → Either (eqb j g) → Either (eqb j b)
          → (lo after j < hi after j) × (hi after j < nodes n)
      go (inl x) y z =
          rw (eqb-true j f x) (order_same t₁ after f (nodes n) f_same
          (put-ordered t f r s (nodes n) (omega (arith, k.valid.len, q.f_lt)) rs r_lt s_lt))
      go (inr x) (inl y) z =
          let hi_lt = (k.valid.order b k.b_lt).1 in
          rw (eqb-true j g y)
          (put-ordered t₂ g p (hi t b) (nodes n) (omega (arith, len₂, q.g_lt)) not_p.1
          fork.p_lt hi_lt)
      go (inr x) (inr y) (inl z) =
          let lo_lt = ((valid-table k.valid).ends b k.b_lt).0 in
          rw (eqb-true j b z) (order_same t₂ after b (nodes n) b_same
          (put-ordered t₁ b (lo t b) p (nodes n) (omega (arith, len₁, k.b_lt))
          (λ w. not_p.0 (sym w)) lo_lt fork.p_lt))
      go (inr x) (inr y) (inr z) =
          let w = rest j (eqb-false j b z) (eqb-false j f x) (eqb-false j g y) in
          order_same t after j (nodes n) w (k.valid.order j h)

  -- the part that is moved
  pub h_M : Hangs n t a p (part n t a (far t a p))
  h_M = hangs a p (far t a p) k.valid k.a_lt fork.e_row
