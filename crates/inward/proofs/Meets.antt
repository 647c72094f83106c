-- The three rows at a node, mixed: which they are, one of them put at the head,
-- and what is left where two were taken out. Assumes nothing.
use mathlib.Core.Path.{◌≡◌, ◌∙◌}
use mathlib.Core.Logic.{◌⊎◌, inl, inr}
use mathlib.Core.Bool.{Bool, true}
use mathlib.Core.List.{List}
use Prim.Native.Nat.{ℕ, suc, ◌<◌}
use native.Mathlib.Omega.{arith}
use lib.Bits.{bit_xor}
use lib.Dec.{eqb}
use borrow.Author.Tests.{eqb-true, eqb-false}
use Rattle.taxa.proofs.Bools.{Either, either}
use Rattle.tree.specs.Tree.{rows, touches, count, degree}
use Rattle.tree.proofs.RowCounts.{but, but_other, but_true, count-drop, count_find, count_none}
use Rattle.node_rows.specs.Between.{free, Meet}
use Rattle.node_rows.proofs.NearLaws.{meet_swap, meet_turn}
use Rattle.inward.specs.Search.{mix_of, mix2, mix3}
use Rattle.inward.proofs.Mixes.{mix_swap, mix_turn, mix_second, mix_third, mix_drop}
use Rattle.inward.proofs.Mixes.{mix_none}

-- what is none other than three is one of them
one_of : {x y z r : ℕ} → ((r ≡ x → ⊥) → (r ≡ y → ⊥) → (r ≡ z → ⊥) → ⊥)
    → (r ≡ x) ⊎ ((r ≡ y) ⊎ (r ≡ z))
one_of {x} {y} {z} {r} h = go (either (eqb r x)) (either (eqb r y)) (either (eqb r z))
  where
    go : Either (eqb r x) → Either (eqb r y) → Either (eqb r z) → (r ≡ x) ⊎ ((r ≡ y) ⊎ (r ≡ z))
    go (inl a) b c = inl (eqb-true r x a)
    go (inr a) (inl b) c = inr (inl (eqb-true r y b))
    go (inr a) (inr b) (inl c) = inr (inr (eqb-true r z c))
    go (inr a) (inr b) (inr c) = absurd (h (eqb-false r x a) (eqb-false r y b) (eqb-false r z c))

-- one of the numbers that pass a test, taken out
mix_find : (P : ℕ → Bool) (k m : ℕ) → count P k ≡ suc m
    → (e : ℕ) × (e < k) × (P e ≡ true) × (count (but P e) k ≡ m)
    × (mix_of P k ≡ bit_xor (mix_of (but P e) k) e)
mix_find P k m h =
    let (e, l, p) = count_find P k (omega arith) in
    (e, l, p, omega (arith, count-drop P e k p l), mix_drop P e k p l)

-- a node at three rows: they are taken out one after the other
pub meet-mixed : {n u : ℕ} {t : List ℕ} → degree n t u ≡ 3
    → (x y z : ℕ) × Meet n t u x y z × (mix_of (λ r. touches t r u) (rows n) ≡ mix3 x y z)
meet-mixed {n} {u} {t} d =
    let P : ℕ → Bool = λ r. touches t r u in
    let (z, z_lt, z_at, two, mz) = mix_find P (rows n) 2 d in
    let (y, y_lt, y-in, one, my) = mix_find (but P z) (rows n) 1 two in
    let (x, x_lt, x-in, none, mx) = mix_find (but (but P z) y) (rows n) 0 one in
    let (y_at, yz) = but_true P z y y-in in
    let (x-in', xy) = but_true (but P z) y x x-in in
    let (x_at, xz) = but_true P z x x-in' in (
      x,
      y,
      z,
      record {
        x_lt = x_lt;
        y_lt = y_lt;
        z_lt = z_lt;
        x_at = x_at;
        y_at = y_at;
        z_at = z_at;
        xy = xy;
        xz = xz;
        yz = yz;
        only = λ r l p. one_of (λ a b c. count_none (but (but (but P z) y) x) (rows n) none r l
            (but_other (but (but P z) y) x r a ∙ but_other (but P z) y r b ∙ but_other P z r c
            ∙ p));
      },
      rw (mz, my, mx, mix_none (but (but (but P z) y) x) (rows n) none),
    )

-- ---- a row at such a node
module _ {n u x y z r : ℕ} {t : List ℕ} (M : Meet n t u x y z) (lr : r < rows n)
    (tr : touches t r u ≡ true) where
  -- put at the head
  pub meet_head : (p q : ℕ) × Meet n t u r p q × (mix3 x y z ≡ mix3 r p q)
  meet_head = go (M.only r lr tr)
    where
      go : (r ≡ x) ⊎ ((r ≡ y) ⊎ (r ≡ z))
          → (p q : ℕ) × Meet n t u r p q × (mix3 x y z ≡ mix3 r p q)
      go (inl d) = (y, z, rw d M, rw d)
      go (inr (inl d)) = (x, z, rw d (meet_swap M), rw d (mix_swap x y z))
      go (inr (inr d)) = (x, y, rw d (meet_turn M), rw d (mix_turn x y z))

  -- other than x, it leaves the third one
  pub meet_left : (r ≡ x → ⊥) → Meet n t u (bit_xor (bit_xor (mix2 y z) r) free) x r
  meet_left ne = go (M.only r lr tr)
    where
      go : (r ≡ x) ⊎ ((r ≡ y) ⊎ (r ≡ z)) → Meet n t u (bit_xor (bit_xor (mix2 y z) r) free) x r
      go (inl d) = absurd (ne d)
      go (inr (inl d)) = rw (d, mix_second y z) (meet_turn M)
      go (inr (inr d)) = rw (d, mix_third y z) (meet_swap M)

-- the two others at it
pub meet-from : {n u r : ℕ} {t : List ℕ} → degree n t u ≡ 3 → r < rows n → touches t r u ≡ true
    → (p q : ℕ) × Meet n t u r p q
meet-from d lr tr =
    let (x, y, z, M, e) = meet-mixed d in
    let (p, q, H, f) = meet_head M lr tr in
    (p, q, H)
