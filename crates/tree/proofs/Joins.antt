-- Row r joins u and v, whichever is the smaller. Assumes nothing.
use mathlib.Core.Path.{◌≡◌, refl, sym, ap, ◌∙◌}
use mathlib.Core.Logic.{◌⊎◌, inl, inr}
use mathlib.Core.Bool.{Bool, true, false, not, ◌||◌}
use mathlib.Core.List.{List}
use Prim.Native.Nat.{ℕ, ◌<◌}
use native.Mathlib.Omega.{arith}
use lib.Dec.{eqb}
use borrow.Author.Tests.{eqb-true, eq-eqb, ne_eqb}
use Rattle.taxa.specs.Sets.{pick}
use Rattle.taxa.proofs.Bools.{or_cases, or_left, or_right, not_swap}
use Rattle.tree.specs.Tree.{lo, hi, rows, nodes, touches, far, Valid}

abbrev pub Joins : List ℕ → ℕ → ℕ → ℕ → Type 0
Joins t r u v = ((lo t r ≡ u) × (hi t r ≡ v)) ⊎ ((lo t r ≡ v) × (hi t r ≡ u))

-- ---- a colour at the ends
module _ (t : List ℕ) (r u v : ℕ) (c : ℕ → Bool) where
  pub join_flat : Joins t r u v → c u ≡ c v → c (lo t r) ≡ c (hi t r)
  join_flat (inl j) h = ap c j.0 ∙ h ∙ sym (ap c j.1)
  join_flat (inr j) h = ap c j.0 ∙ sym h ∙ sym (ap c j.1)

  pub flat_join : Joins t r u v → c (lo t r) ≡ c (hi t r) → c u ≡ c v
  flat_join (inl j) h = sym (ap c j.0) ∙ h ∙ ap c j.1
  flat_join (inr j) h = sym (ap c j.1) ∙ sym h ∙ ap c j.0

  pub join_apart : Joins t r u v → c u ≡ not (c v) → c (lo t r) ≡ not (c (hi t r))
  join_apart (inl j) h = ap c j.0 ∙ h ∙ sym (ap (λ (x : ℕ). not (c x)) j.1)
  join_apart (inr j) h = ap c j.0 ∙ not_swap (c u) (c v) h
      ∙ sym (ap (λ (x : ℕ). not (c x)) j.1)

  pub apart_join : Joins t r u v → c (lo t r) ≡ not (c (hi t r)) → c u ≡ not (c v)
  apart_join (inl j) h = sym (ap c j.0) ∙ h ∙ ap (λ (x : ℕ). not (c x)) j.1
  apart_join (inr j) h = sym (ap c j.1) ∙ not_swap (c (lo t r)) (c (hi t r)) h
      ∙ ap (λ (x : ℕ). not (c x)) j.0

-- ---- from touching to joining and back
pub touch_joins : (t : List ℕ) (r v : ℕ) → touches t r v ≡ true → Joins t r v (far t r v)
unfolding far
touch_joins t r v h = go (eqb (lo t r) v) refl h
  where
    go : (p : Bool) → eqb (lo t r) v ≡ p → (p || eqb (hi t r) v) ≡ true
        → Joins t r v (pick p (hi t r) (lo t r))
    go true e w = inl (eqb-true (lo t r) v e, refl)
    go false e w = inr (refl, eqb-true (hi t r) v w)

pub joins_touch : (t : List ℕ) (r u v : ℕ) → Joins t r u v → touches t r u ≡ true
joins_touch t r u v (inl j) = or_left (eqb (lo t r) u) (eqb (hi t r) u) (eq-eqb (lo t r) u j.0)
joins_touch t r u v (inr j) = or_right (eqb (lo t r) u) (eqb (hi t r) u) (eq-eqb (hi t r) u j.1)

pub lo-touch : (t : List ℕ) (r : ℕ) → touches t r (lo t r) ≡ true
lo-touch t r = joins_touch t r (lo t r) (hi t r) (inl (refl, refl))

pub hi-touch : (t : List ℕ) (r : ℕ) → touches t r (hi t r) ≡ true
hi-touch t r = joins_touch t r (hi t r) (lo t r) (inr (refl, refl))

pub joins_flip : (t : List ℕ) (r u v : ℕ) → Joins t r u v → Joins t r v u
joins_flip t r u v (inl j) = inr j
joins_flip t r u v (inr j) = inl j

pub joins_same : (t t' : List ℕ) (r u v : ℕ) → lo t' r ≡ lo t r → hi t' r ≡ hi t r → Joins t r u v
    → Joins t' r u v
joins_same t t' r u v a b (inl j) = inl (a ∙ j.0, b ∙ j.1)
joins_same t t' r u v a b (inr j) = inr (a ∙ j.0, b ∙ j.1)

pub both_touch : (t : List ℕ) (r u v : ℕ) → (u ≡ v → ⊥) → touches t r u ≡ true
    → touches t r v ≡ true → Joins t r u v
both_touch t r u v d a b =
    go (or_cases (eqb (lo t r) u) (eqb (hi t r) u) a) (or_cases (eqb (lo t r) v) (eqb (hi t r) v) b)
  where
    go : (eqb (lo t r) u ≡ true) ⊎ (eqb (hi t r) u ≡ true)
        → (eqb (lo t r) v ≡ true) ⊎ (eqb (hi t r) v ≡ true) → Joins t r u v
    go (inl g) (inl h) = absurd (d (sym (eqb-true (lo t r) u g) ∙ eqb-true (lo t r) v h))
    go (inl g) (inr h) = inl (eqb-true (lo t r) u g, eqb-true (hi t r) v h)
    go (inr g) (inl h) = inr (eqb-true (lo t r) v h, eqb-true (hi t r) u g)
    go (inr g) (inr h) = absurd (d (sym (eqb-true (hi t r) u g) ∙ eqb-true (hi t r) v h))

pub not_touch : (t : List ℕ) (r w : ℕ) → (touches t r w ≡ true → ⊥)
    → (w ≡ lo t r → ⊥) × (w ≡ hi t r → ⊥)
not_touch t r w h = (
  λ d. h (joins_touch t r w (hi t r) (inl (sym d, refl))),
  λ d. h (joins_touch t r w (lo t r) (inr (refl, sym d))),
)

pub joins_not : (t : List ℕ) (r u v w : ℕ) → Joins t r u v → (w ≡ u → ⊥) → (w ≡ v → ⊥)
    → (w ≡ lo t r → ⊥) × (w ≡ hi t r → ⊥)
joins_not t r u v w (inl j) a b = (λ e. a (e ∙ j.0), λ e. b (e ∙ j.1))
joins_not t r u v w (inr j) a b = (λ e. b (e ∙ j.0), λ e. a (e ∙ j.1))

-- ---- the other end
pub far-is : (t : List ℕ) (r u v : ℕ) → Joins t r u v → (u ≡ v → ⊥) → far t r u ≡ v
unfolding far
far-is t r u v (inl j) d = ap (λ (x : Bool). pick x (hi t r) (lo t r)) (eq-eqb (lo t r) u j.0)
    ∙ j.1
far-is t r u v (inr j) d =
    ap (λ (x : Bool). pick x (hi t r) (lo t r)) (ne_eqb (lo t r) u (λ w. d (sym w ∙ j.0))) ∙ j.0

-- ---- orders of the ends
pub joins_ne : (t : List ℕ) (r u v : ℕ) → lo t r < hi t r → Joins t r u v → u ≡ v → ⊥
joins_ne t r u v h (inl j) e = omega (arith, j.0, j.1)
joins_ne t r u v h (inr j) e = omega (arith, j.0, j.1)

pub joins_lt : (t : List ℕ) (r u v k : ℕ) → lo t r < hi t r → hi t r < k → Joins t r u v
    → (u < k) × (v < k)
joins_lt t r u v k h l (inl j) = (omega (arith, j.0, j.1), omega (arith, j.0, j.1))
joins_lt t r u v k h l (inr j) = (omega (arith, j.0, j.1), omega (arith, j.0, j.1))

pub lt_joins : (t : List ℕ) (r u v k : ℕ) → Joins t r u v → u < k → v < k
    → (lo t r < k) × (hi t r < k)
lt_joins t r u v k (inl j) a b = (omega (arith, j.0, j.1), omega (arith, j.0, j.1))
lt_joins t r u v k (inr j) a b = (omega (arith, j.0, j.1), omega (arith, j.0, j.1))

-- ---- the same in a valid table
module _ {n : ℕ} {t : List ℕ} (r : ℕ) (vt : Valid n t) (lr : r < rows n) where
  pub far-lo : far t r (lo t r) ≡ hi t r
  far-lo = far-is t r (lo t r) (hi t r) (inl (refl, refl)) (λ d. omega (arith, (vt.order r lr).0))

  pub far-hi : far t r (hi t r) ≡ lo t r
  far-hi = far-is t r (hi t r) (lo t r) (inr (refl, refl)) (λ d. omega (arith, (vt.order r lr).0))

  pub joins_nodes : (u v : ℕ) → Joins t r u v → (u < nodes n) × (v < nodes n)
  joins_nodes u v j = joins_lt t r u v (nodes n) (vt.order r lr).0 (vt.order r lr).1 j

  pub joins_differ : (u v : ℕ) → Joins t r u v → u ≡ v → ⊥
  joins_differ u v j = joins_ne t r u v (vt.order r lr).0 j

  pub touch-node : (v : ℕ) → touches t r v ≡ true → v < nodes n
  touch-node v h = (joins_nodes v (far t r v) (touch_joins t r v h)).0
