-- How many members a set has below k. Assumes nothing.
use mathlib.Core.Path.{◌≡◌, refl, sym, ap, ap₂, ◌∙◌}
use mathlib.Core.Logic.{◌⊎◌, inl, inr}
use mathlib.Core.Bool.{Bool, true, false, not, ◌&&◌, ◌||◌, false≢true, or-true, or-false}
use Prim.Native.Nat.{ℕ, zero, suc, ◌+◌, ◌^◌, ◌≤◌, ◌<◌, zero-le}
use native.Mathlib.Nat.{le_refl}
use native.Mathlib.Decide.{le_ind}
use native.Mathlib.Omega.{arith}
use lib.Bits.{bit_and}
use lib.Dec.{eqb}
use borrow.Author.Tests.{eqb-true, eqb-false, ne_eqb, eq-eqb}
use Rattle.taxa.specs.Sets.{has, add, less, tally, size, Sub}
use Rattle.taxa.proofs.Bools.{either, bool_eq}
use Rattle.taxa.proofs.Sets.{has_and, has-add, has-less, has-none}
use Rattle.taxa.proofs.Sets.{has_pow, has_below, ext, ext_below, sub_lt}

pub tally_le : (p q : Bool) → (p ≡ true → q ≡ true) → tally p ≤ tally q
tally_le true true h = le_refl 1
tally_le true false h = absurd (false≢true (h refl))
tally_le false q h = zero-le

pub tally_one : (p : Bool) → tally p ≤ 1
tally_one true = le_refl 1
tally_one false = zero-le

pub tally_inj : (p q : Bool) → tally p ≡ tally q → p ≡ q
tally_inj true true h = refl
tally_inj true false h = absurd (omega arith)
tally_inj false true h = absurd (omega arith)
tally_inj false false h = refl

pub sub_refl : (a : ℕ) → Sub a a
unfolding Sub
sub_refl a i p = p

pub sub_trans : (a b c : ℕ) → Sub a b → Sub b c → Sub a c
unfolding Sub
sub_trans a b c h l i p = l i (h i p)

pub sub_antisymm : (a b : ℕ) → Sub a b → Sub b a → a ≡ b
unfolding Sub
sub_antisymm a b h l = ext a b (λ i. bool_eq (has a i) (has b i) (h i) (l i))

pub size_le : (k s : ℕ) → size k s ≤ k
unfolding size
size_le zero s = le_refl 0
size_le (suc k) s = omega (arith, size_le k s, tally_one (has s k))

pub size_sub : (k a b : ℕ) → Sub a b → size k a ≤ size k b
unfolding size Sub
size_sub zero a b h = le_refl 0
size_sub (suc k) a b h = omega (arith, tally_le (has a k) (has b k) (h k), size_sub k a b h)

-- a subset of the same size is the same
pub size_same : (k a b : ℕ) → Sub a b → size k b ≤ size k a → (i : ℕ) → i < k → has a i ≡ has b i
unfolding size Sub
size_same zero a b h e i l = absurd (omega arith)
size_same (suc k) a b h e i l =
    go (λ l'. size_same k a b h (omega (arith, tally_le (has a k) (has b k) (h k))) i l')
    (either (eqb i k))
  where
    go : (i < k → has a i ≡ has b i) → (eqb i k ≡ true) ⊎ (eqb i k ≡ false) → has a i ≡ has b i
    go ih (inl q) = rw (eqb-true i k q)
        (tally_inj (has a k) (has b k)
        (omega (arith, tally_le (has a k) (has b k) (h k), size_sub k a b h)))
    go ih (inr q) = ih (lib.Arith.lt_of_le-ne (omega arith) (eqb-false i k q))

pub size-all : (k s : ℕ) → ((i : ℕ) → i < k → has s i ≡ true) → size k s ≡ k
unfolding size
size-all zero s h = refl
size-all (suc k) s h = rw (h k (le_refl (suc k)))
    (omega (arith, size-all k s (λ i l. h i (omega arith))))

size_above : (k s i : ℕ) → k ≤ i → size k (add s i) ≡ size k s
unfolding size
size_above zero s i h = refl
size_above (suc k) s i h =
    ap₂ (λ (p : Bool) (n : ℕ). tally p + n)
    (has-add s i k ∙ ap (λ (q : Bool). has s k || q) (ne_eqb i k (λ e. omega arith))
    ∙ or-false (has s k))
    (size_above k s i (omega arith))

-- one more member at most
pub size-add : (k s i : ℕ) → size k (add s i) ≤ suc (size k s)
unfolding size
size-add zero s i = zero-le
size-add (suc k) s i = go (size-add k s i) (either (eqb i k))
  where
    go : size k (add s i) ≤ suc (size k s) → (eqb i k ≡ true) ⊎ (eqb i k ≡ false)
        → tally (has (add s i) k) + size k (add s i) ≤ suc (tally (has s k) + size k s)
    go ih (inl q) = omega (
      arith,
      eqb-true i k q,
      tally_one (has (add s i) k),
      size_above k s i (omega (arith, eqb-true i k q)),
    )
    go ih (inr q) = rw (has-add s i k, q, or-false (has s k)) (omega arith)

-- a member adds nothing
pub add_in : (s i : ℕ) → has s i ≡ true → add s i ≡ s
add_in s i p = ext (add s i) s (λ j. has-add s i j ∙ go j (either (eqb i j)))
  where
    go : (j : ℕ) → (eqb i j ≡ true) ⊎ (eqb i j ≡ false) → (has s j || eqb i j) ≡ has s j
    go j (inl q) = rw (q, or-true (has s j)) (sym (ap (has s) (sym (eqb-true i j q)) ∙ p))
    go j (inr q) = rw (q, or-false (has s j))

pub sub_add : (s i : ℕ) → Sub s (add s i)
unfolding Sub
sub_add s i j p = has-add s i j ∙ ap (λ (b : Bool). b || eqb i j) p

pub add-has : (s i : ℕ) → has (add s i) i ≡ true
add-has s i = has-add s i i ∙ ap (λ (b : Bool). has s i || b) (eq-eqb i i refl) ∙ or-true (has s i)

pub size_none : (k : ℕ) → size k 0 ≡ 0
unfolding size
size_none zero = refl
size_none (suc k) = rw (has-none k, size_none k)

add_none : (v : ℕ) → add 0 v ≡ 2 ^ v
unfolding add
add_none v = refl

pub size-only : (k v : ℕ) → size k (2 ^ v) ≤ 1
size-only k v = rw (← add_none v) (omega (arith, size-add k 0 v, size_none k))

pub size_pos : (k s i : ℕ) → i < k → has s i ≡ true → 0 < size k s
unfolding size
size_pos zero s i h p = absurd (omega arith)
size_pos (suc k) s i h p = go (λ l. size_pos k s i l p) (either (eqb i k))
  where
    go : (i < k → 0 < size k s) → (eqb i k ≡ true) ⊎ (eqb i k ≡ false)
        → 0 < tally (has s k) + size k s
    go ih (inl w) = let p' : has s k ≡ true = ap (has s) (sym (eqb-true i k w)) ∙ p in
        rw p' (omega arith)
    go ih (inr w) = omega (arith, ih (lib.Arith.lt_of_le-ne (omega arith) (eqb-false i k w)))

-- ---- where only the members below k count
pub size_sub_below : (k a b : ℕ) → ((j : ℕ) → j < k → has a j ≡ true → has b j ≡ true)
    → size k a ≤ size k b
unfolding size
size_sub_below zero a b h = le_refl 0
size_sub_below (suc k) a b h =
    omega (
      arith,
      tally_le (has a k) (has b k) (h k (le_refl (suc k))),
      size_sub_below k a b (λ j l. h j (omega arith)),
    )

-- a set that lacks a member of a larger one is smaller
pub size_less : (k a b i : ℕ) → ((j : ℕ) → j < k → has a j ≡ true → has b j ≡ true) → i < k
    → has a i ≡ false → has b i ≡ true → size k a < size k b
unfolding size
size_less zero a b i h l p q = absurd (omega arith)
size_less (suc k) a b i h l p q =
    go (λ l'. size_less k a b i (λ j m. h j (omega arith)) l' p q) (either (eqb i k))
  where
    here : tally (has a k) ≤ tally (has b k)
    here = tally_le (has a k) (has b k) (h k (le_refl (suc k)))

    below : size k a ≤ size k b
    below = size_sub_below k a b (λ j m. h j (omega arith))

    go : (i < k → size k a < size k b) → (eqb i k ≡ true) ⊎ (eqb i k ≡ false)
        → tally (has a k) + size k a < tally (has b k) + size k b
    go ih (inl w) =
        let e₁ : has a k ≡ false = ap (has a) (sym (eqb-true i k w)) ∙ p in
        let e₂ : has b k ≡ true = ap (has b) (sym (eqb-true i k w)) ∙ q in
        rw (e₁, e₂) (omega (arith, below))
    go ih (inr w) = omega (arith, here, ih (lib.Arith.lt_of_le-ne (omega arith) (eqb-false i k w)))

-- beyond the members nothing is counted
pub size-wide : (n w s : ℕ) → n ≤ w → ((i : ℕ) → has s i ≡ true → i < n)
    → size w s ≡ size n s
unfolding size
size-wide n w s h below =
    le_ind (λ (k : ℕ). size k s ≡ size n s) refl
    (λ m l ih. omega (arith, ih, ap tally (none m l (either (has s m))))) w h
  where
    none : (m : ℕ) → n ≤ m → (has s m ≡ true) ⊎ (has s m ≡ false) → has s m ≡ false
    none m l (inl p) = absurd (omega (arith, below m p))
    none m l (inr p) = p

-- the two sides of a cut make up the whole
pub size_cut : (k y s : ℕ) → size k (bit_and s y) + size k (less y s) ≡ size k y
unfolding size
size_cut zero y s = refl
size_cut (suc k) y s =
    rw (has_and s y k, has-less y s k)
    (omega (arith, size_cut k y s, cut (has y k) (has s k)))
  where
    cut : (p q : Bool) → tally (q && p) + tally (p && not q) ≡ tally p
    cut true true = refl
    cut true false = refl
    cut false true = refl
    cut false false = refl

-- a set with one member at most is that member alone
pub size_one : (k s i : ℕ) → s < 2 ^ k → has s i ≡ true → size k s ≤ 1
    → s ≡ 2 ^ i
unfolding Sub
size_one k s i bound p one =
    let low = sub_lt k (2 ^ i) s sub bound in
    let some = size_pos k (2 ^ i) i (has_below k s i bound p) self in
    sym (ext_below k (2 ^ i) s low bound
    (size_same k (2 ^ i) s sub (omega (arith, one, some))))
  where
    self : has (2 ^ i) i ≡ true
    self = has_pow i i ∙ eq-eqb i i refl

    sub : (j : ℕ) → has (2 ^ i) j ≡ true → has s j ≡ true
    sub j h = ap (has s) (sym (eqb-true i j (sym (has_pow i j) ∙ h))) ∙ p
