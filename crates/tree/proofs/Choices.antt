-- Laws of a split over y, for any choice of the side that is written.
-- Assumes nothing.
use mathlib.Core.Path.{◌≡◌, refl, sym, ap, ap₂, ◌∙◌}
use mathlib.Core.Logic.{◌⊎◌, inl, inr}
use mathlib.Core.Bool.{Bool, true, false, ◌&&◌, ◌||◌, true≢false, false≢true, and_comm, or-true}
use mathlib.Core.List.{List}
use Prim.Native.Nat.{ℕ, zero, suc, ◌^◌, ◌<◌}
use native.Mathlib.Nat.{le_refl}
use native.Mathlib.Omega.{arith}
use lib.Dec.{eqb}
use lib.Bits.{bit_and}
use borrow.Author.Tests.{eqb-true, eqb-false, eq-eqb}
use Rattle.taxa.specs.Sets.{pick, has, less, some, Sub}
use Rattle.taxa.proofs.Bools.{either, and_left, and_right, and_both, and_true_l, and_when}
use Rattle.taxa.proofs.Bools.{and_when', or_cases, ◌⊕◌, xor_cancel, xor_assoc, xor_same}
use Rattle.taxa.proofs.Sets.{has_and, has-less, ext, some_mono}
use Rattle.tree.specs.Tree.{rows}
use Rattle.tree.specs.Lists.{insert, mem, Asc}
use Rattle.tree.specs.Splits.{side, meets, Choice, split_by, splits_to, splits_by}
use Rattle.tree.proofs.Lists.{mem-insert, asc_insert}

-- s and s' agree on y where d is false, and disagree on all of it where d is
-- true
abbrev pub Like : ℕ → Bool → ℕ → ℕ → Type 0
Like y d s s' = (i : ℕ) → has y i ≡ true → has s i ≡ (d ⊕ has s' i)

-- What the laws ask of a choice.
pub record Fair (c : Choice) : Type 0 where
  -- Two sets that make the same two sides have the same one written.
  pub even : (n y s s' i : ℕ) (d : Bool) → y < 2 ^ n → has y i ≡ true
      → Like y d s s' → c n y s ≡ (d ⊕ c n y s')
  -- Where one side is empty, the empty one is written, so the number is 0.
  pub kept : (n y s : ℕ) → y < 2 ^ n → some (split_by c n y s) ≡ true
      → meets y s ≡ true

-- ---- a split's members
has-side : (b : Bool) (y s i : ℕ)
    → has (pick b (less y s) (bit_and s y)) i ≡ (has y i && (b ⊕ has s i))
has-side true y s i = has-less y s i
has-side false y s i = has_and s y i ∙ and_comm (has s i) (has y i)

-- sets that agree on y make the same two sides; sets that disagree on all of
-- it, the same two exchanged
pub side_like : (b d : Bool) (y s s' : ℕ) → Like y d s s'
    → pick b (less y s) (bit_and s y) ≡ pick (b ⊕ d) (less y s') (bit_and s' y)
side_like b d y s s' h =
    ext (pick b (less y s) (bit_and s y)) (pick (b ⊕ d) (less y s') (bit_and s' y))
    (λ i.
    has-side b y s i
    ∙ and_when (has y i) (b ⊕ has s i) (b ⊕ d ⊕ has s' i) (λ p.
    ap (λ (q : Bool). b ⊕ q) (h i p) ∙ xor_assoc b d (has s' i))
    ∙ sym (has-side (b ⊕ d) y s' i))

module _ (c : Choice) where
  pub other_by : (n y s : ℕ) → c n y s ≡ true → less y s ≡ split_by c n y s
  unfolding split_by
  other_by n y s h = sym (ap (λ (b : Bool). pick b (less y s) (bit_and s y)) h)

  pub own_by : (n y s : ℕ) → c n y s ≡ false → bit_and s y ≡ split_by c n y s
  unfolding split_by
  own_by n y s h = sym (ap (λ (b : Bool). pick b (less y s) (bit_and s y)) h)

  has_by : (n y s i : ℕ)
      → has (split_by c n y s) i ≡ (has y i && (c n y s ⊕ has s i))
  unfolding split_by
  has_by n y s i = has-side (c n y s) y s i

  -- equal splits come from sets that are the same over y, or each other's
  -- complement
  pub same_by : (n y s s' : ℕ) → split_by c n y s ≡ split_by c n y s'
      → (d : Bool) × Like y d s s'
  same_by n y s s' e = (
    c n y s ⊕ c n y s',
    λ i p. xor_same (c n y s) (has s i) (c n y s') (has s' i)
        (and_when' (has y i) (c n y s ⊕ has s i) (c n y s' ⊕ has s' i) p
        (sym (has_by n y s i) ∙ ap (λ (z : ℕ). has z i) e ∙ has_by n y s' i)),
  )

  -- a split that is kept has a number
  pub some_by : (n y s : ℕ) → meets y s ≡ true → some (split_by c n y s) ≡ true
  unfolding meets split_by
  some_by n y s h = go (c n y s)
    where
      go : (b : Bool) → some (pick b (less y s) (bit_and s y)) ≡ true
      go true = and_right (some (bit_and s y)) (some (less y s)) h
      go false = and_left (some (bit_and s y)) (some (less y s)) h

  module _ (fair : Fair c) where
    -- the split depends on the set up to complement, and on y's members only
    pub like_by : (n y s s' : ℕ) (bound : y < 2 ^ n) (d : Bool) → Like y d s s'
        → split_by c n y s ≡ split_by c n y s'
    like_by n y s s' bound d h = ext (split_by c n y s) (split_by c n y s') (λ i.
        has_by n y s i
        ∙ and_when (has y i) (c n y s ⊕ has s i) (c n y s' ⊕ has s' i) (λ p.
        ap₂ ◌⊕◌ (fair.even n y s s' i d bound p h) (h i p)
        ∙ xor_cancel d (c n y s') (has s' i))
        ∙ sym (has_by n y s' i))

-- cut down twice is cut down once, whichever side stands between
pub twice_by : (c c' : Choice) → Fair c → (n y₁ y₂ : ℕ) → Sub y₁ y₂ → y₁ < 2 ^ n
    → (s : ℕ)
    → split_by c n y₁ (split_by c' n y₂ s) ≡ split_by c n y₁ s
unfolding Sub
twice_by c c' fair n y₁ y₂ sub bound s =
    like_by c fair n y₁ (split_by c' n y₂ s) s bound (c' n y₂ s) (λ i p.
    has_by c' n y₂ s i ∙ and_true_l (has y₂ i) (c' n y₂ s ⊕ has s i) (sub i p))

-- ---- which splits are kept
side_mono : (b : Bool) (y₁ y₂ s : ℕ) → Sub y₁ y₂
    → Sub (pick b (less y₁ s) (bit_and s y₁)) (pick b (less y₂ s) (bit_and s y₂))
unfolding Sub
side_mono b y₁ y₂ s sub i p =
    let r = b ⊕ has s i in
    let q : (has y₁ i && r) ≡ true = sym (has-side b y₁ s i) ∙ p in
    has-side b y₂ s i
    ∙ and_both (has y₂ i) r (sub i (and_left (has y₁ i) r q)) (and_right (has y₁ i) r q)

pub meets_mono : (y₁ y₂ s : ℕ) → Sub y₁ y₂ → meets y₁ s ≡ true
    → meets y₂ s ≡ true
unfolding meets
meets_mono y₁ y₂ s sub h =
    and_both (some (bit_and s y₂)) (some (less y₂ s))
    (some_mono (bit_and s y₁) (bit_and s y₂) (side_mono false y₁ y₂ s sub)
    (and_left (some (bit_and s y₁)) (some (less y₁ s)) h))
    (some_mono (less y₁ s) (less y₂ s) (side_mono true y₁ y₂ s sub)
    (and_right (some (bit_and s y₁)) (some (less y₁ s)) h))

-- ---- the list of splits: it ascends, and its members are the splits of rows
-- that are kept
module _ (c : Choice) (n : ℕ) (t : List ℕ) (y : ℕ) where
  -- the number of a row
  abbrev pub num_by : ℕ → ℕ
  num_by r = split_by c n y (side n t r)

  asc_to : (k : ℕ) → Asc (splits_to c n t y k)
  unfolding splits_to
  asc_to zero = tt
  asc_to (suc k) = go (asc_to k) (meets y (side n t k))
    where
      go : Asc (splits_to c n t y k) → (b : Bool)
          → Asc (pick b (insert (num_by k) (splits_to c n t y k)) (splits_to c n t y k))
      go ih true = asc_insert (num_by k) (splits_to c n t y k) ih
      go ih false = ih

  into_to : (k r : ℕ) → r < k → meets y (side n t r) ≡ true
      → mem (num_by r) (splits_to c n t y k) ≡ true
  unfolding splits_to
  into_to zero r h m = absurd (omega arith)
  into_to (suc k) r h m =
      go (λ l. into_to k r l m) (either (eqb r k)) (meets y (side n t k)) refl
    where
      x : ℕ
      x = num_by r

      go : (r < k → mem x (splits_to c n t y k) ≡ true)
          → (eqb r k ≡ true) ⊎ (eqb r k ≡ false) → (b : Bool)
          → meets y (side n t k) ≡ b
          → mem x (pick b (insert (num_by k) (splits_to c n t y k)) (splits_to c n t y k)) ≡ true
      go ih (inl e) true q =
          mem-insert (num_by k) x (splits_to c n t y k)
          ∙ ap (λ (b : Bool). b || mem x (splits_to c n t y k))
          (eq-eqb x (num_by k) (ap num_by (eqb-true r k e)))
      go ih (inl e) false q =
          absurd (true≢false (sym m
          ∙ ap (λ (j : ℕ). meets y (side n t j)) (eqb-true r k e) ∙ q))
      go ih (inr e) true q =
          mem-insert (num_by k) x (splits_to c n t y k)
          ∙ ap (λ (b : Bool). eqb x (num_by k) || b)
          (ih (lib.Arith.lt_of_le-ne (omega arith) (eqb-false r k e)))
          ∙ or-true (eqb x (num_by k))
      go ih (inr e) false q =
          ih (lib.Arith.lt_of_le-ne (omega arith) (eqb-false r k e))

  out_of_to : (k x : ℕ) → mem x (splits_to c n t y k) ≡ true
      → (r : ℕ) × (r < k) × (meets y (side n t r) ≡ true) × (x ≡ num_by r)
  unfolding splits_to mem
  out_of_to zero x h = absurd (false≢true h)
  out_of_to (suc k) x h = go (out_of_to k x) (meets y (side n t k)) refl h
    where
      Row : ℕ → Type 0
      Row j = (r : ℕ) × (r < j) × (meets y (side n t r) ≡ true) × (x ≡ num_by r)

      up : Row k → Row (suc k)
      up w = (w.0, omega (arith, w.1), w.2, w.3)

      at : (mem x (splits_to c n t y k) ≡ true → Row k)
          → meets y (side n t k) ≡ true
          → (eqb x (num_by k) ≡ true) ⊎ (mem x (splits_to c n t y k) ≡ true)
          → Row (suc k)
      at ih q (inl e) = (k, le_refl (suc k), q, eqb-true x (num_by k) e)
      at ih q (inr e) = up (ih e)

      go : (mem x (splits_to c n t y k) ≡ true → Row k) → (b : Bool)
          → meets y (side n t k) ≡ b
          → mem x (pick b (insert (num_by k) (splits_to c n t y k)) (splits_to c n t y k)) ≡ true
          → Row (suc k)
      go ih true q h =
          at ih q (or_cases (eqb x (num_by k)) (mem x (splits_to c n t y k))
          (sym (mem-insert (num_by k) x (splits_to c n t y k)) ∙ h))
      go ih false q h = up (ih h)

  pub asc_by : Asc (splits_by c n t y)
  unfolding splits_by
  asc_by = asc_to (rows n)

  pub into : (r : ℕ) → r < rows n → meets y (side n t r) ≡ true
      → mem (num_by r) (splits_by c n t y) ≡ true
  unfolding splits_by
  into = into_to (rows n)

  pub out_of : (x : ℕ) → mem x (splits_by c n t y) ≡ true
      → (r : ℕ) × (r < rows n) × (meets y (side n t r) ≡ true) × (x ≡ num_by r)
  unfolding splits_by
  out_of = out_of_to (rows n)
