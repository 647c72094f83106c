-- How many labels a member has: one more than its groups; and a tree of n taxa
-- has n. Assumes nothing.
use mathlib.Core.Path.{◌≡◌, refl, sym, ap, ◌∙◌}
use mathlib.Core.Bool.{Bool, true, false}
use Prim.Native.Nat.{ℕ, zero, suc, ◌+◌, ◌≤◌, ◌<◌}
use native.Mathlib.Omega.{arith}
use lib.Arith.{lt_of_le-ne}
use lib.Dec.{eqb, ltb}
use borrow.Author.Tests.{lt-ltb, le-ltb, ltb-true, eq-eqb, eqb-true, eqb-false}
use Rattle.taxa.specs.Sets.{tally, has, size}
use Rattle.taxa.proofs.Bools.{bool_eq}
use Rattle.newick_grammar.proofs.Low.{low-next}
use Rattle.newick_grammar.specs.Newick.{Member, taxon, group, two, three, times, times_in}
use Rattle.newick_grammar.specs.Newick.{EachOnce}
use Rattle.newick_grammar.specs.Numbers.{groups}

-- how many labels below k a member has
unfoldable pub labels : ℕ → Member → ℕ
labels zero t = 0
labels (suc k) t = times k t + labels k t

-- every label of a member is below k
abbrev pub Below : ℕ → Member → Type 0
Below k t = (x : ℕ) → 0 < times x t → x < k

labels_group : (k : ℕ) (l r : Member)
    → labels k (group l r) ≡ labels k l + labels k r
unfolding labels times
labels_group zero l r = refl
labels_group (suc k) l r = omega (arith, labels_group k l r)

labels_taxon : (k d : ℕ) → labels k (taxon d) ≡ tally (ltb d k)
unfolding labels times
labels_taxon zero d = ap tally (sym (le-ltb d 0 (omega arith)))
labels_taxon (suc k) d =
    let turned : eqb d k ≡ eqb k d =
    bool_eq (eqb d k) (eqb k d) (λ e. eq-eqb k d (sym (eqb-true d k e)))
    (λ e. eq-eqb d k (sym (eqb-true k d e))) in
    omega (arith, labels_taxon k d, low-next k d, ap tally turned)

-- all of a member's labels are counted
pub labels_all : (k : ℕ) (t : Member) → Below k t → labels k t ≡ suc (groups t)
unfolding times groups
labels_all k (taxon d) b =
    let here : 0 < times d (taxon d) = rw (eq-eqb d d refl) (omega arith) in
    labels_taxon k d ∙ ap tally (lt-ltb d k (b d here))
labels_all k (group l r) b =
    labels_group k l r
    ∙ omega (
      arith,
      labels_all k l (λ x p. b x (omega (arith, p))),
      labels_all k r (λ x p. b x (omega (arith, p))),
    )

-- the size of a set with a member's labels besides
pub size_with : (k : ℕ) (t : Member) (u v : ℕ)
    → ((x : ℕ) → tally (has v x) ≡ tally (has u x) + times x t)
    → size k v ≡ size k u + labels k t
unfolding size labels
size_with zero t u v h = refl
size_with (suc k) t u v h = omega (arith, h k, size_with k t u v h)

-- where each below k is a label once
labels_full : (k : ℕ) (t : Member) → ((x : ℕ) → x < k → times x t ≡ 1)
    → labels k t ≡ k
unfolding labels
labels_full zero t h = refl
labels_full (suc k) t h =
    omega (arith, h k (omega arith), labels_full k t (λ x p. h x (omega (arith, p))))

-- and the other way round
pub full_labels : (k : ℕ) (t : Member) → ((x : ℕ) → times x t ≤ 1)
    → labels k t ≡ k → (x : ℕ) → x < k → times x t ≡ 1
unfolding labels
full_labels zero t h e x p = absurd (omega (arith, p))
full_labels (suc k) t h e x p = go (full_labels k t h (omega (arith, e, h k, few k))) (eqb x k) refl
  where
    few : (j : ℕ) → labels j t ≤ j
    few zero = omega arith
    few (suc j) = omega (arith, few j, h j)

    go : ((x : ℕ) → x < k → times x t ≡ 1) → (b : Bool) → eqb x k ≡ b
        → times x t ≡ 1
    go ih true q = ap (λ (y : ℕ). times y t) (eqb-true x k q) ∙ omega (arith, e, h k, few k)
    go ih false q = ih x (lt_of_le-ne (omega (arith, p)) (eqb-false x k q))

-- a member with each of 0 to n-1 once has n - 1 groups
pub total : (n : ℕ) (t : Member) → ((x : ℕ) → times x t ≡ tally (ltb x n))
    → suc (groups t) ≡ n
total n t h =
    sym (labels_all n t (λ x p. low x p (ltb x n) refl))
    ∙ labels_full n t (λ x p. h x ∙ ap tally (lt-ltb x n p))
  where
    low : (x : ℕ) → 0 < times x t → (b : Bool) → ltb x n ≡ b → x < n
    low x p true e = ltb-true x n e
    low x p false e = absurd (omega (arith, p, h x, zero_of e))
      where
        zero_of : ltb x n ≡ false → tally (ltb x n) ≡ 0
        zero_of e = ap tally e

-- a tree of n taxa has n - 2 groups inside two members, n - 3 inside three
pub two_total : (n : ℕ) (a b : Member) → EachOnce n (two a b)
    → groups a + groups b + 2 ≡ n
unfolding times_in times groups
two_total n a b h = omega (arith, total n (group a b) h)

pub three_total : (n : ℕ) (a b c : Member) → EachOnce n (three a b c)
    → groups a + groups b + groups c + 3 ≡ n
unfolding times_in times groups
three_total n a b c h = omega (arith, total n (group (group a b) c) h)
