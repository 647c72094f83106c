-- Which members fit a slot: parts of a group, taxa that are left, and that
-- some member always does. A text settles its member. Assumes nothing.
use mathlib.Core.Path.{◌≡◌, refl, sym, ap, ap₂, ◌∙◌, subst}
use mathlib.Core.Bool.{Bool, true, false, not, true≢false, ◌&&◌, ◌||◌}
use mathlib.Core.List.{List, [], ◌∷◌, ◌++◌, head-eq_of_cons-eq, tail-eq_of_cons-eq, cons-ne-nil}
use Prim.Native.Nat.{ℕ, zero, suc, ◌+◌, ◌/◌, ◌%◌, ◌≤◌, ◌<◌}
use native.Mathlib.Omega.{arith}
use lib.Arith.{lt_of_le-ne}
use lib.Dec.{eqb, ltb}
use borrow.Author.Tests.{lt-ltb, ltb-true, eq-eqb, eqb-true, eqb-false}
use Rattle.taxa.specs.Most.{most}
use Rattle.taxa.specs.Sets.{tally, pick, has, add, less, full, size}
use Rattle.taxa.proofs.Sets.{has-add, has-less, has_ones, has-none}
use Rattle.taxa.proofs.Sizes.{size_none, tally_one}
use Rattle.taxa.proofs.Bools.{and_left, and_right}
use Rattle.newick_labels.specs.Between.{digit, Stop}
use Rattle.newick_labels.proofs.TextLaws.{Spelt, single, double, spelt, label_settled}
use Rattle.lines.specs.Lines.{decimal}
use Rattle.newick_grammar.specs.Newick.{Member, taxon, group, text, times, comma, closes}
use Rattle.newick_grammar.specs.Numbers.{groups}
use Rattle.newick_grammar.proofs.Labels.{Below, labels_all, full_labels, size_with, total}
use Rattle.newick_members.specs.Between.{mark, Within, Fits, allowed, Next, Over}

-- ---- tests as numbers
tally_or : (p q : Bool) → tally p + tally q ≤ 1
    → tally (p || q) ≡ tally p + tally q
tally_or true true h = absurd (omega arith)
tally_or true false h = refl
tally_or false true h = refl
tally_or false false h = refl

tally_zero : (p : Bool) → tally p ≡ 0 → p ≡ false
tally_zero true h = absurd (omega arith)
tally_zero false h = refl

-- ---- the taxa of a member
-- its members, where no label is twice
has-mark : (t : Member) (u : ℕ) → ((x : ℕ) → tally (has u x) + times x t ≤ 1)
    → (x : ℕ) → tally (has (mark t u) x) ≡ tally (has u x) + times x t
unfolding mark times
has-mark (taxon d) u h x = ap tally (has-add u d x)
    ∙ tally_or (has u x) (eqb d x) (h x)
has-mark (group l r) u h x =
    let L : (y : ℕ) → tally (has (mark l u) y) ≡ tally (has u y) + times y l = has-mark l u
    (λ y. omega (arith, h y)) in
    has-mark r (mark l u) (λ y. omega (arith, h y, L y)) x ∙ omega (arith, L x)

module _ {n u m : ℕ} {o : Bool} where
  pub below_n : {t : Member} → Fits n u m o t → Below n t
  below_n f x p = go (ltb x n) refl
    where
      go : (b : Bool) → ltb x n ≡ b → x < n
      go true e = ltb-true x n e
      go false e = absurd (omega (arith, p, rw e at (f.once x)))

  pub below : {t : Member} → n ≤ most → Fits n u m o t → Below 100 t
  below few f x p = omega (arith, few, below_n f x p)

  pub marked : {t : Member} → Fits n u m o t → (x : ℕ)
      → tally (has (mark t u) x) ≡ tally (has u x) + times x t
  marked {t} f = has-mark t u
      (λ x. omega (arith, f.once x, tally_one (ltb x n)))

  pub mark-within : {t : Member} → Fits n u m o t → (x : ℕ)
      → tally (has (mark t u) x) ≤ tally (ltb x n)
  mark-within f x = omega (arith, marked f x, f.once x)

  pub mark-size : {t : Member} → Fits n u m o t
      → size n (mark t u) ≡ size n u + suc (groups t)
  mark-size {t} f = size_with n t u (mark t u) (marked f)
      ∙ ap (λ (k : ℕ). size n u + k) (labels_all n t (below_n f))

  -- ---- the members of a group
  pub fits_left : {l r : Member} → Fits n u m o (group l r)
      → Fits n u (suc m) true l
  unfolding times groups
  fits_left f = record {
    once = λ x. omega (arith, f.once x);
    room = omega (arith, f.room);
    full = λ e. absurd (true≢false e);
  }

  pub fits-right : {l r : Member} → Fits n u m o (group l r)
      → Fits n (mark l u) m o r
  unfolding times groups
  fits-right {l} f =
      let L = fits_left f in
      let M : (x : ℕ) → tally (has (mark l u) x) ≡ tally (has u x) + times x l = has-mark l u
      (λ x. omega (arith, L.once x, tally_one (ltb x n))) in
      let S : size n (mark l u) ≡ size n u + suc (groups l) = size_with n l u
      (mark l u) M ∙ ap (λ (k : ℕ). size n u + k)
      (labels_all n l (λ x p. below_n f x (omega (arith, p)))) in
      record {
        once = λ x. omega (arith, f.once x, M x);
        room = omega (arith, f.room, S);
        full = λ e. omega (arith, f.full e, S);
      }

module _ {n u m : ℕ} {o : Bool} where
  pub fits-group : {l r : Member} → Fits n u (suc m) true l
      → Fits n (mark l u) m o r → Fits n u m o (group l r)
  unfolding times groups
  fits-group f g =
      let M = marked f in
      let S = mark-size f in
      record {
        once = λ x. omega (arith, g.once x, M x);
        room = omega (arith, g.room, S);
        full = λ e. omega (arith, g.full e, S);
      }

  -- ---- a taxon
  fits-taxon : {d : ℕ} → Within n u → size n u + m < n → d < n → has u d ≡ false
      → (o || eqb (suc (size n u)) n) ≡ true → Fits n u m o (taxon d)
  unfolding times groups
  fits-taxon {d} w h l f e = record {
    once = λ x. one x (eqb d x) refl;
    room = omega (arith, h);
    full = λ p. omega (
      arith,
      eqb-true (suc (size n u)) n (sym (ap (λ (b : Bool). b || eqb (suc (size n u)) n) p)
          ∙ e),
    );
  }
    where
      one : (x : ℕ) (b : Bool) → eqb d x ≡ b
          → tally (has u x) + tally (eqb d x) ≤ tally (ltb x n)
      one x true q =
          let z : has u x ≡ false = ap (has u) (sym (eqb-true d x q)) ∙ f in
          let y : ltb x n ≡ true = lt-ltb x n
          (omega (arith, l, eqb-true d x q)) in
          rw (z, q, y) (omega arith)
      one x false q = rw q (omega (arith, w x))

  -- the taxa that are allowed are those that fit
  pub allowed-fits : {d : ℕ} → Within n u → size n u + m < n
      → has (allowed n u o) d ≡ true → Fits n u m o (taxon d)
  allowed-fits {d} w h e = go (o || eqb (suc (size n u)) n) refl e
    where
      not_has : (b : Bool) → not b ≡ true → b ≡ false
      not_has true q = sym q
      not_has false q = refl

      go : (b : Bool) → (o || eqb (suc (size n u)) n) ≡ b
          → has (pick b (less (full n) u) 0) d ≡ true → Fits n u m o (taxon d)
      go true p q =
          let both : (has (full n) d && not (has u d)) ≡ true = sym
          (has-less (full n) u d) ∙ q in
          let low : d < n = ltb-true d n
          (sym (has_ones n d) ∙ and_left (has (full n) d) (not (has u d)) both) in
          fits-taxon w h low
          (not_has (has u d) (and_right (has (full n) d) (not (has u d)) both)) p
      go false p q = absurd (true≢false (sym q ∙ has-none d))

  pub fits-allowed : {d : ℕ} → Fits n u m o (taxon d)
      → has (allowed n u o) d ≡ true
  unfolding times groups
  fits-allowed {d} f =
      let self : tally (eqb d d) ≡ 1 = ap tally (eq-eqb d d refl) in
      let new : has u d ≡ false = tally_zero (has u d)
      (omega (arith, self, f.once d, tally_one (ltb d n))) in
      let low : ltb d n ≡ true = one (ltb d n)
      (omega (arith, self, f.once d)) in
      let in_full : has (less (full n) u) d ≡ true = has-less (full n) u d
      ∙ ap₂ (λ (p q : Bool). p && not q) (has_ones n d ∙ low) new in
      go o refl in_full
    where
      one : (p : Bool) → 1 ≤ tally p → p ≡ true
      one true h = refl
      one false h = absurd (omega arith)

      go : (b : Bool) → o ≡ b → has (less (full n) u) d ≡ true
          → has (allowed n u o) d ≡ true
      go true e q = rw e q
      go false e q = rw
          (e, eq-eqb (suc (size n u)) n (omega (arith, f.full e))) q

-- they are below n
pub allowed-low : {n d : ℕ} (u : ℕ) (o : Bool) → has (allowed n u o) d ≡ true → d < n
allowed-low {n} {d} u o e = go (o || eqb (suc (size n u)) n) refl e
  where
    go : (b : Bool) → (o || eqb (suc (size n u)) n) ≡ b
        → has (pick b (less (full n) u) 0) d ≡ true → d < n
    go true p q = ltb-true d n
        (sym (has_ones n d) ∙ and_left (has (full n) d) (not (has u d))
        (sym (has-less (full n) u d) ∙ q))
    go false p q = absurd (true≢false (sym q ∙ has-none d))

-- ---- what fits a slot fits one that asks for less
pub fits_loose : {n u m k : ℕ} {o : Bool} {t : Member} → k ≤ m → Fits n u m o t
    → Fits n u k true t
fits_loose h f = record {
  once = f.once;
  room = omega (arith, f.room, h);
  full = λ e. absurd (true≢false e);
}

-- ---- all n taxa
pub fits_each : {n : ℕ} {t : Member} → Fits n 0 0 false t → (x : ℕ)
    → times x t ≡ tally (ltb x n)
fits_each {n} {t} f x = go (ltb x n) refl
  where
    le : (y : ℕ) → times y t ≤ tally (ltb y n)
    le y = omega (arith, f.once y, ap tally (has-none y))

    go : (b : Bool) → ltb x n ≡ b → times x t ≡ tally b
    go true e =
        full_labels n t (λ y. omega (arith, le y, tally_one (ltb y n)))
        (labels_all n t (below_n f)
        ∙ omega (arith, f.full refl, size_none n)) x
        (ltb-true x n e)
    go false e = omega (arith, rw e at (le x))

pub each_fits : {n : ℕ} {t : Member} → ((x : ℕ) → times x t ≡ tally (ltb x n))
    → Fits n 0 0 false t
each_fits {n} {t} h = record {
  once = λ x. omega (arith, h x, ap tally (has-none x));
  room = omega (arith, total n t h, size_none n);
  full = λ e. omega (arith, total n t h, size_none n);
}

-- ---- some member fits
free : (k u : ℕ) → size k u < k → (d : ℕ) × (d < k) × (has u d ≡ false)
unfolding size
free zero u h = absurd (omega arith)
free (suc k) u h = go (free k u) (has u k) refl
  where
    go : (size k u < k → (d : ℕ) × (d < k) × (has u d ≡ false)) → (b : Bool)
        → has u k ≡ b → (d : ℕ) × (d < suc k) × (has u d ≡ false)
    go ih false e = (k, omega arith, e)
    go ih true e =
        let l : tally true + size k u < suc k = subst
        (λ (b : Bool). tally b + size k u < suc k) e h in
        let q = ih (omega (arith, l)) in
        (q.0, omega (arith, q.1), q.2)

fill_by : (j n u m : ℕ) (o : Bool) → n ≤ size n u + j → Within n u
    → size n u + m < n → (o ≡ false → m ≡ 0) → (t : Member) × Fits n u m o t
unfolding mark groups
fill_by zero n u m o g w h z = absurd (omega arith)
fill_by (suc j) n u m true g w h z = let f = free n u (omega arith) in
    (taxon f.0, fits-taxon w h f.1 f.2 refl)
fill_by (suc j) n u m false g w h z = go (fill_by j) (free n u (omega arith))
    (eqb (suc (size n u)) n) refl
  where
    go : ((n u m : ℕ) (o : Bool) → n ≤ size n u + j → Within n u → size n u + m < n
        → (o ≡ false → m ≡ 0) → (t : Member) × Fits n u m o t)
        → (d : ℕ) × (d < n) × (has u d ≡ false) → (b : Bool)
        → eqb (suc (size n u)) n ≡ b → (t : Member) × Fits n u m false t
    go ih f true q = (taxon f.0, fits-taxon w h f.1 f.2 q)
    go ih f false q =
        let m0 : m ≡ 0 = z refl in
        let r : suc (size n u) < n = lt_of_le-ne (omega (arith, h))
        (eqb-false (suc (size n u)) n q) in
        let one : Fits n u (suc m) true (taxon f.0) =
        fits-taxon w (omega (arith, m0, r)) f.1 f.2 refl in
        let s : size n (add u f.0) ≡ size n u + 1 = mark-size one in
        let rest = ih n (add u f.0) m false (omega (arith, g, s))
        (mark-within one) (omega (arith, s, r, m0)) z in
        (group (taxon f.0) rest.0, fits-group one rest.1)

pub fill : (n u m : ℕ) (o : Bool) → Within n u → size n u + m < n
    → (o ≡ false → m ≡ 0) → (t : Member) × Fits n u m o t
fill n u m o = fill_by n n u m o (omega arith)

-- ---- a text settles its member

-- a label begins with a digit
pub label_first : (d : ℕ) (w : List ℕ) → d < 100
    → (b : ℕ) × (v : List ℕ) × (decimal d ++ w ≡ b ∷ v) × (48 ≤ b)
label_first d w h = go (decimal d ++ w) (spelt d w h)
  where
    go : (t : List ℕ) → Spelt d w t → (b : ℕ) × (v : List ℕ) × (t ≡ b ∷ v) × (48 ≤ b)
    go t (single l p) = (48 + d, w, p, omega arith)
    go t (double l p) = (48 + d / 10, (48 + d % 10) ∷ w, p, omega arith)

-- a comma and a parenthesis stop
pub stop_at : (b : ℕ) (w : List ℕ) → digit b ≡ false → Stop (b ∷ w)
unfolding Stop
stop_at b w e = e

pub over_stop : (t : Member) (w : List ℕ) → Stop w → Over t w
over_stop (taxon d) w s = λ p q. s
over_stop (group l r) w s = tt

pub settled : (t t' : Member) (w w' : List ℕ) → Below 100 t → Below 100 t'
    → Over t w → Stop w' → text t w ≡ text t' w' → (t ≡ t') × (w ≡ w')
unfolding text times
settled (taxon d) (taxon e) w w' h k v s p =
    let q = label_settled d e w w' (h d (rw (eq-eqb d d refl) (omega arith)))
    (k e (rw (eq-eqb e e refl) (omega arith))) v (λ i j. s) p in
    (ap taxon q.0, q.1)
settled (taxon d) (group l r) w w' h k v s p =
    let f = label_first d w (h d (rw (eq-eqb d d refl) (omega arith))) in
    absurd (omega (arith, f.3, head-eq_of_cons-eq (sym f.2 ∙ p)))
settled (group l r) (taxon e) w w' h k v s p =
    let f = label_first e w' (k e (rw (eq-eqb e e refl) (omega arith))) in
    absurd (omega (arith, f.3, head-eq_of_cons-eq (p ∙ f.2)))
settled (group l r) (group l' r') w w' h k v s p =
    let a = settled l l' (comma ∷ text r (closes ∷ w))
    (comma ∷ text r' (closes ∷ w')) (λ x q. h x (omega (arith, q)))
    (λ x q. k x (omega (arith, q))) (over_stop l _ (stop_at comma _ refl))
    (stop_at comma _ refl) (tail-eq_of_cons-eq p) in
    let b = settled r r' (closes ∷ w) (closes ∷ w')
    (λ x q. h x (omega (arith, q))) (λ x q. k x (omega (arith, q)))
    (over_stop r _ (stop_at closes _ refl)) (stop_at closes _ refl)
    (tail-eq_of_cons-eq a.1) in
    (ap₂ group a.0 b.0, tail-eq_of_cons-eq b.1)

pub next_stop : (w : List ℕ) → Next w → Stop w
unfolding Next
next_stop [] h = absurd h
next_stop (b ∷ w) h = h

pub next-at : (b : ℕ) (w : List ℕ) → digit b ≡ false → Next (b ∷ w)
unfolding Next
next-at b w e = stop_at b w e

-- a member's text is not empty
pub text-some : (t : Member) (w : List ℕ) → Below 100 t → [] ≡ text t w → ⊥
unfolding text times
text-some (taxon d) w h p = let f = label_first d w
    (h d (rw (eq-eqb d d refl) (omega arith))) in cons-ne-nil _ _ (sym (p ∙ f.2))
text-some (group l r) w h p = cons-ne-nil _ _ (sym p)
