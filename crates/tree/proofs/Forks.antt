-- An inner node and its three rows: what lies with the node, one of the rows
-- taken away, is what hangs by the two others, and the node itself.
-- A taxon lies alone on its side. Assumes nothing.
use mathlib.Core.Path.{◌≡◌, refl, sym, ap, ap₂, ◌∙◌}
use mathlib.Core.Logic.{◌⊎◌, inl, inr}
use mathlib.Core.Bool.{Bool, true, false, not, ◌&&◌, ◌||◌, true≢false, or-true, or-false}
use mathlib.Core.List.{List}
use Prim.Native.Nat.{ℕ, ◌^◌, ◌%◌, ◌≤◌, ◌<◌}
use native.Mathlib.Omega.{arith}
use lib.Dec.{eqb, ltb}
use lib.Bits.{bit_or}
use borrow.Author.Tests.{eqb-true, eqb-false, ne_eqb, eq-eqb, ltb-true, ltb-false}
use Rattle.taxa.specs.Sets.{has, add, size}
use Rattle.taxa.proofs.Bools.{either, or_left, or_right}
use Rattle.taxa.proofs.Sets.{has-add, has_or, has_mod, has_pow, ext}
use Rattle.taxa.proofs.Sizes.{size_less}
use Rattle.tree.specs.Tree.{lo, hi, rows, nodes, touches, far, part, Valid}
use Rattle.tree.proofs.Rounds.{Flat, part_start}
use Rattle.tree.proofs.Joins.{Joins, join_flat, flat_join, join_apart, apart_join}
use Rattle.tree.proofs.Joins.{touch_joins, joins_touch, joins_flip, not_touch, joins_nodes}
use Rattle.tree.proofs.Joins.{joins_differ}
use Rattle.tree.proofs.Colourings.{Parts, Hangs, hangs, part-is}
use Rattle.tree.proofs.RowCounts.{Pair, leaf-only}

-- ---- a node p that joins q by row e, a by row x, c by row f, and nothing else
pub record Fork (n : ℕ) (t : List ℕ) (p e x f q a c : ℕ) : Type 0 where
  pub e_row : Joins t e p q
  pub x_row : Joins t x p a
  pub f_row : Joins t f p c
  pub e_lt : e < rows n
  pub x_lt : x < rows n
  pub f_lt : f < rows n
  pub ex : e ≡ x → ⊥
  pub ef : e ≡ f → ⊥
  pub xf : x ≡ f → ⊥
  pub pq : p ≡ q → ⊥
  pub inner : n ≤ p
  pub p_lt : p < nodes n
  pub only : (r : ℕ) → r < rows n → (r ≡ e → ⊥) → (r ≡ x → ⊥) → (r ≡ f → ⊥)
      → (p ≡ lo t r → ⊥) × (p ≡ hi t r → ⊥)

-- the two sets beyond x and f, and p itself
abbrev pub joined : ℕ → ℕ → ℕ → ℕ
joined a b p = add (bit_or a b) p

pub has-joined : (a b p i : ℕ) → has (joined a b p) i ≡ (has a i || has b i || eqb p i)
has-joined a b p i = has-add (bit_or a b) p i ∙ ap (λ (x : Bool). x || eqb p i) (has_or a b i)

not_of_false : (p q : Bool) → p ≡ not q → p ≡ false → q ≡ true
not_of_false p true h l = refl
not_of_false p false h l = absurd (true≢false (sym h ∙ l))

module _ {n : ℕ} {t : List ℕ} {p e x f q a c : ℕ} (k : Fork n t p e x f q a c) {A B : ℕ}
    (ha : Hangs n t x p A) (hb : Hangs n t f p B) where
  pub at_a : has A a ≡ true
  at_a = not_of_false (has A p) (has A a) (apart_join t x p a (has A) k.x_row ha.parts.apart)
      ha.out

  pub at_c : has B c ≡ true
  at_c = not_of_false (has B p) (has B c) (apart_join t f p c (has B) k.f_row hb.parts.apart)
      hb.out

  pub A_at_q : has A q ≡ false
  A_at_q = sym (flat_join t e p q (has A) k.e_row (ha.parts.closed e k.e_lt k.ex))
      ∙ ha.out

  pub B_at_q : has B q ≡ false
  B_at_q = sym (flat_join t e p q (has B) k.e_row (hb.parts.closed e k.e_lt k.ef))
      ∙ hb.out

  U : ℕ → Bool
  U i = has (joined A B p) i

  U_of : (i : ℕ) (u v w : Bool) → has A i ≡ u → has B i ≡ v → eqb p i ≡ w → U i ≡ (u || v || w)
  unfolding U
  U_of i u v w hu hv hw = has-joined A B p i ∙ ap₂ ◌||◌ (ap₂ ◌||◌ hu hv) hw

  U_p : U p ≡ true
  U_p = U_of p (has A p) (has B p) true refl refl (eq-eqb p p refl) ∙ or-true (has A p || has B p)

  U_a : U a ≡ true
  U_a = U_of a true (has B a) (eqb p a) at_a refl refl

  U_c : U c ≡ true
  U_c = U_of c (has A c) true (eqb p c) refl at_c refl
      ∙ ap (λ (b : Bool). b || eqb p c) (or-true (has A c))

  U_q : U q ≡ false
  U_q = U_of q false false false A_at_q B_at_q (ne_eqb p q k.pq)

  U_flat : Flat t e (rows n) U
  U_flat r h d = go (either (eqb r x)) (either (eqb r f))
    where
      go : (eqb r x ≡ true) ⊎ (eqb r x ≡ false) → (eqb r f ≡ true) ⊎ (eqb r f ≡ false)
          → U (lo t r) ≡ U (hi t r)
      go (inl w) v = rw (eqb-true r x w) (join_flat t x p a U k.x_row (U_p ∙ sym U_a))
      go (inr w) (inl v) = rw (eqb-true r f v) (join_flat t f p c U k.f_row (U_p ∙ sym U_c))
      go (inr w) (inr v) =
          let o = k.only r h d (eqb-false r x w) (eqb-false r f v) in
          U_of (lo t r) (has A (hi t r)) (has B (hi t r)) false
          (ha.parts.closed r h (eqb-false r x w)) (hb.parts.closed r h (eqb-false r f v))
          (ne_eqb p (lo t r) o.0)
          ∙ sym (U_of (hi t r) (has A (hi t r)) (has B (hi t r)) false refl refl
          (ne_eqb p (hi t r) o.1))

  pub joined-parts : Parts n t e (joined A B p)
  unfolding U
  joined-parts = record {
    apart = join_apart t e p q U k.e_row (U_p ∙ sym (ap not U_q));
    closed =
        U_flat;
  }

  pub joined-out : has (joined A B p) q ≡ false
  unfolding U
  joined-out = U_q

  pub joined_in : has (joined A B p) p ≡ true
  unfolding U
  joined_in = U_p

  pub joined_at : (i : ℕ) → i < n → has (joined A B p) i ≡ (has A i || has B i)
  joined_at i h = has-joined A B p i
      ∙ ap (λ (b : Bool). has A i || has B i || b) (ne_eqb p i (λ d. omega (arith, k.inner)))
      ∙ or-false (has A i || has B i)

-- p with rows a, x and y and no other, where x and y are f and g in either
-- order
pub fork_of : {n : ℕ} {t : List ℕ} {a p f g : ℕ} → Valid n t → a < rows n → touches t a p ≡ true
    → n ≤ p → Pair n t a p f g
    → Fork n t p a f g (far t a p) (far t f p) (far t g p)
fork_of {n} {t} {a} {p} {f} {g} v ha ta ip k =
    let j = touch_joins t a p ta in
    record {
      e_row = j;
      x_row = touch_joins t f p k.f_p;
      f_row = touch_joins t g p k.g_p;
      e_lt = ha;
      x_lt = k.f_lt;
      f_lt = k.g_lt;
      ex = λ w. k.fa (sym w);
      ef = λ w. k.ga (sym w);
      xf = λ w. omega (arith, k.fg);
      pq = joins_differ a v ha p (far t a p) j;
      inner = ip;
      p_lt = (joins_nodes a v ha p (far t a p) j).0;
      only = λ r h x y z. not_touch t r p (k.only r h x y z);
    }

pub fork_swap : {n : ℕ} {t : List ℕ} {p e x f q a c : ℕ} → Fork n t p e x f q a c
    → Fork n t p e f x q c a
fork_swap {n} {t} {p} {e} {x} k = record {
  e_row = k.e_row;
  x_row = k.f_row;
  f_row = k.x_row;
  e_lt = k.e_lt;
  x_lt = k.f_lt;
  f_lt = k.x_lt;
  ex = k.ef;
  ef = k.ex;
  xf = λ w. k.xf (sym w);
  pq = k.pq;
  inner = k.inner;
  p_lt = k.p_lt;
  only = λ r h x y z. k.only r h x z y;
}

-- ---- what lies with an inner end
module _ {n : ℕ} {t : List ℕ} {e v f g : ℕ} (vt : Valid n t) (le : e < rows n)
    (te : touches t e v ≡ true) (inner : n ≤ v) (K : Pair n t e v f g) where
  pub fork : Fork n t v e f g (far t e v) (far t f v) (far t g v)
  fork = fork_of vt le te inner K

  pub hang_f : Hangs n t f v (part n t f (far t f v))
  hang_f = hangs f v (far t f v) vt K.f_lt fork.x_row

  pub hang_g : Hangs n t g v (part n t g (far t g v))
  hang_g = hangs g v (far t g v) vt K.g_lt fork.f_row

  pub node-side : (i : ℕ) → i < nodes n
      → has (part n t e v) i ≡ (has (part n t f (far t f v)) i || has (part n t g (far t g v)) i
      || eqb v i)
  node-side i l =
      let A = part n t f (far t f v) in
      let B = part n t g (far t g v) in
      part-is e v (far t e v) vt le fork.e_row (joined-parts fork hang_f hang_g)
      (joined_in fork hang_f hang_g) i l
      ∙ has-joined A B v i

  -- each of the two is smaller
  pub less_f : size (nodes n) (part n t f (far t f v)) < size (nodes n) (part n t e v)
  less_f = size_less (nodes n) (part n t f (far t f v)) (part n t e v) v
      (λ j l p. node-side j l ∙ or_left
      (has (part n t f (far t f v)) j || has (part n t g (far t g v)) j) (eqb v j)
      (or_left (has (part n t f (far t f v)) j) (has (part n t g (far t g v)) j) p))
      fork.p_lt hang_f.out (part_start n t e v)

  pub less_g : size (nodes n) (part n t g (far t g v)) < size (nodes n) (part n t e v)
  less_g = size_less (nodes n) (part n t g (far t g v)) (part n t e v) v
      (λ j l p. node-side j l ∙ or_left
      (has (part n t f (far t f v)) j || has (part n t g (far t g v)) j) (eqb v j)
      (or_right (has (part n t f (far t f v)) j) (has (part n t g (far t g v)) j) p))
      fork.p_lt hang_g.out (part_start n t e v)

  pub at_f : touches t f (far t f v) ≡ true
  at_f = joins_touch t f (far t f v) v (joins_flip t f v (far t f v) fork.x_row)

  pub at_g : touches t g (far t g v) ≡ true
  at_g = joins_touch t g (far t g v) v (joins_flip t g v (far t g v) fork.f_row)

  -- among the taxa
  pub taxa_both : bit_or (part n t f (far t f v) % 2 ^ n) (part n t g (far t g v) % 2 ^ n)
      ≡ part n t e v % 2 ^ n
  taxa_both = ext (bit_or (part n t f (far t f v) % 2 ^ n) (part n t g (far t g v) % 2 ^ n))
      (part n t e v % 2 ^ n) (λ i.
      has_or (part n t f (far t f v) % 2 ^ n) (part n t g (far t g v) % 2 ^ n) i
      ∙ ap₂ ◌||◌ (has_mod n (part n t f (far t f v)) i) (has_mod n (part n t g (far t g v)) i)
      ∙ go i (either (ltb i n)) ∙ sym (has_mod n (part n t e v) i))
    where
      go : (i : ℕ) → (ltb i n ≡ true) ⊎ (ltb i n ≡ false)
          → (ltb i n && has (part n t f (far t f v)) i || ltb i n && has (part n t g (far t g v)) i)
          ≡ (ltb i n && has (part n t e v) i)
      go i (inl w) =
          let l = ltb-true i n w in
          let d : eqb v i ≡ false = ne_eqb v i (λ x. omega arith) in
          rw w (sym (node-side i (omega (arith, vt.big))
          ∙ ap (λ (x : Bool). has (part n t f (far t f v)) i || has (part n t g (far t g v)) i
          || x) d ∙ or-false (has (part n t f (far t f v)) i || has (part n t g (far t g v))
          i)))
      go i (inr w) = rw w

-- ---- a taxon lies alone on its side of its row
module _ {n : ℕ} {t : List ℕ} (e v : ℕ) (vt : Valid n t) (lv : v < n) (le : e < rows n)
    (te : touches t e v ≡ true) where
  pub leaf-parts : Parts n t e (2 ^ v)
  leaf-parts = record {
    apart = join_apart t e v (far t e v) (has (2 ^ v)) j (has_pow v v ∙ eq-eqb v v refl
        ∙ sym (ap not (has_pow v (far t e v)
        ∙ ne_eqb v (far t e v) (joins_differ e vt le v (far t e v) j))));
    closed = λ r lr d.
        let o = not_touch t r v (λ w. d (leaf-only v e vt lv le te r lr w)) in
        has_pow v (lo t r) ∙ ne_eqb v (lo t r) o.0
        ∙ sym (has_pow v (hi t r) ∙ ne_eqb v (hi t r) o.1);
  }
    where
      j : Joins t e v (far t e v)
      j = touch_joins t e v te

  pub leaf-side : (i : ℕ) → i < nodes n → has (part n t e v) i ≡ eqb v i
  leaf-side i l =
      part-is e v (far t e v) vt le (touch_joins t e v te) leaf-parts
      (has_pow v v ∙ eq-eqb v v refl) i l ∙ has_pow v i

  pub taxa_one : 2 ^ v ≡ part n t e v % 2 ^ n
  taxa_one = ext (2 ^ v) (part n t e v % 2 ^ n) (λ i. go i (either (ltb i n))
      ∙ sym (has_mod n (part n t e v) i))
    where
      go : (i : ℕ) → (ltb i n ≡ true) ⊎ (ltb i n ≡ false)
          → has (2 ^ v) i ≡ (ltb i n && has (part n t e v) i)
      go i (inl w) = rw w (has_pow v i ∙ sym (leaf-side i (omega (arith, ltb-true i n w, vt.big))))
      go i (inr w) = rw w (has_pow v i ∙ ne_eqb v i (λ d. omega (arith, ltb-false i n w)))
