-- Colourings: sets of nodes that one row alone leaves. A row's colouring is
-- settled by the end that it holds, so it is that end's part.
-- Two rows of one tree never cross. Assumes nothing.
use mathlib.Core.Path.{◌≡◌, refl, sym, ap, ap₂, ◌∙◌, subst}
use mathlib.Core.Logic.{◌⊎◌, inl, inr}
use mathlib.Core.Bool.{Bool, true, false, not, ◌||◌, true≢false, false≢true}
use mathlib.Core.List.{List}
use Prim.Native.Nat.{ℕ, ◌≤◌, ◌<◌}
use native.Mathlib.Omega.{arith}
use lib.Dec.{eqb}
use borrow.Author.Tests.{eqb-true, eqb-false}
use Rattle.taxa.specs.Sets.{has}
use Rattle.taxa.proofs.Bools.{either, or_right, ◌⊕◌, xor_not, xor_move, not_self}
use Rattle.tree.specs.Tree.{lo, hi, rows, nodes, part, Connected, Valid}
use Rattle.tree.proofs.Rounds.{Flat, Ends, part_one, part_start, part_flat}
use Rattle.tree.proofs.Joins.{Joins, join_apart, apart_join, flat_join, joins_flip}
use Rattle.tree.proofs.Joins.{joins_nodes}
use Rattle.tree.proofs.Bridges.{Table, second-out}

-- s holds one of row e's ends and not the other, and no other row leaves it
pub record Parts (n : ℕ) (t : List ℕ) (e s : ℕ) : Type 0 where
  pub apart : has s (lo t e) ≡ not (has s (hi t e))
  pub closed : Flat t e (rows n) (has s)

-- what hangs from node p by row x: a set that row x alone leaves, without x's
-- end p
pub record Hangs (n : ℕ) (t : List ℕ) (x p s : ℕ) : Type 0 where
  pub parts : Parts n t x s
  pub out : has s p ≡ false

-- ---- a colour that is the same at both ends of every row is the same everywhere
abbrev pub FlatAll : ℕ → List ℕ → (ℕ → Bool) → Type 0
FlatAll n t c = (r : ℕ) → r < rows n → c (lo t r) ≡ c (hi t r)

pub one_colour : {n : ℕ} {t : List ℕ} (c : ℕ → Bool) → Connected n t → FlatAll n t c → (i j : ℕ)
    → i < nodes n → j < nodes n → c i ≡ c j
one_colour {n} {t} c con flat i j hi hj =
    part_one n t (rows n) 0 c (λ r h d. flat r h) i (con.reached i hi)
    ∙ sym (part_one n t (rows n) 0 c (λ r h d. flat r h) j (con.reached j hj))

-- a table is connected where what is flat in it is flat in a connected one
pub connected_by : {n : ℕ} (t t' : List ℕ) → 4 ≤ n → Connected n t → Ends t' (rows n) (nodes n)
    → ((c : ℕ → Bool) → FlatAll n t' c → FlatAll n t c) → Connected n t'
connected_by {n} t t' big con ends flat =
    let s = part n t' (rows n) 0 in
    let f : FlatAll n t' (has s) =
    λ r h. part_flat n t' (rows n) 0 ends (omega arith) r h (omega arith) in
    record {
      reached = λ i h. one_colour (has s) con (flat (has s) f) i 0 h (omega arith)
          ∙ part_start n t' (rows n) 0;
    }

-- ---- two sets that one row alone leaves are equal, or each is the other's complement
pub parts_unique : {n : ℕ} {t : List ℕ} {e s s' : ℕ} → Connected n t → 4 ≤ n → Parts n t e s
    → Parts n t e s'
    → (d : Bool) × ((i : ℕ) → i < nodes n → has s i ≡ (d ⊕ has s' i))
parts_unique {n} {t} {e} {s} {s'} con big a b = (
  has s 0 ⊕ has s' 0,
  λ i h. xor_move (has s i) (has s' i) (has s 0 ⊕ has s' 0)
      (one_colour (λ i. has s i ⊕ has s' i) con flat i 0 h (omega arith)),
)
  where
    flat : FlatAll n t (λ i. has s i ⊕ has s' i)
    flat r h = go (either (eqb r e))
      where
        go : (eqb r e ≡ true) ⊎ (eqb r e ≡ false)
            → (has s (lo t r) ⊕ has s' (lo t r)) ≡ (has s (hi t r) ⊕ has s' (hi t r))
        go (inl w) = rw (eqb-true r e w)
            (xor_not (has s (lo t e)) (has s' (lo t e)) (has s (hi t e)) (has s' (hi t e))
            a.apart b.apart)
        go (inr w) = ap₂ ◌⊕◌ (a.closed r h (eqb-false r e w)) (b.closed r h (eqb-false r e w))

-- ---- in a valid table
pub valid-table : {n : ℕ} {t : List ℕ} → Valid n t → Table n t
valid-table v = record {
  ends = λ r h. let o = v.order r h in (omega arith, o.1);
  connected =
      v.connected;
}

pub row-parts : {n : ℕ} {t : List ℕ} → 4 ≤ n → Table n t → (r : ℕ) → r < rows n
    → Parts n t r (part n t r (lo t r))
row-parts {n} {t} big tab r h = record {
  apart = part_start n t r (lo t r) ∙ sym (ap not (second-out r big tab h));
  closed = part_flat n t r (lo t r) tab.ends (tab.ends r h).0;
}

module _ {n : ℕ} {t : List ℕ} (e u v : ℕ) (vt : Valid n t) (le : e < rows n)
    (j : Joins t e u v) where
  -- each row parts its two ends
  pub ends-parted : has (part n t e u) v ≡ false
  ends-parted = go (either (has (part n t e u) v))
    where
      c : ℕ → Bool
      c i = has (part n t e (lo t e)) i

      go : (has (part n t e u) v ≡ true) ⊎ (has (part n t e u) v ≡ false)
          → has (part n t e u) v ≡ false
      go (inr w) = w
      go (inl w) =
          let k = row-parts vt.big (valid-table vt) e le in
          absurd (not_self (c u) (sym (part_one n t e u c k.closed v w)
          ∙ apart_join t e v u c (joins_flip t e u v j) k.apart))

  pub part-parts : Parts n t e (part n t e u)
  part-parts = record {
    apart = join_apart t e u v (has (part n t e u)) j
        (part_start n t e u ∙ sym (ap not ends-parted));
    closed = part_flat n t e u (valid-table vt).ends (joins_nodes e vt le u v j).0;
  }

  -- a set that is closed but for row e and holds of its ends u alone is u's
  -- part
  pub part-is : {s : ℕ} → Parts n t e s → has s u ≡ true → (i : ℕ) → i < nodes n
      → has (part n t e u) i ≡ has s i
  part-is {s} p h i l =
      let w = parts_unique vt.connected vt.big part-parts p in
      w.1 i l ∙ ap (λ (d : Bool). d ⊕ has s i)
      (one w.0 (sym (w.1 u (joins_nodes e vt le u v j).0
      ∙ ap (λ (x : Bool). w.0 ⊕ x) h) ∙ part_start n t e u))
    where
      one : (d : Bool) → (d ⊕ true) ≡ true → d ≡ false
      one true q = absurd (false≢true q)
      one false q = refl

pub hangs : {n : ℕ} {t : List ℕ} (x p a : ℕ) → Valid n t → x < rows n → Joins t x p a
    → Hangs n t x p (part n t x a)
hangs {n} {t} x p a vt h j = record {
  parts = part-parts x a p vt h (joins_flip t x p a j);
  out =
      ends-parted x a p vt h (joins_flip t x p a j);
}

-- the parts of a row's two ends make up all nodes, and no node is in both
pub two-sides : {n : ℕ} {t : List ℕ} (a p o : ℕ) → Valid n t → a < rows n → Joins t a p o → (i : ℕ)
    → i < nodes n → has (part n t a o) i ≡ not (has (part n t a p) i)
two-sides {n} {t} a p o vt la j i l =
    let jo = joins_flip t a p o j in
    let w = parts_unique vt.connected vt.big
    (part-parts a o p vt la jo) (part-parts a p o vt la j) in
    w.1 i l ∙ ap (λ (d : Bool). d ⊕ has (part n t a p) i)
    (one w.0 (sym (ends-parted a o p vt la jo)
    ∙ w.1 p (joins_nodes a vt la p o j).0
    ∙ ap (λ (x : Bool). w.0 ⊕ x) (part_start n t a p)))
  where
    one : (d : Bool) → false ≡ (d ⊕ true) → d ≡ true
    one true e = refl
    one false e = absurd (false≢true e)

-- no two rows join the same nodes
pub parallel : {n : ℕ} {t : List ℕ} (e r p q : ℕ) → Valid n t → e < rows n → r < rows n
    → (r ≡ e → ⊥) → Joins t e p q → Joins t r p q → ⊥
parallel {n} {t} e r p q vt he hr d je jr =
    let s = part n t e (lo t e) in
    let w = row-parts vt.big (valid-table vt) e he in
    not_self (has s p) (apart_join t e p q (has s) je w.apart
    ∙ ap not (sym (flat_join t r p q (has s) jr (w.closed r hr d))))

-- ---- two rows of one tree never cross: of the four corners that their sets make, one is empty
same : Bool → Bool → Bool
same p q = not (p ⊕ q)

same_refl : (p : Bool) → same p p ≡ true
unfolding same
same_refl true = refl
same_refl false = refl

same_not : (p : Bool) → same (not p) p ≡ false
unfolding same
same_not true = refl
same_not false = refl

-- The empty corner is the one that lies away from the other row in each set: c
-- is s's colour at r', c' is s''s colour at r.
module _ (n : ℕ) (t : List ℕ) (r r' s s' : ℕ) (tab : Table n t) (h : r < rows n) (h' : r' < rows n)
    (d : r ≡ r' → ⊥) (a : Parts n t r s) (b : Parts n t r' s') where
  f : ℕ → Bool
  f i = same (has s i) (has s (lo t r')) || same (has s' i) (has s' (lo t r))

  go : (k : ℕ) → k < rows n → (eqb k r ≡ true) ⊎ (eqb k r ≡ false)
      → (eqb k r' ≡ true) ⊎ (eqb k r' ≡ false) → f (lo t k) ≡ f (hi t k)
  unfolding f
  go k l (inl w) w' =
      let c = has s (lo t r') in
      let c' = has s' (lo t r) in
      let e : has s' (hi t r) ≡ c' = sym (b.closed r h d) in
      rw (eqb-true k r w) (
      or_right (same (has s (lo t r)) c) (same c' c') (same_refl c')
      ∙ sym (or_right (same (has s (hi t r)) c) (same (has s' (hi t r)) c')
      (ap (λ (x : Bool). same x c') e ∙ same_refl c')))
  go k l (inr w) (inl w') =
      let c = has s (lo t r') in
      let c' = has s' (lo t r) in
      let e : has s (hi t r') ≡ c = sym (a.closed r' h' (λ q. d (sym q))) in
      rw (eqb-true k r' w') (
      ap (λ (x : Bool). x || same (has s' (lo t r')) c') (same_refl c)
      ∙ sym (ap (λ (x : Bool). x || same (has s' (hi t r')) c') (ap (λ (x : Bool). same x c) e
      ∙ same_refl c)))
  go k l (inr w) (inr w') =
      ap₂ (λ (p q : Bool). same p (has s (lo t r')) || same q (has s' (lo t r)))
      (a.closed k l (eqb-false k r w)) (b.closed k l (eqb-false k r' w'))

  pub empty_corner : (i : ℕ) → i < nodes n → has s i ≡ not (has s (lo t r'))
      → has s' i ≡ not (has s' (lo t r)) → ⊥
  unfolding f
  empty_corner i l p q =
      true≢false (
      sym (one_colour f tab.connected (λ k m. go k m (either (eqb k r)) (either (eqb k r')))
      i (lo t r) l (tab.ends r h).0
      ∙ or_right (same (has s (lo t r)) (has s (lo t r')))
      (same (has s' (lo t r)) (has s' (lo t r))) (same_refl (has s' (lo t r))))
      ∙ ap₂ (λ (x y : Bool). same x (has s (lo t r')) || same y (has s' (lo t r))) p q
      ∙ ap₂ ◌||◌ (same_not (has s (lo t r'))) (same_not (has s' (lo t r))))

-- the same for any two rows, also one and the same: they do not cross
pub never_cross : {n : ℕ} {t : List ℕ} {r r' s s' : ℕ} → Valid n t → r < rows n → r' < rows n
    → Parts n t r s → Parts n t r' s'
    → (p q : Bool) × ((i : ℕ) → i < nodes n → has s i ≡ p → has s' i ≡ q → ⊥)
never_cross {n} {t} {r} {r'} {s} {s'} vt h h' a b = go (either (eqb r r'))
  where
    go : (eqb r r' ≡ true) ⊎ (eqb r r' ≡ false)
        → (p q : Bool) × ((i : ℕ) → i < nodes n → has s i ≡ p → has s' i ≡ q → ⊥)
    go (inl w) =
        let u = parts_unique vt.connected vt.big a
        (subst (λ (x : ℕ). Parts n t x s') (sym (eqb-true r r' w)) b) in
        (true, not (u.0 ⊕ true), λ i l p q. differ u.0 (has s' i) (sym p ∙ u.1 i l) q)
      where
        differ : (d x : Bool) → true ≡ (d ⊕ x) → x ≡ not (d ⊕ true) → ⊥
        differ true x e f = true≢false (e ∙ ap not f)
        differ false x e f = true≢false (e ∙ f)
    go (inr w) = (
      not (has s (lo t r')),
      not (has s' (lo t r)),
      empty_corner n t r r' s s' (valid-table vt) h h' (eqb-false r r' w) a b,
    )

-- where row x is outside S' and row x' outside S, no node is in both
pub disjoint : {n : ℕ} {t : List ℕ} {x x' S S' : ℕ} → Table n t → x < rows n → x' < rows n
    → (x ≡ x' → ⊥) → Parts n t x S → Parts n t x' S'
    → has S' (lo t x) ≡ false → has S (lo t x') ≡ false → (i : ℕ) → i < nodes n → has S i ≡ true
    → has S' i ≡ false
disjoint {n} {t} {x} {x'} {S} {S'} tab l l' d a b o o' i h p = go (either (has S' i))
  where
    go : (has S' i ≡ true) ⊎ (has S' i ≡ false) → has S' i ≡ false
    go (inl q) = absurd (empty_corner n t x x' S S' tab l l' d a b i h (p ∙ sym (ap not o'))
        (q ∙ sym (ap not o)))
    go (inr q) = q
