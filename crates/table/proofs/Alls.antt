-- A test of all, as the code finds it, is that of every place. Assumes nothing.
use mathlib.Core.Path.{◌≡◌, refl, sym, ap, ap₂, ◌∙◌}
use mathlib.Core.Bool.{Bool, true, ◌&&◌, and-true, and_assoc}
use mathlib.Core.List.{List, [], ◌∷◌}
use Prim.Native.Nat.{ℕ, zero, suc, ◌+◌, ◌*◌, ◌-◌, ◌≤◌, ◌<◌}
use native.Mathlib.Numerals.{add-one}
use Rattle.std.proofs.Common.{add-zero, add-suc}
use native.Mathlib.Omega.{arith}
use lib.Dec.{eqb, ltb, leb}
use lib.ListN.{length, get_or, take, drop}
use borrow.Author.Tests.{lt-ltb, le-ltb}
use Rattle.std.specs.List.{fold, list_all}
use Rattle.std.specs.Simd.{first_chunks}
use Rattle.std.proofs.lemmas.List.{take_all, drop-drop, get_or-drop, length-drop}
use Rattle.std.proofs.lemmas.List.Folds.{list_all_more}
use Rattle.std.proofs.lemmas.Simd.{get_or-chunk}
use Rattle.taxa.specs.Sets.{pick}
use Rattle.tree.specs.Tree.{rows, nodes, in_order, every, wanted}
use Rattle.tree.proofs.RowCounts.{every_same}

-- ---- tests that a fold gathers
pub fold_all : {X : Type 0} (p : X → Bool) (f : Bool → X → Bool)
    → ((a : Bool) (x : X) → f a x ≡ (a && p x)) → (a : Bool) (xs : List X)
    → fold f a xs ≡ (a && list_all p xs)
fold_all p f h a [] = sym (and-true a)
fold_all p f h a (x ∷ xs) =
    ap (λ b. fold f b xs) (h a x) ∙ fold_all p f h (a && p x) xs ∙ and_assoc a (p x) (list_all p xs)

-- ---- a test of the first k of a list
every_list : {X : Type 0} (p : X → Bool) (d : X) (xs : List X) (k : ℕ) → k ≤ length xs
    → every (λ i. p (get_or xs i d)) k ≡ list_all p (take k xs)
unfolding every
every_list p d xs zero h = refl
every_list p d xs (suc k) h =
    rw (← add-one k) (ap (λ (b : Bool). b && p (get_or xs k d)) (every_list p d xs k (omega arith))
    ∙ sym (list_all_more p xs k d (omega arith)))

every_plus : (f : ℕ → Bool) (a b : ℕ) → every f (a + b) ≡ (every f a && every (λ i. f (a + i)) b)
unfolding every
every_plus f a zero = rw add-zero (sym (and-true (every f a)))
every_plus f a (suc b) = rw add-suc (ap (λ (p : Bool). p && f (a + b)) (every_plus f a b)
    ∙ and_assoc (every f a) (every (λ i. f (a + i)) b) (f (a + b)))

-- ---- the rows of a table as pairs of bytes
row_at : (t : List ℕ) (k r : ℕ) → r < k → get_or (first_chunks 2 k t) r [] ≡ take 2 (drop (2 * r) t)
row_at t zero r h = absurd (omega arith)
row_at t (suc k) zero h = refl
row_at t (suc k) (suc r) h =
    row_at (drop 2 t) k r (omega arith)
    ∙ ap (take 2) (drop-drop (2 * r) 2 t ∙ ap (λ (i : ℕ). drop i t) (omega arith))

rows-long : (t : List ℕ) (k : ℕ) → length (first_chunks 2 k t) ≡ k
rows-long t zero = refl
rows-long t (suc k) = ap suc (rows-long (drop 2 t) k)

-- a row's two bytes are nodes, the smaller first, as the code gathers it
row_fits : ℕ → List ℕ → Bool
row_fits n row = ltb (get_or row 0 0) (get_or row 1 0) && leb (get_or row 1 0) (rows n)

abbrev pub with_row : ℕ → Bool → List ℕ → Bool
with_row n a row = a && ltb (get_or row 0 0) (get_or row 1 0) && leb (get_or row 1 0) (rows n)

pub all_rows : (n : ℕ) (t : List ℕ) (k : ℕ)
    → fold (with_row n) true (first_chunks 2 k t) ≡ every (in_order n t) k
unfolding row_fits
all_rows n t k =
    let rs = first_chunks 2 k t in
    let long = rows-long t k in
    fold_all (row_fits n) (with_row n) (λ a row. and_assoc a _ _) true rs
    ∙ ap (list_all (row_fits n)) (sym (take_all k rs (omega arith)))
    ∙ sym (every_list (row_fits n) [] rs k (omega arith))
    ∙ every_same (λ r. row_fits n (get_or rs r [])) (in_order n t) k
    (λ r l. same r (row_at t k r l))
  where
    same : (r : ℕ) → get_or (first_chunks 2 k t) r [] ≡ take 2 (drop (2 * r) t)
        → row_fits n (get_or (first_chunks 2 k t) r []) ≡ in_order n t r
    same r e = rw (
      e,
      get_or-chunk (2 * r) 2 t 0 0 (omega arith),
      get_or-chunk (2 * r) 2 t 1 0 (omega arith),
      add-zero,
    )

-- ---- the test of all counts, in two stretches: the taxa, and the inner nodes
module _ (n : ℕ) (d : List ℕ) (few : 2 ≤ n) (room : nodes n ≤ length d) where
  abbrev right : ℕ → Bool
  right v = eqb (get_or d v 0) (wanted n v)

  pub two_stretches :
      (list_all (λ x. eqb x 1) (take n d)
      && list_all (λ x. eqb x 3) (take (nodes n - n) (drop n d)))
      ≡ every right (nodes n)
  two_stretches =
      ap₂ ◌&&◌
      (sym (every_list (λ x. eqb x 1) 0 d n (omega arith))
      ∙ every_same (λ v. eqb (get_or d v 0) 1) right n
      (λ v l. sym (ap (λ (p : Bool). eqb (get_or d v 0) (pick p 1 3)) (lt-ltb v n l))))
      (sym (every_list (λ x. eqb x 3) 0 (drop n d) (nodes n - n) (omega (arith, length-drop n d)))
      ∙ every_same (λ i. eqb (get_or (drop n d) i 0) 3) (λ i. right (n + i)) (nodes n - n)
      (λ i l. ap₂ eqb (get_or-drop n d i 0)
      (sym (ap (λ (p : Bool). pick p 1 3) (le-ltb (n + i) n (omega arith))))))
      ∙ sym (every_plus right n (nodes n - n)) ∙ ap (every right) (omega arith)
