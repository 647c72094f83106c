-- A row put into a table: the row joins the two nodes, the smaller first, and
-- every other row is as before. Assumes nothing.
use mathlib.Core.Path.{◌≡◌, ◌∙◌}
use mathlib.Core.Logic.{inl, inr}
use mathlib.Core.List.{List}
use Prim.Native.Nat.{ℕ, ◌+◌, ◌*◌, ◌≤◌, ◌<◌, min, max}
use native.Mathlib.Omega.{arith}
use lib.Arith.{lt_of_le-ne}
use lib.Dec.{leb}
use lib.ListN.{length, set, length-set}
use lib.Seq.{get_or-set_same, get_or-set_other}
use borrow.Author.Tests.{leb-true, leb-false}
use Rattle.taxa.proofs.Bools.{Either, either}
use Rattle.tree.specs.Tree.{lo, hi}
use Rattle.tree.proofs.Joins.{Joins, lt_joins}
use Rattle.moves.specs.Moves.{put}
use Rattle.moves.proofs.Rows.Ends.{SameRow}

module _ (t : List ℕ) (r a b : ℕ) where
  pub length-put : length (put t r a b) ≡ length t
  unfolding put
  length-put =
      length-set (set t (2 * r) (min a b)) (2 * r + 1) (max a b) ∙ length-set t (2 * r) (min a b)

  lo-put : 2 * r + 1 < length t → lo (put t r a b) r ≡ min a b
  unfolding put
  lo-put h =
      get_or-set_other (set t (2 * r) (min a b)) (2 * r + 1) (2 * r) (max a b) 0 (omega arith)
      ∙ get_or-set_same t (2 * r) (min a b) 0 (omega arith)

  hi-put : 2 * r + 1 < length t → hi (put t r a b) r ≡ max a b
  unfolding put
  hi-put h =
      get_or-set_same (set t (2 * r) (min a b)) (2 * r + 1) (max a b) 0
      (omega (arith, length-set t (2 * r) (min a b)))

  pub put_joins : 2 * r + 1 < length t → Joins (put t r a b) r a b
  put_joins h = go (either (leb a b))
    where
      go : Either (leb a b) → Joins (put t r a b) r a b
      go (inl w) =
          let l : a ≤ b = leb-true a b w in inl (omega (arith, lo-put h), omega (arith, hi-put h))
      go (inr w) =
          let l : b < a = leb-false a b w in inr (omega (arith, lo-put h), omega (arith, hi-put h))

  pub put_order : 2 * r + 1 < length t → (a ≡ b → ⊥) → lo (put t r a b) r < hi (put t r a b) r
  put_order h d = go (either (leb a b))
    where
      go : Either (leb a b) → lo (put t r a b) r < hi (put t r a b) r
      go (inl w) =
          let l : a < b = lt_of_le-ne (leb-true a b w) d in omega (arith, lo-put h, hi-put h)
      go (inr w) = let l : b < a = leb-false a b w in omega (arith, lo-put h, hi-put h)

  -- the same, with a bound on the two nodes
  pub put-ordered : (k : ℕ)
      → 2 * r + 1 < length t
      → (a ≡ b → ⊥)
      → a < k
      → b < k
      → (lo (put t r a b) r < hi (put t r a b) r) × (hi (put t r a b) r < k)
  put-ordered k h d la lb = (put_order h d, (lt_joins (put t r a b) r a b k (put_joins h) la lb).1)

  pub lo_other : (k : ℕ) → (k ≡ r → ⊥) → lo (put t r a b) k ≡ lo t k
  unfolding put
  lo_other k d =
      get_or-set_other (set t (2 * r) (min a b)) (2 * r + 1) (2 * k) (max a b) 0 (omega arith)
      ∙ get_or-set_other t (2 * r) (2 * k) (min a b) 0 (omega arith)

  pub hi_other : (k : ℕ) → (k ≡ r → ⊥) → hi (put t r a b) k ≡ hi t k
  unfolding put
  hi_other k d =
      get_or-set_other (set t (2 * r) (min a b)) (2 * r + 1) (2 * k + 1) (max a b) 0 (omega arith)
      ∙ get_or-set_other t (2 * r) (2 * k + 1) (min a b) 0 (omega arith)

-- a row that has its ends from another table is in order as it is there
pub order_same : (t t' : List ℕ) (r k : ℕ)
    → SameRow t t' r
    → (lo t r < hi t r) × (hi t r < k)
    → (lo t' r < hi t' r) × (hi t' r < k)
order_same t t' r k e o = (omega (arith, e.0, e.1, o.0), omega (arith, e.1, o.1))
