-- How many row ends a node has: a row put elsewhere changes it by that row's
-- ends alone; the edits of the moves leave every node its number.
-- Assumes nothing.
use mathlib.Core.Path.{◌≡◌, refl, sym, ap, ap₂, ◌∙◌}
use mathlib.Core.Logic.{inl, inr}
use mathlib.Core.List.{List}
use Prim.Native.Nat.{ℕ, zero, suc, ◌+◌, ◌*◌, ◌≤◌, ◌<◌}
use native.Mathlib.Nat.{le_refl, add_comm}
use native.Mathlib.Omega.{arith}
use lib.Dec.{eqb}
use lib.Arith.{lt_of_le-ne}
use lib.ListN.{length}
use borrow.Author.Tests.{eqb-true, eqb-false}
use Rattle.taxa.specs.Sets.{tally}
use Rattle.taxa.proofs.Bools.{Either, either}
use Rattle.tree.specs.Tree.{lo, hi, touches, count}
use Rattle.tree.proofs.Joins.{Joins}
use Rattle.tree.proofs.RowCounts.{touch-tally}
use Rattle.moves.specs.Moves.{put}
use Rattle.moves.proofs.Rows.Ends.{SameRow}
use Rattle.moves.proofs.Rows.Puts.{length-put, put_joins, lo_other, hi_other}

-- how many of a row's two ends u and w are v
abbrev pub at2 : ℕ → ℕ → ℕ → ℕ
at2 u w v = tally (eqb u v) + tally (eqb w v)

-- how many ends at v the rows below k have
unfoldable pub deg : List ℕ → ℕ → ℕ → ℕ
deg t v zero = 0
deg t v (suc k) = at2 (lo t k) (hi t k) v + deg t v k

pub joins_at2 : (t : List ℕ) (r u w v : ℕ) → Joins t r u w → at2 (lo t r) (hi t r) v ≡ at2 u w v
joins_at2 t r u w v (inl j) = ap₂ (λ (x y : ℕ). at2 x y v) j.0 j.1
joins_at2 t r u w v (inr j) =
    ap₂ (λ (x y : ℕ). at2 x y v) j.0 j.1 ∙ add_comm (tally (eqb w v)) (tally (eqb u v))

-- where the first end is below the second, the rows at v are counted by their
-- ends
pub count_deg : (t : List ℕ) (v k : ℕ)
    → ((r : ℕ) → r < k → lo t r < hi t r)
    → count (λ r. touches t r v) k ≡ deg t v k
unfolding count deg
count_deg t v zero h = refl
count_deg t v (suc k) h =
    let l = h k (le_refl (suc k)) in
    ap₂ ◌+◌ (touch-tally t k v (λ e. omega arith)) (count_deg t v k (λ r m. h r (omega arith)))

deg_same : (t t' : List ℕ) (v k : ℕ)
    → ((r : ℕ) → r < k → SameRow t t' r)
    → deg t' v k ≡ deg t v k
unfolding deg
deg_same t t' v zero h = refl
deg_same t t' v (suc k) h =
    let w = h k (le_refl (suc k)) in
    ap₂ ◌+◌ (ap₂ (λ (x y : ℕ). at2 x y v) w.0 w.1)
    (deg_same t t' v k (λ r l. h r (omega arith)))

-- a row put elsewhere takes its old ends away and adds its new ones
pub deg_put : (t : List ℕ) (r a b v k : ℕ)
    → r < k
    → 2 * r + 1 < length t
    → deg (put t r a b) v k + at2 (lo t r) (hi t r) v ≡ deg t v k + at2 a b v
unfolding deg
deg_put t r a b v zero h l = absurd (omega arith)
deg_put t r a b v (suc k) h l = go (λ m. deg_put t r a b v k m l) (either (eqb k r))
  where
    go : (r < k → deg (put t r a b) v k + at2 (lo t r) (hi t r) v ≡ deg t v k + at2 a b v)
        → Either (eqb k r)
        → at2 (lo (put t r a b) k) (hi (put t r a b) k) v + deg (put t r a b) v k
        + at2 (lo t r) (hi t r) v
        ≡ at2 (lo t k) (hi t k) v + deg t v k + at2 a b v
    go ih (inl w) =
        let e : k ≡ r = eqb-true k r w in
        let same : deg (put t r a b) v k ≡ deg t v k
        = deg_same t (put t r a b) v k
        (λ j m. (lo_other t r a b j (λ d. omega arith), hi_other t r a b j (λ d. omega arith))) in
        let new : at2 (lo (put t r a b) k) (hi (put t r a b) k) v ≡ at2 a b v
        = rw e (joins_at2 (put t r a b) r a b v (put_joins t r a b l)) in
        let old : at2 (lo t k) (hi t k) v ≡ at2 (lo t r) (hi t r) v
        = ap (λ (j : ℕ). at2 (lo t j) (hi t j) v) e in
        omega arith
    go ih (inr w) =
        let d = eqb-false k r w in
        let same : at2 (lo (put t r a b) k) (hi (put t r a b) k) v ≡ at2 (lo t k) (hi t k) v
        = ap₂ (λ (x y : ℕ). at2 x y v) (lo_other t r a b k d) (hi_other t r a b k d) in
        omega (arith, ih (lt_of_le-ne (omega arith) (λ z. d (sym z))))

-- the rows of SPR and TBR: f becomes r-s, b becomes c-p, g becomes p-d
pub deg_move : (t : List ℕ) (f g b p r s v m : ℕ)
    → 2 * m ≤ length t
    → f < m
    → g < m
    → b < m
    → (f ≡ g → ⊥)
    → (f ≡ b → ⊥)
    → (g ≡ b → ⊥)
    → Joins t f p r
    → Joins t g p s
    → deg (put (put (put t f r s) b (lo t b) p) g p (hi t b)) v m ≡ deg t v m
deg_move t f g b p r s v m len hf hg hb fg fb gb jf jg =
    let t₁ = put t f r s in
    let t₂ = put t₁ b (lo t b) p in
    let l₁ = length-put t f r s in
    let l₂ = length-put t₁ b (lo t b) p in
    let s₁ = deg_put t f r s v m hf (omega arith) in
    let s₂ = deg_put t₁ b (lo t b) p v m hb (omega arith) in
    let s₃ = deg_put t₂ g p (hi t b) v m hg (omega arith) in
    let o₁ : at2 (lo t f) (hi t f) v ≡ at2 p r v = joins_at2 t f p r v jf in
    let o₂ : at2 (lo t₁ b) (hi t₁ b) v ≡ at2 (lo t b) (hi t b) v
    = ap₂ (λ (x y : ℕ). at2 x y v) (lo_other t f r s b (λ d. fb (sym d)))
    (hi_other t f r s b (λ d. fb (sym d))) in
    let o₃ : at2 (lo t₂ g) (hi t₂ g) v ≡ at2 p s v
    = ap₂ (λ (x y : ℕ). at2 x y v)
    (lo_other t₁ b (lo t b) p g gb ∙ lo_other t f r s g (λ d. fg (sym d)))
    (hi_other t₁ b (lo t b) p g gb ∙ hi_other t f r s g (λ d. fg (sym d)))
    ∙ joins_at2 t g p s v jg in
    omega arith

-- the rows of NNI: x, which joins p and c, becomes q-c, and y, which joins q
-- and d, becomes p-d
pub deg_nni : (t : List ℕ) (x y p q c d v m : ℕ) → 2 * m ≤ length t → x < m → y < m → (x ≡ y → ⊥)
    → Joins t x p c → Joins t y q d → deg (put (put t x q c) y p d) v m ≡ deg t v m
deg_nni t x y p q c d v m len hx hy xy jx jy =
    let t₁ = put t x q c in
    let l₁ = length-put t x q c in
    let s₁ = deg_put t x q c v m hx (omega arith) in
    let s₂ = deg_put t₁ y p d v m hy (omega arith) in
    let o₁ : at2 (lo t x) (hi t x) v ≡ at2 p c v = joins_at2 t x p c v jx in
    let o₂ : at2 (lo t₁ y) (hi t₁ y) v ≡ at2 q d v
    = ap₂ (λ (i j : ℕ). at2 i j v) (lo_other t x q c y (λ w. xy (sym w)))
    (hi_other t x q c y (λ w. xy (sym w)))
    ∙ joins_at2 t y q d v jy in
    omega arith
