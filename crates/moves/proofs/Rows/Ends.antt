-- The ends of a row: whether it is at a node, whether it has the same in two
-- tables, and whether a set holds one. Assumes nothing.
use mathlib.Core.Path.{◌≡◌, refl, sym, ap, ap₂, ◌∙◌}
use mathlib.Core.Logic.{inl, inr}
use mathlib.Core.Bool.{true, false, ◌||◌}
use mathlib.Core.List.{List}
use Prim.Native.Nat.{ℕ, zero, suc, ◌<◌}
use lib.Dec.{eqb}
use Rattle.taxa.specs.Sets.{has}
use Rattle.tree.specs.Tree.{lo, hi, rows, nodes, touches, far, others}
use Rattle.tree.proofs.Joins.{Joins, touch_joins}
use Rattle.tree.proofs.Bridges.{Table}
use Rattle.tree.proofs.Colourings.{Parts, disjoint}

-- row r has the same ends in both tables
abbrev pub SameRow : List ℕ → List ℕ → ℕ → Type 0
SameRow t t' r = (lo t' r ≡ lo t r) × (hi t' r ≡ hi t r)

-- a row whose ends are other nodes than v is not at v
pub no_touch : (t : List ℕ) (r v : ℕ)
    → (v ≡ lo t r → ⊥) × (v ≡ hi t r → ⊥)
    → touches t r v ≡ true
    → ⊥
no_touch t r v o h = go (touch_joins t r v h)
  where
    go : Joins t r v (far t r v) → ⊥
    go (inl j) = o.0 (sym j.0)
    go (inr j) = o.1 (sym j.1)

-- a row with the same ends in two tables is at the same nodes
pub touch_same : (t t' : List ℕ) (r v : ℕ) → SameRow t t' r → touches t' r v ≡ touches t r v
touch_same t t' r v e = ap₂ (λ (l m : ℕ). eqb l v || eqb m v) e.0 e.1

-- two tables with the same rows at v have the same others there
pub others_same : (t t' : List ℕ) (e v k : ℕ) → ((j : ℕ) → touches t' j v ≡ touches t j v)
    → others t' e v k ≡ others t e v k
unfolding others
others_same t t' e v zero h = refl
others_same t t' e v (suc k) h = rw (h k, others_same t t' e v k h)

-- a set that holds both ends of a row or neither, and not its end u, does not
-- hold the smaller end
pub out-lo : (t : List ℕ) (r u v S : ℕ)
    → Joins t r u v
    → has S u ≡ false
    → has S (lo t r) ≡ has S (hi t r)
    → has S (lo t r) ≡ false
out-lo t r u v S (inl j) h w = ap (has S) j.0 ∙ h
out-lo t r u v S (inr j) h w = w ∙ ap (has S) j.1 ∙ h

-- the two sets have no node in common
abbrev pub Apart : ℕ → ℕ → ℕ → Type 0
Apart n S S' = (i : ℕ) → i < nodes n → has S i ≡ true → has S' i ≡ false

-- row r joins u and v, and alone leaves the set S
pub record Leaves (n : ℕ) (t : List ℕ) (r u v S : ℕ) : Type 0 where
  pub lt : r < rows n
  pub row : Joins t r u v
  pub parts : Parts n t r S

-- S hangs by row r, which has an end u outside S', and S' by row r', which has
-- an end u' outside S: they have no node in common
pub hang_apart : {n : ℕ} {t : List ℕ} {r u v r' u' v' S S' : ℕ}
    → Table n t
    → (r ≡ r' → ⊥)
    → Leaves n t r u v S
    → Leaves n t r' u' v' S'
    → has S' u ≡ false
    → has S u' ≡ false
    → Apart n S S'
hang_apart {n} {t} {r} {u} {v} {r'} {u'} {v'} {S} {S'} tab d a b o o' =
    disjoint tab a.lt b.lt d a.parts b.parts
    (out-lo t r u v S' a.row o (b.parts.closed r a.lt d))
    (out-lo t r' u' v' S b.row o' (a.parts.closed r' b.lt (λ w. d (sym w))))

-- a set that holds the ends u and v holds the smaller and the larger
pub both_in : (t : List ℕ) (r u v S : ℕ)
    → Joins t r u v
    → has S u ≡ true
    → has S v ≡ true
    → (has S (lo t r) ≡ true) × (has S (hi t r) ≡ true)
both_in t r u v S (inl j) a b = (ap (has S) j.0 ∙ a, ap (has S) j.1 ∙ b)
both_in t r u v S (inr j) a b = (ap (has S) j.0 ∙ b, ap (has S) j.1 ∙ a)
