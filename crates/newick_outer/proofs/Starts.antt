-- The start of a table with room for the most taxa is written as the table of
-- fewer would be. Assumes nothing.
use mathlib.Core.Path.{◌≡◌, refl, ap, ◌∙◌}
use mathlib.Core.List.{List, [], ◌∷◌}
use Prim.Native.Nat.{ℕ, zero, suc, ◌+◌, ◌*◌, ◌≤◌}
use native.Mathlib.Omega.{arith}
use lib.ListN.{take, set, replicate}
use Rattle.taxa.specs.Most.{most}
use Rattle.tree.specs.Tree.{rows}
use Rattle.newick_grammar.specs.Newick.{Member, taxon, group}
use Rattle.newick_grammar.specs.Numbers.{groups, node, join, with_rows, blank}

take-set : (k : ℕ) (t : List ℕ) (i x : ℕ) → take k (set t i x) ≡ set (take k t) i x
take-set zero t i x = refl
take-set (suc k) [] i x = refl
take-set (suc k) (a ∷ t) zero x = refl
take-set (suc k) (a ∷ t) (suc i) x = ap (λ (l : List ℕ). a ∷ l) (take-set k t i x)

pub take-join : (k v p : ℕ) (t : List ℕ) → take k (join v p t) ≡ join v p (take k t)
take-join k v p t = take-set k (set t (2 * v) v) (2 * v + 1) p
    ∙ ap (λ (l : List ℕ). set l (2 * v + 1) p) (take-set k t (2 * v) v)

pub take-rows : (k : ℕ) (a : Member) (i : ℕ) (t : List ℕ)
    → take k (with_rows a i t) ≡ with_rows a i (take k t)
unfolding with_rows
take-rows k (taxon d) i t = refl
take-rows k (group l r) i t =
    let j = i + groups l in
    let p = j + groups r in
    take-join k (node r j) p _
    ∙ ap (join (node r j) p) (take-join k (node l i) p _
    ∙ ap (join (node l i) p) (take-rows k r j (with_rows l i t)
    ∙ ap (with_rows r j) (take-rows k l i t)))

take-zeros : (k m : ℕ) → k ≤ m → take {A = ℕ} k (replicate m 0) ≡ replicate k 0
take-zeros zero m h = refl
take-zeros (suc k) zero h = absurd (omega (arith, h))
take-zeros (suc k) (suc m) h = ap (λ (l : List ℕ). 0 ∷ l)
    (take-zeros k m (omega (arith, h)))

pub take-blank : {n : ℕ} → n ≤ most → take (2 * rows n) (blank most) ≡ blank n
take-blank {n} few = take-zeros (2 * rows n) (2 * rows most) (omega (arith, few))
