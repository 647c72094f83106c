-- What the tests of the code tell of the rows of a move. Assumes nothing.
use mathlib.Core.Path.{◌≡◌, refl, sym, ap, ◌∙◌}
use mathlib.Core.Bool.{Bool, true, false, not, ◌&&◌, ◌||◌, true≢false, false≢true}
use mathlib.Core.List.{List, [], ◌∷◌}
use Prim.Native.Nat.{ℕ, ◌*◌, ◌-◌, ◌≤◌, ◌<◌}
use native.Mathlib.Omega.{arith}
use lib.Dec.{leb}
use borrow.Author.Tests.{ne_eqb, le-leb, leb-true}
use Rattle.std.specs.Prelude.{is_some}
use Rattle.std.specs.Bool.{then_some}
use Rattle.std.specs.List.{list_all}
use Rattle.moves.specs.Between.{to_go}
use Rattle.moves.specs.declared.Side.{Side}
use Rattle.taxa.proofs.Bools.{and_left, and_right}
use Rattle.tree.specs.Tree.{lo, hi, rows, touches, Valid}
use Rattle.tree.specs.Refusals.{Accepted, each}
use Rattle.tree.proofs.Joins.{lo-touch, hi-touch}
use Rattle.sides.specs.Between.{At}
use Rattle.moves.specs.Moves.{all_rows, at_both, nni_fits}

-- ---- row numbers
pub three-rows : {n : ℕ} (a b c : ℕ) → 4 ≤ n → all_rows n (a ∷ b ∷ c ∷ []) ≡ true
    → (a < rows n) × (b < rows n) × (c < rows n)
unfolding each
three-rows {n} a b c big h =
    let top = 2 * n - 4 in
    let bc = and_right (leb a top) _ h in
    let la = leb-true a top (and_left _ _ h) in
    let lb = leb-true b top (and_left _ _ bc) in
    let lc = leb-true c top (and_left _ _ (and_right (leb b top) _ bc)) in
    omega arith

-- An SPR has two.
pub two-rows : {n : ℕ} (a b : ℕ) → 4 ≤ n → all_rows n (a ∷ b ∷ []) ≡ true → (a < rows n) × (b < rows n)
unfolding each
two-rows {n} a b big h =
    let top = 2 * n - 4 in
    let la = leb-true a top (and_left _ _ h) in
    let lb = leb-true b top (and_left _ _ (and_right (leb a top) _ h)) in
    omega arith

-- `each` is std's `list_all`
pub all-each : (p : ℕ → Bool) (xs : List ℕ) → list_all p xs ≡ each p xs
unfolding each
all-each p [] = refl
all-each p (x ∷ xs) = ap (λ (b : Bool). p x && b) (all-each p xs)

-- ---- the rows of an NNI: with e inner, and neither x nor y, their ends tell
pub either_way : {n : ℕ} {t : List ℕ} {e x y : ℕ} → Valid n t → e < rows n → n ≤ lo t e
    → (x ≡ e → ⊥) → (y ≡ e → ⊥)
    → nni_fits n t e x y ≡ (at_both t x (lo t e) y (hi t e) || at_both t x (hi t e) y (lo t e))
unfolding nni_fits
either_way {n} {t} {e} {x} {y} vt le a b c =
    let l : n ≤ hi t e = omega (arith, (vt.order e le).0) in
    rw (le-leb n (lo t e) a, le-leb n (hi t e) l, ne_eqb x e b, ne_eqb y e c)

-- ---- ends of a row
pub lo_end : {n : ℕ} {t : List ℕ} {a v : ℕ} → Accepted n t → a < rows n → v ≡ lo t a → At n t a v
lo_end {t = t} {a = a} good l e = record { good = good; row = l; touch = rw e (lo-touch t a) }

pub hi_end : {n : ℕ} {t : List ℕ} {a v : ℕ} → Accepted n t → a < rows n → v ≡ hi t a → At n t a v
hi_end {t = t} {a = a} good l e = record { good = good; row = l; touch = rw e (hi-touch t a) }

-- ---- an end that is put onto row b, unless b touches it, stays where it has no
-- target
pub stays-there : (t : List ℕ) (v b : ℕ) {s : Side} {none : Bool} → s ≡ to_go t v b
    → is_some s.target ≡ not none → touches t b v ≡ none
stays-there t v b {s} {none} h e = go (touches t b v) none (sym (ap (λ (w : Side). is_some w.target) h) ∙ e)
  where
    go : (p q : Bool) → is_some (then_some (not p) b) ≡ not q → p ≡ q
    go true true w = refl
    go true false w = absurd (false≢true w)
    go false true w = absurd (true≢false w)
    go false false w = refl

-- what the check is to use
pub ruleset fit_laws = (three-rows, two-rows, stays-there)
