-- Where a text is stuck: no continuation of what was read begins as the text
-- goes on. Assumes nothing.
use mathlib.Core.Path.{◌≡◌, refl, sym, ap, ap₂, ◌∙◌, subst}
use mathlib.Core.Bool.{Bool, true, false, true≢false, ◌&&◌}
use mathlib.Core.List.{List, [], ◌∷◌, ◌++◌, head-eq_of_cons-eq, cons-ne-nil}
use Prim.Native.Nat.{ℕ, zero, suc, ◌+◌, ◌≤◌, ◌<◌}
use native.Mathlib.Numerals.{add-one}
use native.Mathlib.Omega.{arith}
use lib.Dec.{eqb, ltb}
use lib.ListN.{length, take, drop, get_or, take-append-drop, drop_of_length-le}
use lib.Seq.{drop-cons}
use borrow.Author.Tests.{lt-ltb, ltb-true, ltb-false, eq-eqb, eqb-true}
use Rattle.taxa.proofs.Bools.{and_left, and_right}
use Rattle.newick_labels.specs.Between.{Stop}
use Rattle.newick_labels.proofs.TextLaws.{step}
use Rattle.newick_grammar.specs.Newick.{Member, taxon, group, IsTree, GoesOn, NoTree}
use Rattle.newick_members.specs.Between.{Over, here}

-- x begins as s goes on at a place
pub data Agrees (s : List ℕ) (p : ℕ) (x : List ℕ) : Type 0 where
  byte : p < length s → (y : List ℕ) → x ≡ get_or s p 0 ∷ y → Agrees s p x
  ended : p ≡ length s → x ≡ [] → Agrees s p x

-- one text for another that is the same
pub as_tree : (n : ℕ) {a b : List ℕ} → a ≡ b → IsTree n a → IsTree n b
as_tree n e t = subst (IsTree n) e t

rest_agrees : {s : List ℕ} {p : ℕ} → p ≤ length s → Agrees s p (drop p s)
rest_agrees {s} {p} inside = go (ltb p (length s)) refl
  where
    go : (b : Bool) → ltb p (length s) ≡ b → Agrees s p (drop p s)
    go true e =
        let l = ltb-true p (length s) e in
        byte l (drop (suc p) s) (drop-cons s p 0 l)
    go false e =
        let l = ltb-false p (length s) e in
        ended (omega (arith, l, inside)) (drop_of_length-le s l)

module _ {n : ℕ} {s : List ℕ} {p : ℕ} (inside : p ≤ length s) where
  -- what was read goes on to a tree, and not as the text does
  pub stuck : GoesOn n (take p s)
      → ((x : List ℕ) → Agrees s p x → IsTree n (take p s ++ x) → ⊥)
      → NoTree n s p
  stuck g dead = record {
    none = λ t. dead (drop p s) (rest_agrees inside)
        (as_tree n (sym (take-append-drop p s)) t);
    inside = inside;
    before = g;
    there = λ h (w, t). dead (get_or s p 0 ∷ w) (byte h w refl)
        (as_tree n (step s w p h) t);
  }

  -- every tree goes on with a byte that the text has not
  pub expect : (b : ℕ) → GoesOn n (take p s)
      → ((x : List ℕ) → Agrees s p x → IsTree n (take p s ++ x) → (y : List ℕ) × (x ≡ b ∷ y))
      → here s p b ≡ false → NoTree n s p
  expect b g only e = stuck g (λ x a t. let q = only x a t in go x a q.0 q.1)
    where
      go : (x : List ℕ) → Agrees s p x → (y : List ℕ) → x ≡ b ∷ y → ⊥
      go x (byte h z i) y q = true≢false
          (sym (ap₂ ◌&&◌ (lt-ltb p (length s) h)
          (eq-eqb (get_or s p 0) b (head-eq_of_cons-eq (sym i ∙ q)))) ∙ e)
      go x (ended h i) y q = cons-ne-nil _ _ (sym (sym i ∙ q))

-- a byte that stands at a place
module _ (s : List ℕ) (p b : ℕ) (e : here s p b ≡ true) where
  pub here_in : p < length s
  here_in = ltb-true p (length s)
      (and_left (ltb p (length s)) (eqb (get_or s p 0) b) e)

  pub here-is : get_or s p 0 ≡ b
  here-is = eqb-true (get_or s p 0) b
      (and_right (ltb p (length s)) (eqb (get_or s p 0) b) e)

  pub here_step : (x : List ℕ) → take (p + 1) s ++ x ≡ take p s ++ (b ∷ x)
  here_step x = rw add-one
      (step s x p here_in ∙ ap (λ (c : ℕ). take p s ++ (c ∷ x)) here-is)

-- what follows a member is settled by the byte there
pub over_agrees : (t : Member) {s : List ℕ} {p : ℕ} {x : List ℕ}
    → Over t (drop p s) → Agrees s p x → Over t x
unfolding Stop
over_agrees (group l r) h a = tt
over_agrees (taxon d) {s} {p} {x} h a = λ i j. go x (h i j) a
  where
    go : (x : List ℕ) → Stop (drop p s) → Agrees s p x → Stop x
    go x k (byte l y e) = rw e (rw (drop-cons s p 0 l) at k)
    go x k (ended l e) = rw e tt

-- from a place on, up to and with a later byte
abbrev From : List ℕ → List ℕ → ℕ → ℕ → Type 0
From s x at p = (z : List ℕ) ×
    (take (suc p) s ++ x ≡ take at s ++ (get_or s at 0 ∷ z))

pub from_on : (s x : List ℕ) (at j p : ℕ) → at + j ≡ p → p < length s
    → From s x at p
from_on s x at zero p k h =
    let e : at ≡ p = omega (arith, k) in
    subst (From s x at) e (x, step s x at (omega (arith, e, h)))
from_on s x at (suc j) p k h =
    let e : suc (at + j) ≡ p = omega (arith, k) in
    let q = from_on s (get_or s (suc (at + j)) 0 ∷ x) at j (at + j) refl
    (omega (arith, e, h)) in
    subst (From s x at) e
    (q.0, step s x (suc (at + j)) (omega (arith, e, h)) ∙ q.1)
