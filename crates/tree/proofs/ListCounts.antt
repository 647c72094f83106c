-- Counting the members of a list: one exception more is one member less, and a
-- list that goes into another one to one is no longer.
-- Assumes nothing.
use mathlib.Core.Path.{◌≡◌, refl, sym, ap, ap₂, ◌∙◌}
use mathlib.Core.Logic.{◌⊎◌, inl, inr}
use mathlib.Core.Bool.{Bool, true, false, ◌||◌, true≢false, false≢true}
use mathlib.Core.List.{List, [], ◌∷◌}
use Prim.Native.Nat.{ℕ, suc, ◌≤◌, zero-le}
use native.Mathlib.Omega.{arith}
use lib.Dec.{eqb}
use borrow.Author.Tests.{eqb-true, eqb-false, ne_eqb, eq-eqb}
use Rattle.taxa.specs.Sets.{pick}
use Rattle.taxa.proofs.Bools.{or_cases, or_left, or_right, or_neither}
use Rattle.tree.specs.Lists.{mem, lacks}
use Rattle.tree.proofs.Lists.{Distinct, remove, mem_remove, lacks_remove_lt}

-- a number that is no member is an exception that changes nothing
lacks_other : (z : ℕ) (xs ys : List ℕ) → mem z xs ≡ false → lacks xs (z ∷ ys) ≡ lacks xs ys
unfolding lacks mem
lacks_other z [] ys h = refl
lacks_other z (x ∷ xs) ys h =
    let d = or_neither (eqb z x) (mem z xs) h in
    ap₂ (λ (a : Bool) (l : ℕ). pick (a || mem x ys) l (suc l))
    (ne_eqb x z (λ w. eqb-false z x d.0 (sym w))) (lacks_other z xs ys d.1)

-- a member that is a new exception counts no more
pub lacks_cons : (z : ℕ) (xs ys : List ℕ) → Distinct xs → mem z xs ≡ true → mem z ys ≡ false
    → suc (lacks xs (z ∷ ys)) ≡ lacks xs ys
unfolding lacks mem
lacks_cons z [] ys dis h w = absurd (false≢true h)
lacks_cons z (x ∷ xs) ys dis h w =
    go (λ k. lacks_cons z xs ys dis.1 k w) (eqb x z) refl (or_cases (eqb z x) (mem z xs) h)
  where
    go : (mem z xs ≡ true → suc (lacks xs (z ∷ ys)) ≡ lacks xs ys) → (p : Bool) → eqb x z ≡ p
        → (eqb z x ≡ true) ⊎ (mem z xs ≡ true)
        → suc (pick (p || mem x ys) (lacks xs (z ∷ ys)) (suc (lacks xs (z ∷ ys))))
        ≡ pick (mem x ys) (lacks xs ys) (suc (lacks xs ys))
    go ih true e k =
        let d : x ≡ z = eqb-true x z e in
        let out : mem x ys ≡ false = ap (λ (v : ℕ). mem v ys) d ∙ w in
        rw out (ap suc (lacks_other z xs ys (ap (λ (v : ℕ). mem v xs) (sym d) ∙ dis.0)))
    go ih false e (inl q) = absurd (eqb-false x z e (sym (eqb-true z x q)))
    go ih false e (inr q) = at (ih q) (mem x ys)
      where
        at : suc (lacks xs (z ∷ ys)) ≡ lacks xs ys → (b : Bool)
            → suc (pick b (lacks xs (z ∷ ys)) (suc (lacks xs (z ∷ ys))))
            ≡ pick b (lacks xs ys) (suc (lacks xs ys))
        at l true = l
        at l false = ap suc l

-- x is on xs and not on ys
pub record Left (xs ys : List ℕ) (x : ℕ) : Type 0 where
  pub there : mem x xs ≡ true
  pub free : mem x ys ≡ false

-- where f takes what is left of xs into zs one to one, no more is left of xs
-- than zs has members
pub lacks_inj : (f : ℕ → ℕ) (xs ys zs : List ℕ) → Distinct xs
    → ((x : ℕ) → Left xs ys x → mem (f x) zs ≡ true)
    → ((x x' : ℕ) → Left xs ys x → Left xs ys x' → f x ≡ f x' → x ≡ x') → lacks xs ys ≤ lacks zs []
unfolding lacks mem
lacks_inj f [] ys zs dis into one = zero-le
lacks_inj f (x ∷ xs) ys zs dis into one =
    go (λ zs' k. lacks_inj f xs ys zs' dis.1 k (λ a b l m. one a b (up a l) (up b m))) (mem x ys)
    refl
  where
    up : (a : ℕ) → Left xs ys a → Left (x ∷ xs) ys a
    up a l = record { there = or_right (eqb a x) (mem a xs) l.there; free = l.free }

    go : ((zs' : List ℕ) → ((a : ℕ) → Left xs ys a → mem (f a) zs' ≡ true)
        → lacks xs ys ≤ lacks zs' [])
        → (q : Bool) → mem x ys ≡ q → pick q (lacks xs ys) (suc (lacks xs ys)) ≤ lacks zs []
    go ih true e = ih zs (λ a l. into a (up a l))
    go ih false e =
        let here : Left (x ∷ xs) ys x =
        record { there = or_left (eqb x x) (mem x xs) (eq-eqb x x refl); free = e } in
        let more : lacks xs ys ≤ lacks (remove (f x) zs) [] = ih (remove (f x) zs) (λ a l.
        mem_remove (f x) (f a) zs (λ d. apart a l.there (one x a here (up a l) d))
        (into a (up a l))) in
        omega (arith, lacks_remove_lt (f x) zs [] (into x here) refl)
      where
        apart : (a : ℕ) → mem a xs ≡ true → x ≡ a → ⊥
        apart a p d = true≢false (sym p ∙ ap (λ (v : ℕ). mem v xs) (sym d) ∙ dis.0)
