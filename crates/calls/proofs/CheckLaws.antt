-- What it means that checks pass: the answer is given; a refusal stands,
-- whatever comes after. Assumes nothing.
use mathlib.Core.Path.{◌≡◌, refl, sym, ap, ◌∙◌}
use mathlib.Core.Bool.{Bool, true, false, true≢false, false≢true}
use mathlib.Core.List.{List, [], ◌∷◌, ◌++◌, append-nil}
use Prim.Native.Nat.{ℕ}
use native.Mathlib.Omega.{arith}
use Rattle.calls.specs.declared.Refusal.{Refusal}
use Rattle.calls.specs.Calls.{Check, ◌else◌, gives, refuses, judged, Pass, then_said}

-- of checks that all pass the later ones pass
pub pass_after : (cs ds : List Check) → Pass (cs ++ ds) → Pass ds
pass_after [] ds p = p
pass_after ((b else r) ∷ cs) ds p = pass_after cs ds p.1

-- and so do the earlier ones
pub pass_before : (cs ds : List Check) → Pass (cs ++ ds) → Pass cs
pass_before [] ds p = tt
pass_before ((b else r) ∷ cs) ds p = (p.0, pass_before cs ds p.1)

pub pass_both : (cs ds : List Check) → Pass cs → Pass ds → Pass (cs ++ ds)
pass_both [] ds p q = q
pass_both ((b else r) ∷ cs) ds p q = (p.0, pass_both cs ds p.1 q)

module _ {A : Type 0} where
  -- Checks in two parts: what the first say, then the second.
  pub judged-then : (cs ds : List Check) (a : A)
      → judged (cs ++ ds) a ≡ then_said (judged cs (tt {0})) (λ u. judged ds a)
  unfolding judged
  judged-then [] ds a = refl
  judged-then ((true else k) ∷ cs) ds a = judged-then cs ds a
  judged-then ((false else k) ∷ cs) ds a = refl

  pub judged_pass : (cs ds : List Check) (a : A) → Pass cs → judged (cs ++ ds) a ≡ judged ds a
  unfolding judged
  judged_pass [] ds a p = refl
  judged_pass ((true else k) ∷ cs) ds a p = judged_pass cs ds a p.1
  judged_pass ((false else k) ∷ cs) ds a p = absurd (false≢true p.0)

  pub judged-all : (cs : List Check) (a : A) → Pass cs → judged cs a ≡ gives a
  unfolding judged
  judged-all [] a p = refl
  judged-all ((true else k) ∷ cs) a p = judged-all cs a p.1
  judged-all ((false else k) ∷ cs) a p = absurd (false≢true p.0)

  pub judged-next : (b : Bool) (k : Refusal) (cs : List Check) (a : A) → b ≡ true
      → judged ((b else k) ∷ cs) a ≡ judged cs a
  unfolding judged
  judged-next true k cs a p = refl
  judged-next false k cs a p = absurd (false≢true p)

  pub judged_fail : (b : Bool) (k : Refusal) (cs : List Check) (a : A) → b ≡ false
      → judged ((b else k) ∷ cs) a ≡ refuses k
  unfolding judged
  judged_fail true k cs a p = absurd (true≢false p)
  judged_fail false k cs a p = refl

  pub gives_pass : (cs : List Check) (a x : A) → judged cs a ≡ gives x → Pass cs
  unfolding judged
  gives_pass [] a x h = tt
  gives_pass ((true else k) ∷ cs) a x h = (refl, gives_pass cs a x h)
  gives_pass ((false else k) ∷ cs) a x h = absurd (let z : ◌≡◌ {A = ℕ} 0 1 = cc in omega arith)

  -- what is given is the answer
  pub gives_same : (cs : List Check) (a x : A) → judged cs a ≡ gives x → a ≡ x
  gives_same cs a x h = let w : gives a ≡ gives x = sym (judged-all cs a (gives_pass cs a x h))
      ∙ h in cc

-- a refusal stands, whatever checks and answer come after
pub refuses_more : {A B : Type 0} (cs ds : List Check) (a : A) (b : B) (k : Refusal)
    → judged cs a ≡ refuses k → judged (cs ++ ds) b ≡ refuses k
unfolding judged
refuses_more [] ds a b k h = absurd (let z : ◌≡◌ {A = ℕ} 0 1 = cc in omega arith)
refuses_more ((true else j) ∷ cs) ds a b k h = refuses_more cs ds a b k h
refuses_more {A} ((false else j) ∷ cs) ds a b k h = let e : j ≡ k = cc in ap refuses e

-- and whatever the answer would have been
pub refuses_any : {A B : Type 0} (cs : List Check) (a : A) (b : B) (k : Refusal)
    → judged cs a ≡ refuses k → judged cs b ≡ refuses k
refuses_any cs a b k h = sym (ap (λ (ds : List Check). judged ds b) (append-nil cs))
    ∙ refuses_more cs [] a b k h
