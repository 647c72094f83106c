-- What the number of a refusal means: it is never 0, no two refusals share
-- one, and which ones a call can give is seen at its checks. Assumes nothing.
use Prim.Native.Nat.{ℕ, ◌≤◌}
use mathlib.Core.Path.{◌≡◌, refl, sym, ap, subst, ◌∙◌}
use mathlib.Core.Logic.{◌↔◌}
use mathlib.Core.Bool.{Bool, true, false, ◌&&◌}
use mathlib.Core.List.{List, [], ◌∷◌}
use native.Mathlib.Omega.{arith}
use lib.ListN.{get_or}
use Rattle.calls.specs.declared.Refusal.{Refusal}
use Rattle.calls.specs.declared.Refusal.TheVariants.{Count, Length, Ends, Degree, Unreached}
use Rattle.calls.specs.declared.Refusal.TheVariants.{Partition, Kind}
use Rattle.calls.specs.declared.Refusal.TheVariants.{Row, Misfit, Idle, Room, Field, Long}
use Rattle.calls.specs.declared.Refusal.TheVariants.{Text, Side}
use Rattle.calls.specs.declared.Refusal.TheVariants.{Unseen, Sites, Data, State, Lengths}
use Rattle.calls.specs.declared.Refusal.TheVariants.{Rate}
use Rattle.calls.specs.Refusals.{number_of}
use Rattle.calls.specs.Calls.{on, Said, gives, refuses, refuses_at, Check, ◌else◌, judged}
use Rattle.calls.specs.Calls.{placed_at, then_said}
use Rattle.calls.specs.Calls.{tells, code_of, Given, OnlyBy, Numbered, answered, refused}
use Rattle.calls.specs.Calls.{refused-at}

-- ---- one number, one refusal

-- The refusals in order, from 0 on, where none stands.
abbrev in_order : List Refusal
in_order =
    Count ∷ Count ∷ Length ∷ Ends ∷ Degree ∷ Unreached ∷ Partition ∷ Kind ∷ Row ∷ Misfit ∷ Idle
    ∷ Room ∷ Field
    ∷ Long ∷ Text ∷ Side ∷ Unseen ∷ Sites ∷ Data ∷ State ∷ Lengths ∷ Rate ∷ []

back : (r : Refusal) → get_or in_order (number_of r) Count ≡ r
back Count = refl
back Length = refl
back Ends = refl
back Degree = refl
back Unreached = refl
back Partition = refl
back Kind = refl
back Row = refl
back Misfit = refl
back Idle = refl
back Room = refl
back Field = refl
back Long = refl
back Text = refl
back Side = refl
back Unseen = refl
back Sites = refl
back Data = refl
back State = refl
back Lengths = refl
back Rate = refl

-- No two refusals have one number.
pub number_one : (r s : Refusal) → number_of r ≡ number_of s → r ≡ s
number_one r s h = sym (back r) ∙ ap (λ (k : ℕ). get_or in_order k Count) h ∙ back s

-- And none has the number 0.
pub number-some : (r : Refusal) → 1 ≤ number_of r
number-some Count = omega arith
number-some Length = omega arith
number-some Ends = omega arith
number-some Degree = omega arith
number-some Unreached = omega arith
number-some Partition = omega arith
number-some Kind = omega arith
number-some Row = omega arith
number-some Misfit = omega arith
number-some Idle = omega arith
number-some Room = omega arith
number-some Field = omega arith
number-some Long = omega arith
number-some Text = omega arith
number-some Side = omega arith
number-some Unseen = omega arith
number-some Sites = omega arith
number-some Data = omega arith
number-some State = omega arith
number-some Lengths = omega arith
number-some Rate = omega arith

-- ---- what a call's number stands for
module _ {A : Type 0} where
  -- The code of what is said stands for it.
  pub code_numbered : (s : Said A) → Numbered s (code_of s)
  code_numbered (gives a) = answered a refl refl
  code_numbered (refuses k) = refused k refl refl
  code_numbered (refuses_at k p) = refused-at k p refl refl

  -- A number that stands for what is said is 0 exactly for an answer.
  pub zero_iff : (s : Said A) {k : ℕ} → Numbered s k → (k ≡ 0) ↔ Given s
  zero_iff (gives a) (answered b e z) = (λ h. tt, λ g. z)
  zero_iff (refuses r) (answered b e z) = absurd (let w : ◌≡◌ {A = ℕ} 0 1 = cc in omega arith)
  zero_iff (refuses_at r p) (answered b e z) = absurd (let w : ◌≡◌ {A = ℕ} 0 1 = cc in omega arith)
  zero_iff (gives a) (refused r e z) = absurd (let w : ◌≡◌ {A = ℕ} 0 1 = cc in omega arith)
  zero_iff (refuses j) (refused r e z) =
      (λ h. absurd (omega (arith, number-some r)), λ g. absurd g)
  zero_iff (refuses_at j p) (refused r e z) = absurd (let w : ◌≡◌ {A = ℕ} 0 1 = cc in omega arith)
  zero_iff (gives a) (refused-at r p e z) = absurd (let w : ◌≡◌ {A = ℕ} 0 1 = cc in omega arith)
  zero_iff (refuses j) (refused-at r p e z) = absurd (let w : ◌≡◌ {A = ℕ} 0 1 = cc in omega arith)
  zero_iff (refuses_at j q) (refused-at r p e z) =
      (λ h. absurd (omega (arith, number-some r)), λ g. absurd g)

  -- Where a call is refused only with some numbers, a number that stands for
  -- what it says and is not 0 is one of them.
  pub numbered_on : (ks : List ℕ) {s : Said A} {k : ℕ} → Numbered s k → OnlyBy ks s → (k ≡ 0 → ⊥)
      → on ks k ≡ true
  numbered_on ks (answered a e z) o d = absurd (d z)
  numbered_on ks (refused r e z) o d = ap (on ks) z ∙ subst (OnlyBy ks) e o
  numbered_on ks (refused-at r p e z) o d = ap (on ks) z ∙ subst (OnlyBy ks) e o

  -- What is told of an answer has no other code.
  pub code_told : {B : Type 0} (f : A → B) (s : Said A) → code_of (tells f s) ≡ code_of s
  code_told f (gives a) = refl
  code_told f (refuses k) = refl
  code_told f (refuses_at k p) = refl

-- ---- which refusals a call can give

-- The refusals of checks are among these numbers.
abbrev pub all_on : List ℕ → List Check → Bool
all_on ks [] = true
all_on ks ((b else r) ∷ cs) = on ks (number_of r) && all_on ks cs

and_first : (p q : Bool) → (p && q) ≡ true → p ≡ true
and_first true q h = refl
and_first false q h = h

and_rest : (p q : Bool) → (p && q) ≡ true → q ≡ true
and_rest true q h = h
and_rest false q h = absurd (let w : ◌≡◌ {A = Bool} false true = h in false_is w)
  where
    false_is : false ≡ true → ⊥
    false_is e = let z : ◌≡◌ {A = ℕ} 0 1 = cc in omega arith

module _ {A : Type 0} (ks : List ℕ) where
  -- So is that which is given.
  pub judged-only : (cs : List Check) (a : A) → all_on ks cs ≡ true → OnlyBy ks (judged cs a)
  unfolding judged
  judged-only [] a h = tt
  judged-only ((true else r) ∷ cs) a h =
      judged-only cs a (and_rest (on ks (number_of r)) (all_on ks cs) h)
  judged-only ((false else r) ∷ cs) a h = and_first (on ks (number_of r)) (all_on ks cs) h

  pub placed-only : (p : ℕ) (s : Said A) → OnlyBy ks s → OnlyBy ks (placed_at p s)
  placed-only p (gives a) h = tt
  placed-only p (refuses k) h = h
  placed-only p (refuses_at k q) h = h

  pub then-only : {B : Type 0} (s : Said A) (f : A → Said B) → OnlyBy ks s
      → ((a : A) → OnlyBy ks (f a)) → OnlyBy ks (then_said s f)
  then-only (gives a) f h g = g a
  then-only (refuses k) f h g = h
  then-only (refuses_at k p) f h g = h
