-- The laws of the one shape: a call has one answer and leaves one state of
-- what was lent; a refused one leaves it as it was; and the same promise under
-- another name for the answer. Assumes nothing.
use Prim.Native.Nat.{ℕ}
use mathlib.Core.Path.{◌≡◌, refl, sym, ap, ap₂, ◌∙◌}
use mathlib.Core.Logic.{◌↔◌}
use mathlib.Core.Bool.{true}
use mathlib.Core.List.{List}
use native.Mathlib.Omega.{arith}
use Rattle.calls.specs.declared.Refusal.{Refusal}
use Rattle.calls.specs.Calls.{Said, gives, refuses, refuses_at, tells, code_of, lent_then, Call}
use Rattle.calls.specs.Calls.{Answers, CallBy, on, Given, OnlyBy, Numbered}
use Rattle.calls.proofs.NumberLaws.{code_numbered, zero_iff, numbered_on}

-- A call that is lent nothing to write has only its answer to show.
pub answers : {A R : Type 0} {reads : Said A → R} {s : Said A} {r : R} → r ≡ reads s
    → Answers reads s r
answers e = record { says = e; memory = refl }

module _ {A M R : Type 0} {reads : Said A → R} {writes : A → M → M} where
  -- ---- one answer and one state
  pub call_one : {s : Said A} {m : M} {a b : R} {u v : M} → Call reads writes s m a u
      → Call reads writes s m b v
      → (a ≡ b) × (u ≡ v)
  call_one x z = (x.says ∙ sym z.says, x.memory ∙ sym z.memory)

  -- So it is for an answer that is settled by what it says.
  pub call-settles : {Q : Type 0} (says : Q → R) → ((a b : Q) → says a ≡ says b → a ≡ b)
      → {s : Said A} {m : M} {a b : Q}
      {u v : M} → Call reads writes s m (says a) u → Call reads writes s m (says b) v
      → (a ≡ b) × (u ≡ v)
  call-settles says one {a = a} {b = b} x z = let w = call_one x z in (one a b w.0, w.1)

  -- Where one thing is said, by what holds of it, there is one answer and one
  -- state.
  pub call_by_one : {by : Said A → Type 0} {m : M} → ((x y : Said A) → by x → by y → x ≡ y)
      → {a b : R} {u v : M}
      → CallBy by reads writes m a u → CallBy by reads writes m b v → (a ≡ b) × (u ≡ v)
  call_by_one {by} {m} one x z =
      let e = one x.said z.said x.is z.is in (
        x.call.says ∙ ap reads e ∙ sym z.call.says,
        x.call.memory ∙ ap (λ (y : Said A). lent_then writes y m) e ∙ sym z.call.memory,
      )

  pub call_by_settles : {Q : Type 0} (says : Q → R) → ((a b : Q) → says a ≡ says b → a ≡ b)
      → {by : Said A → Type 0} {m : M}
      → ((x y : Said A) → by x → by y → x ≡ y) → {a b : Q} {u v : M}
      → CallBy by reads writes m (says a) u
      → CallBy by reads writes m (says b) v → (a ≡ b) × (u ≡ v)
  call_by_settles says one only {a} {b} x z = let w = call_by_one only x z in (one a b w.0, w.1)

  -- ---- the same promise in other words

  -- The same is said.
  pub call-is : {s s' : Said A} {m m' : M} {r : R} → s ≡ s' → Call reads writes s m r m'
      → Call reads writes s' m r m'
  call-is {m = m} e x =
      record {
        says = x.says ∙ ap reads e;
        memory = x.memory
            ∙ ap (λ (y : Said A). lent_then writes y m) e;
      }

  -- The answer r, which is q, reads as a for another caller: so a promise is
  -- carried to a C name.
  pub call_as : {Q : Type 0} (f : R → Q) {s : Said A} {m m' : M} {r q : R} {a : Q}
      → Call reads writes s m r m'
      → r ≡ q → a ≡ f q → Call (λ (x : Said A). f (reads x)) writes s m a m'
  call_as f x e g = record { says = g ∙ sym (ap f e) ∙ ap f x.says; memory = x.memory }

  pub call_by_as : {Q : Type 0} (f : R → Q) {by : Said A → Type 0} {m m' : M} {r q : R} {a : Q}
      → CallBy by reads writes m r m' → r ≡ q → a ≡ f q
      → CallBy by (λ (x : Said A). f (reads x)) writes m a m'
  call_by_as f x e g = record { said = x.said; is = x.is; call = call_as f x.call e g }

  -- ---- a number among the answer
  module _ (number : R → ℕ) (is : (s : Said A) → number (reads s) ≡ code_of s) where
    -- A number that is the code of what is said stands for it.
    pub call_numbered : {s : Said A} {m m' : M} {r : R} → Call reads writes s m r m'
        → Numbered s (number r)
    call_numbered {s = s} x = rw (ap number x.says ∙ is s) (code_numbered s)

    -- It is 0 exactly when the call gives its answer.
    pub call_zero : {s : Said A} {m m' : M} {r : R} → Call reads writes s m r m'
        → (number r ≡ 0) ↔ Given s
    call_zero {s = s} {r = r} x = zero_iff s (call_numbered x)

    -- Where it is not 0, it is one of the numbers that the call is refused
    -- with.
    pub call-on : (ks : List ℕ) {s : Said A} {m m' : M} {r : R} → OnlyBy ks s
        → Call reads writes s m r m'
        → (number r ≡ 0 → ⊥) → on ks (number r) ≡ true
    call-on ks {s = s} {r = r} o x = numbered_on ks (call_numbered x) o

    -- Where it is not 0, what was lent is as it was.
    pub call_kept : {s : Said A} {m m' : M} {r : R} → Call reads writes s m r m'
        → (number r ≡ 0 → ⊥) → m' ≡ m
    call_kept {s} {m} {m'} {r} x d = go s (call_zero x).1 x.memory
      where
        go : (y : Said A) → (Given y → number r ≡ 0) → m' ≡ lent_then writes y m → m' ≡ m
        go (gives a) z h = absurd (d (z tt))
        go (refuses k) z h = h
        go (refuses_at k p) z h = h

-- ---- an answer that tells f of what is given
module _ {A B M : Type 0} {f : A → B} {writes : A → M → M} {m : M} where
  -- Where it is known what the call says, its answer.
  pub call-refuses : {s : Said A} (k : Refusal) → s ≡ refuses k
      → Call (tells f) writes s m (refuses k) m
  call-refuses k h =
      record {
        says = sym (ap (tells f) h);
        memory =
            sym (ap (λ (x : Said A). lent_then writes x m) h);
      }

  pub call-refuses_at : {s : Said A} (k : Refusal) (p : ℕ) → s ≡ refuses_at k p
      → Call (tells f) writes s m (refuses_at k p) m
  call-refuses_at k p h =
      record {
        says = sym (ap (tells f) h);
        memory =
            sym (ap (λ (x : Said A). lent_then writes x m) h);
      }

  pub call-gives : {s : Said A} (a : A) → s ≡ gives a → {b : B} {m' : M} → b ≡ f a → m' ≡ writes a m
      → Call (tells f) writes s m (gives b) m'
  call-gives a h e w =
      record {
        says = ap gives e ∙ sym (ap (tells f) h);
        memory = w
            ∙ sym (ap (λ (x : Said A). lent_then writes x m) h);
      }

  -- And back: what a refused call said, and that it leaves what was lent.
  pub call-refused : {s : Said A} {k : Refusal} {m' : M} → Call (tells f) writes s m (refuses k) m'
      → (s ≡ refuses k) × (m' ≡ m)
  call-refused {s} {k} {m'} x = go s x.says x.memory
    where
      go : (y : Said A) → refuses k ≡ tells f y → m' ≡ lent_then writes y m
          → (y ≡ refuses k) × (m' ≡ m)
      go (gives a) e h = absurd (let z : ◌≡◌ {A = ℕ} 0 1 = cc in omega arith)
      go (refuses j) e h = let z : j ≡ k = cc in (ap refuses z, h)
      go (refuses_at j p) e h = absurd (let z : ◌≡◌ {A = ℕ} 0 1 = cc in omega arith)

  pub call_refused_at : {s : Said A} {k : Refusal} {p : ℕ} {m' : M}
      → Call (tells f) writes s m (refuses_at k p) m'
      → (s ≡ refuses_at k p) × (m' ≡ m)
  call_refused_at {s} {k} {p} {m'} x = go s x.says x.memory
    where
      go : (y : Said A) → refuses_at k p ≡ tells f y → m' ≡ lent_then writes y m
          → (y ≡ refuses_at k p) × (m' ≡ m)
      go (gives a) e h = absurd (let z : ◌≡◌ {A = ℕ} 0 1 = cc in omega arith)
      go (refuses j) e h = absurd (let z : ◌≡◌ {A = ℕ} 0 1 = cc in omega arith)
      go (refuses_at j q) e h =
          let z : j ≡ k = cc in
          let w : q ≡ p = cc in
          (ap₂ refuses_at z w, h)

  -- What an accepted call gives.
  pub call-given : {s : Said A} {b : B} {m' : M} → Call (tells f) writes s m (gives b) m'
      → (a : A) × (s ≡ gives a) × (b ≡ f a) × (m' ≡ writes a m)
  call-given {s} {b} {m'} x = go s x.says x.memory
    where
      go : (y : Said A) → gives b ≡ tells f y → m' ≡ lent_then writes y m
          → (a : A) × (y ≡ gives a) × (b ≡ f a) × (m' ≡ writes a m)
      go (gives a) e h = let z : b ≡ f a = cc in (a, refl, z, h)
      go (refuses j) e h = absurd (let z : ◌≡◌ {A = ℕ} 0 1 = cc in omega arith)
      go (refuses_at j p) e h = absurd (let z : ◌≡◌ {A = ℕ} 0 1 = cc in omega arith)
