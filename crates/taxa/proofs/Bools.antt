-- Laws of tests: and, or, not, exclusive or. Those of the library stand here
-- under the names that the proofs use. Assumes nothing.
use mathlib.Core.Path.{◌≡◌, refl, sym, ap, ap₂, ◌∙◌}
use mathlib.Core.Logic.{◌⊎◌}
use mathlib.Core.Bool.{Bool, true, false, not, ◌&&◌, true≢false, false≢true}
use borrow.Author.Tests.{not-true, not-false}
pub use mathlib.Core.Bool.{and-false as and_false_r}
pub use Rattle.std.proofs.lemmas.Bool.{cases_Bool as either, and_from as and_both}
pub use Rattle.std.proofs.lemmas.Bool.{or_cases, or_left, or_right, or_parts as or_neither}

-- a test passes or not
abbrev pub Either : Bool → Type 0
Either b = (b ≡ true) ⊎ (b ≡ false)

-- a call tells the test b by its answer r, and the code asks for the opposite
pub told_true : {r b : Bool} → r ≡ b → not r ≡ false → b ≡ true
told_true e h = sym e ∙ not-false _ h

pub told_false : {r b : Bool} → r ≡ b → not r ≡ true → b ≡ false
told_false e h = sym e ∙ not-true _ h

pub not_both : (b : Bool) → b ≡ true → b ≡ false → ⊥
not_both b p q = true≢false (sym p ∙ q)

-- ---- and
pub and_left : (p q : Bool) → (p && q) ≡ true → p ≡ true
and_left true q e = refl
and_left false q e = e

pub and_right : (p q : Bool) → (p && q) ≡ true → q ≡ true
and_right true q e = e
and_right false q e = absurd (false≢true e)

-- where the first implies the second, both is the first
pub and_imp : (p q : Bool) → (p ≡ true → q ≡ true) → (p && q) ≡ p
and_imp true q h = h refl
and_imp false q h = refl

pub and_true_l : (p q : Bool) → p ≡ true → (p && q) ≡ q
and_true_l true q h = refl
and_true_l false q h = absurd (false≢true h)

-- the second counts only where the first passes
pub and_when : (p q r : Bool) → (p ≡ true → q ≡ r) → (p && q) ≡ (p && r)
and_when true q r h = h refl
and_when false q r h = refl

pub and_when' : (p q r : Bool) → p ≡ true → (p && q) ≡ (p && r) → q ≡ r
and_when' true q r h e = e
and_when' false q r h e = absurd (false≢true h)

-- ---- equal tests
pub bool_eq : (p q : Bool) → (p ≡ true → q ≡ true) → (q ≡ true → p ≡ true) → p ≡ q
bool_eq true q h l = sym (h refl)
bool_eq false true h l = l refl
bool_eq false false h l = refl

pub not_swap : (p q : Bool) → p ≡ not q → q ≡ not p
not_swap true true h = h
not_swap true false h = refl
not_swap false true h = refl
not_swap false false h = h

pub not_self : (b : Bool) → b ≡ not b → ⊥
not_self true e = true≢false e
not_self false e = false≢true e

-- ---- exclusive or
infixl 30 ◌⊕◌
abbrev pub ◌⊕◌ : Bool → Bool → Bool
true ⊕ b = not b
false ⊕ b = b

pub xor_cancel : (d p q : Bool) → (d ⊕ p ⊕ (d ⊕ q)) ≡ (p ⊕ q)
xor_cancel true true true = refl
xor_cancel true true false = refl
xor_cancel true false true = refl
xor_cancel true false false = refl
xor_cancel false p q = refl

pub xor_twice : (p q : Bool) → (p ⊕ (p ⊕ q)) ≡ q
xor_twice true true = refl
xor_twice true false = refl
xor_twice false q = refl

pub xor_assoc : (p q r : Bool) → (p ⊕ (q ⊕ r)) ≡ (p ⊕ q ⊕ r)
xor_assoc true true true = refl
xor_assoc true true false = refl
xor_assoc true false r = refl
xor_assoc false q r = refl

-- two that are the same once turned over differ by the turns
pub xor_same : (f p g q : Bool) → (f ⊕ p) ≡ (g ⊕ q) → p ≡ (f ⊕ g ⊕ q)
xor_same f p g q h = sym (xor_twice f p) ∙ ap (λ (b : Bool). f ⊕ b) h ∙ xor_assoc f g q

-- two that both turn over keep what they differ by
pub xor_not : (p q p' q' : Bool) → p ≡ not p' → q ≡ not q' → (p ⊕ q) ≡ (p' ⊕ q')
xor_not p q true true a b = ap₂ ◌⊕◌ a b
xor_not p q true false a b = ap₂ ◌⊕◌ a b
xor_not p q false true a b = ap₂ ◌⊕◌ a b
xor_not p q false false a b = ap₂ ◌⊕◌ a b

pub xor_move : (p q d : Bool) → (p ⊕ q) ≡ d → p ≡ (d ⊕ q)
xor_move true true d h = ap (λ (x : Bool). x ⊕ true) h
xor_move true false d h = ap (λ (x : Bool). x ⊕ false) h
xor_move false true d h = ap (λ (x : Bool). x ⊕ true) h
xor_move false false d h = ap (λ (x : Bool). x ⊕ false) h

-- what q turned over by d is not, where d shows at q
pub xor_at_true : (d p : Bool) → (d ⊕ true) ≡ p → d ≡ not p
xor_at_true true false h = refl
xor_at_true true true h = absurd (false≢true h)
xor_at_true false true h = refl
xor_at_true false false h = absurd (true≢false h)
