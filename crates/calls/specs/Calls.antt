-- What every call promises, in one shape: what it says, how its answer reads,
-- and what lent memory becomes, written by an answer and untouched by a
-- refusal.
use Rattle.std.specs.Prelude.{ℕ, ◌≡◌, Bool, true, false, ◌||◌, List, [], ◌∷◌, ◌++◌, eqb, length, drop, Result, Ok, Err}
use Rattle.calls.specs.declared.Refusal.{Refusal}
use Rattle.calls.specs.declared.RefusedAt.{RefusedAt}
use Rattle.calls.specs.Refusals.{number_of}

-- A number is on a list.
abbrev pub on : List ℕ → ℕ → Bool
on [] k = false
on (j ∷ js) k = eqb j k || on js k

-- ---- what a call says

-- A call says its answer; or that it is refused, and nothing besides; or that
-- and a place.
pub data Said (A : Type 0) : Type 0 where
  gives : A → Said A
  refuses : Refusal → Said A
  refuses_at : Refusal → ℕ → Said A

-- A check is a test with the refusal that is given where the test fails.
infixr 20 ◌else◌
pub data Check : Type 0 where
  ◌else◌ : Bool → Refusal → Check

-- The checks run in order, and the first that fails gives its refusal.
unfoldable pub judged : {A : Type 0} → List Check → A → Said A
judged [] a = gives a
judged ((true else k) ∷ cs) a = judged cs a
judged ((false else k) ∷ cs) a = refuses k

-- No check fails.
abbrev pub Pass : List Check → Type 0
Pass [] = Unit {0}
Pass ((b else k) ∷ cs) = (b ≡ true) × Pass cs

-- The place of a refusal, where it has none yet.
abbrev pub placed_at : {A : Type 0} → ℕ → Said A → Said A
placed_at p (gives a) = gives a
placed_at p (refuses k) = refuses_at k p
placed_at p (refuses_at k q) = refuses_at k q

-- What is said next, of the answer; a refusal stands.
abbrev pub then_said : {A B : Type 0} → Said A → (A → Said B) → Said B
then_said (gives a) f = f a
then_said (refuses k) f = refuses k
then_said (refuses_at k p) f = refuses_at k p

-- ---- what an answer of the code says

-- An answer, or the refusal that stands in its place.
abbrev pub says : {A : Type 0} → Result A Refusal → Said A
says (Ok a) = gives a
says (Err r) = refuses r

-- The same where a refusal has its place.
abbrev pub says_at : {A : Type 0} → Result A RefusedAt → Said A
says_at (Ok a) = gives a
says_at (Err e) = refuses_at e.why e.place

-- ---- how an answer reads

-- f of the answer is told; a refusal as it is.
abbrev pub tells : {A B : Type 0} → (A → B) → Said A → Said B
tells f (gives a) = gives (f a)
tells f (refuses k) = refuses k
tells f (refuses_at k p) = refuses_at k p

-- Nothing but that it is done is told.
abbrev pub done : {A : Type 0} → A → Unit {0}
done a = tt

-- All that is said is told.
abbrev pub as_said : {A : Type 0} → Said A → Said A
as_said s = s

-- In numbers: 0 for an answer, and a refusal's own number.
abbrev pub code_of : {A : Type 0} → Said A → ℕ
code_of (gives a) = 0
code_of (refuses k) = number_of k
code_of (refuses_at k p) = number_of k

-- The place of a refusal, or 0.
abbrev pub place_of : {A : Type 0} → Said A → ℕ
place_of (gives a) = 0
place_of (refuses k) = 0
place_of (refuses_at k p) = p

-- f of the answer, or z; a number of the answer, or 0.
abbrev pub given_or : {A B : Type 0} → B → (A → B) → Said A → B
given_or z f (gives a) = f a
given_or z f (refuses k) = z
given_or z f (refuses_at k p) = z

abbrev pub value_of : {A : Type 0} → (A → ℕ) → Said A → ℕ
value_of f s = given_or 0 f s

-- ---- what lent memory becomes

-- An answer writes it; a refusal leaves it.
abbrev pub lent_then : {A M : Type 0} → (A → M → M) → Said A → M → M
lent_then writes (gives a) m = writes a m
lent_then writes (refuses k) m = m
lent_then writes (refuses_at k p) m = m

-- Ways to write: the answer in place of what was lent; the answer at the start
-- of a lent list.
abbrev pub instead : {M : Type 0} → M → M → M
instead a m = a

abbrev pub at_start : List ℕ → List ℕ → List ℕ
at_start l m = l ++ drop (length l) m

-- ---- the promise

-- A call that says s, whose answer reads as `reads` has it and whose memory is
-- written as `writes` has it, promises: the answer r is what s reads, and the
-- memory is m before and m' after.
pub record Call {A M R : Type 0} (reads : Said A → R) (writes : A → M → M) (s : Said A) (m : M)
    (r : R) (m' : M) : Type 0 where
  pub says : r ≡ reads s
  pub memory : m' ≡ lent_then writes s m

-- The same of a call that is lent nothing to write.
abbrev pub Answers : {A R : Type 0} → (Said A → R) → Said A → R → Type 0
Answers reads s r = Call {M = Unit {0}} reads (λ a m. m) s tt r tt

-- The same where what is said is not computed, but settled by what holds of
-- it.
pub record CallBy {A M R : Type 0} (by : Said A → Type 0) (reads : Said A → R) (writes : A → M → M)
    (m : M) (r : R) (m' : M) : Type 0 where
  pub said : Said A
  pub is : by said
  pub call : Call reads writes said m r m'

-- ---- what holds of what is said

-- The call gives its answer.
abbrev pub Given : {A : Type 0} → Said A → Type 0
Given (gives a) = Unit {0}
Given (refuses k) = ⊥
Given (refuses_at k p) = ⊥

-- A call that is refused is so with one of these numbers.
abbrev pub OnlyBy : {A : Type 0} → List ℕ → Said A → Type 0
OnlyBy ks (gives a) = Unit {0}
OnlyBy ks (refuses k) = on ks (number_of k) ≡ true
OnlyBy ks (refuses_at k p) = on ks (number_of k) ≡ true

-- The number k stands for what a call says: 0 for an answer, and for a refusal
-- its own number.
pub data Numbered {A : Type 0} (s : Said A) (k : ℕ) : Type 0 where
  answered : (a : A) → s ≡ gives a → k ≡ 0 → Numbered s k
  refused : (r : Refusal) → s ≡ refuses r → k ≡ number_of r → Numbered s k
  refused-at : (r : Refusal) (p : ℕ) → s ≡ refuses_at r p → k ≡ number_of r → Numbered s k
