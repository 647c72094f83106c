-- An answer of the code is settled by what it says, and a `?` hands the error
-- on. Assumes nothing.
use Rattle.std.proofs.Common.{ℕ, ◌≡◌, Result, Ok, Err, IsErrAnd, ap, ap₂}
use Rattle.calls.specs.declared.Refusal.{Refusal}
use Rattle.calls.specs.declared.RefusedAt.{RefusedAt}
use Rattle.calls.specs.Calls.{says, says_at}

pub says_one : {A : Type 0} (a b : Result A Refusal) → says a ≡ says b → a ≡ b
says_one (Ok x) (Ok y) h = cc
says_one (Ok x) (Err s) h = cc
says_one (Err r) (Ok y) h = cc
says_one (Err r) (Err s) h = cc

abbrev placed : Refusal → ℕ → RefusedAt
placed w p = record { why = w; place = p }

pub says_at_one : {A : Type 0} (a b : Result A RefusedAt) → says_at a ≡ says_at b → a ≡ b
says_at_one (Ok x) (Ok y) h = cc
says_at_one (Ok x) (Err s) h = cc
says_at_one (Err r) (Ok y) h = cc
says_at_one (Err r) (Err s) h =
    let w : r.why ≡ s.why = cc in
    let p : r.place ≡ s.place = cc in
    ap Err (ap₂ placed w p)

-- What a `?` hands on is the error that it met.
pub handed_on : {T E : Type 0} (r : Result T E) {e : E} → IsErrAnd r (λ d. d ≡ e) → r ≡ Err e
handed_on (Ok x) h = absurd h
handed_on (Err d) h = ap Err h
