-- The tag of no kind is not allowed; a field of the right length reaches as
-- far as the job; eight bytes as the library reads them. Assumes nothing.
use mathlib.Core.Path.{◌≡◌, refl}
use mathlib.Core.Bool.{Bool, true, false, ◌&&◌}
use mathlib.Core.List.{List, [], ◌∷◌}
use Prim.Native.Nat.{ℕ, ◌+◌, ◌<◌, ◌≤◌}
use native.Mathlib.Omega.{arith}
use lib.Dec.{eqb}
use lib.ListN.{length}
use Rattle.std.specs.Int.{w64, from_be_bytes}
use borrow.Author.Tests.{ne_eqb, leb-true}
use Rattle.taxa.specs.Sets.{pick}
use Rattle.taxa.proofs.Bools.{and_right}
use Rattle.fields.specs.Fields.{stated_at, headed, complete, high_first, number_in, allowed_of}
use Rattle.fields.specs.Fields.{allowed, length_right}

-- ---- tags

-- The tag of no kind is not allowed.
pub no_tag : (at parts moves tag : ℕ) → (1 ≤ tag → 4 < tag) → allowed at parts moves tag ≡ false
unfolding allowed_of
no_tag at parts moves tag h =
    rw (
      ne_eqb tag 1 (grind arith),
      ne_eqb tag 2 (grind arith),
      ne_eqb tag 3 (grind arith),
      ne_eqb tag 4 (grind arith),
    )
    (same (eqb at 0) (eqb at 4) (eqb parts 0) (eqb moves 0))
  where
    same : (a b c d : Bool)
        → pick a false (pick b false (pick c false (pick d false false))) ≡ false
    same true b c d = refl
    same false true c d = refl
    same false false true d = refl
    same false false false true = refl
    same false false false false = refl

-- ---- lengths

-- The field at an offset has the length l and is there to its end.
pub record Framed (job : List ℕ) (at l : ℕ) : Type 0 where
  pub right : length_right job at l ≡ true

pub reaches : {job : List ℕ} {at l : ℕ} → Framed job at l → at + 3 + l ≤ length job
reaches {job} {at} {l} F = leb-true (at + 3 + l) (length job)
    (and_right (headed job at && eqb (stated_at job at) l) (complete job at l) F.right)

-- ---- numbers

-- Eight bytes are the library's number of them.
pub eight_bytes : (bs : List ℕ) → length bs ≡ 8 → from_be_bytes w64 bs ≡ number_in bs
unfolding high_first
eight_bytes (a ∷ b ∷ c ∷ d ∷ e ∷ f ∷ g ∷ h ∷ []) l = omega arith
eight_bytes [] l = absurd (omega arith)
eight_bytes (a ∷ []) l = absurd (omega arith)
eight_bytes (a ∷ b ∷ []) l = absurd (omega arith)
eight_bytes (a ∷ b ∷ c ∷ []) l = absurd (omega arith)
eight_bytes (a ∷ b ∷ c ∷ d ∷ []) l = absurd (omega arith)
eight_bytes (a ∷ b ∷ c ∷ d ∷ e ∷ []) l = absurd (omega arith)
eight_bytes (a ∷ b ∷ c ∷ d ∷ e ∷ f ∷ []) l = absurd (omega arith)
eight_bytes (a ∷ b ∷ c ∷ d ∷ e ∷ f ∷ g ∷ []) l = absurd (omega arith)
eight_bytes (a ∷ b ∷ c ∷ d ∷ e ∷ f ∷ g ∷ h ∷ i ∷ bs) l = absurd (omega arith)
