-- The wide edition: how long its tables are, that reading undoes writing, and
-- which tables it accepts. Assumes nothing.
use mathlib.Core.Path.{◌≡◌, refl, ap, ap₂}
use mathlib.Core.Logic.{◌↔◌}
use mathlib.Core.List.{List, [], ◌∷◌}
use Prim.Native.Nat.{ℕ, zero, suc, ◌*◌, ◌≤◌}
use native.Mathlib.Nat.{div-add-mod'}
use native.Mathlib.Omega.{arith}
use lib.ListN.{length}
use Rattle.calls.specs.Calls.{gives}
use Rattle.tree.specs.Tree.{Valid}
use Rattle.tree.specs.Editions.{pairs, unpaired, wide}
use Rattle.tree.specs.Refusals.{tree_said_of, AcceptedOf}
use Rattle.tree.proofs.RefusalLaws.{Sized, accepted_iff_of}

-- So many pairs of bytes are so many numbers.
halved : (j : ℕ) (b : List ℕ) → length b ≡ 2 * j → length (pairs b) ≡ j
unfolding pairs
halved zero [] h = refl
halved (suc j) [] h = absurd (omega (arith, h))
halved zero (x ∷ b) h = absurd (omega (arith, h))
halved (suc j) (x ∷ []) h = absurd (omega (arith, h))
halved (suc j) (x ∷ y ∷ b) h = ap suc (halved j b (omega (arith, h)))

-- Two node numbers to a row.
pub wide_sized : Sized wide
wide_sized k b h = halved (2 * k) b (omega (arith, h))

-- Two bytes are written for each number.
pub wide-long : (t : List ℕ) → length (unpaired t) ≡ 2 * length t
unfolding unpaired
wide-long [] = refl
wide-long (v ∷ t) = let h = wide-long t in omega (arith, h)

-- Reading undoes writing.
pub read-written : (t : List ℕ) → pairs (unpaired t) ≡ t
unfolding pairs unpaired
read-written [] = refl
read-written (v ∷ t) = ap₂ ◌∷◌ (omega (arith, div-add-mod' v 256)) (read-written t)

-- The checks refuse nothing exactly where a table of 4(2n-3) bytes is read as
-- a valid one of at most 256 taxa.
pub wide_accepted : (n : ℕ) (b : List ℕ) → (tree_said_of wide n b ≡ gives tt) ↔ AcceptedOf wide n b
wide_accepted = accepted_iff_of wide_sized

-- So every valid table of at most 256 taxa is accepted in the bytes that are
-- written for it.
pub wide-written : {n : ℕ} {t : List ℕ} → n ≤ 256 → Valid n t → AcceptedOf wide n (unpaired t)
wide-written {n} {t} few v =
    record { few = few; whole = omega (arith, wide-long t, v.len); valid = rw (read-written t) v }
