-- Whether a number is below another, as 0 or 1, so that it can be added up.
-- Assumes nothing.
use mathlib.Core.Path.{◌≡◌, refl, ap}
use mathlib.Core.Logic.{◌⊎◌, inl, inr}
use mathlib.Core.Bool.{Bool, true, false}
use Prim.Native.Nat.{ℕ, suc, ◌+◌, ◌≤◌, ◌<◌}
use native.Mathlib.Omega.{arith}
use lib.Dec.{eqb, ltb}
use lib.Arith.{lt_of_le-ne}
use borrow.Author.Tests.{ltb-true, ltb-false, eqb-true, eqb-false, lt-ltb, le-ltb}
use Rattle.taxa.specs.Sets.{tally}
use Rattle.taxa.proofs.Bools.{either}

-- 1 where v is below m, else 0
abbrev pub low : ℕ → ℕ → ℕ
low m v = tally (ltb v m)

pub low_in : (m v : ℕ) → v < m → low m v ≡ 1
low_in m v h = ap tally (lt-ltb v m h)

pub low-out : (m v : ℕ) → m ≤ v → low m v ≡ 0
low-out m v h = ap tally (le-ltb v m h)

-- what is counted at all, and only where v is below m
pub low-some : (m v k : ℕ) → 0 < k → k ≤ low m v → v < m
low-some m v k p h = go (ltb v m) refl
  where
    go : (q : Bool) → ltb v m ≡ q → v < m
    go true e = ltb-true v m e
    go false e = absurd (omega (arith, ap tally e))

-- below the next number is one more, m itself
pub low-next : (m v : ℕ) → low (suc m) v ≡ low m v + tally (eqb m v)
low-next m v = go (either (eqb m v)) (either (ltb v m))
  where
    go : (eqb m v ≡ true) ⊎ (eqb m v ≡ false)
        → (ltb v m ≡ true) ⊎ (ltb v m ≡ false)
        → low (suc m) v ≡ low m v + tally (eqb m v)
    go (inl e) b =
        let d : m ≡ v = eqb-true m v e in
        rw e (omega (arith, low_in (suc m) v (omega arith), low-out m v (omega arith)))
    go (inr e) (inl b) =
        let l : v < m = ltb-true v m b in
        rw e (omega (arith, low_in (suc m) v (omega arith), low_in m v l))
    go (inr e) (inr b) =
        let l : m < v = lt_of_le-ne (ltb-false v m b) (eqb-false m v e) in
        rw e (omega (arith, low-out (suc m) v l, low-out m v (omega arith)))
