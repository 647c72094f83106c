-- The distances at the start of a lent list. Assumes nothing.
use mathlib.Core.Path.{◌≡◌, sym, ap, ap₂, ◌∙◌}
use mathlib.Core.List.{List}
use Prim.Native.Nat.{ℕ, ◌≤◌}
use native.Mathlib.Omega.{arith}
use lib.ListN.{length, take}
use Rattle.tree.specs.Splits.{distances}
use Rattle.group_rule.specs.Zeros.{zeros}
use Rattle.group_rule.proofs.Judging.{distances-length}
use Rattle.calls.specs.Between.{Wrote}
use Rattle.calls.proofs.StartLaws.{start_take, wrote-within}

-- ---- the distances of the partitions ys at the start of a lent list
module _
    (n : ℕ) (t u ys : List ℕ) {out : List ℕ} {r : ℕ} {out' : List ℕ}
    (told : Wrote zeros (distances n t u ys) out r out')
  where
    pub found_are : take (length ys) out' ≡ distances n t u ys
    found_are =
        ap₂ take (sym (distances-length n t u ys)) told.memory
        ∙ start_take (distances n t u ys) out

    pub found-length : length ys ≡ length (take (length ys) out')
    found-length = sym (ap length found_are ∙ distances-length n t u ys)

    pub found-few : {k : ℕ} → length ys ≤ k → length (take (length ys) out') ≤ k
    found-few h = omega (arith, found-length)

    pub found_within : length ys ≤ length out'
    found_within = omega (arith, distances-length n t u ys, wrote-within told)

    pub found_same : r ≡ zeros (take (length ys) out')
    found_same = told.count ∙ sym (ap zeros found_are)
