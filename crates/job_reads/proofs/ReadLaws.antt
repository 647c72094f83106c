-- A partition that is put after those before it. Assumes nothing.
use mathlib.Core.Path.{◌≡◌, sym, ap, ◌∙◌}
use mathlib.Core.List.{List, [], ◌∷◌, ◌++◌}
use Prim.Native.Nat.{ℕ, suc, ◌+◌, ◌<◌}
use native.Mathlib.Omega.{arith}
use native.Mathlib.Numerals.{add-one}
use lib.ListN.{length, take, drop, set, length-append}
use lib.Seq.{length-take-le, set_split, append_snoc}
use Rattle.calls.specs.Calls.{at_start}

pub one_more : (ys : List ℕ) (k y : ℕ) → k < length ys → length (take k ys ++ y ∷ []) ≡ k + 1
one_more ys k y l = omega (
  arith,
  length-append (take k ys) (y ∷ []),
  length-take-le k ys (omega arith),
)

pub set_next : (ys : List ℕ) (k y : ℕ) → k < length ys
    → set ys k y ≡ at_start (take k ys ++ y ∷ []) ys
set_next ys k y l =
    set_split ys k y l
    ∙ sym (append_snoc (take k ys) y (drop (suc k) ys))
    ∙ ap (λ (n : ℕ). take k ys ++ (y ∷ []) ++ drop n ys) (sym (one_more ys k y l ∙ add-one k))
