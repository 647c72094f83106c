-- The end p of row a moves onto row b: the rows at a's other end are as
-- before. Assumes nothing.
use mathlib.Core.Path.{◌≡◌, sym, ap, ◌∙◌}
use mathlib.Core.List.{List}
use Prim.Native.Nat.{ℕ}
use Rattle.taxa.specs.Sets.{has}
use Rattle.tree.specs.Tree.{rows, touches, far, others, part}
use Rattle.tree.proofs.Rounds.{part_start}
use Rattle.moves.specs.Moves.{move_end}
use Rattle.moves.proofs.Rows.Ends.{others_same}
use Rattle.moves.proofs.Spr.Rows.{EndFits}
use Rattle.moves.proofs.Spr.WayKept.{touch_keep}
use Rattle.moves.proofs.Spr.Dist.{some_graft}

-- q is a's other end
module _ {n : ℕ} {t : List ℕ} {p a b : ℕ} (k : EndFits n t p a b) (q : ℕ) (e : far t a p ≡ q) where
  pub touch-kept : (j : ℕ) → touches (move_end n t p a b) j q ≡ touches t j q
  touch-kept j =
      let M = part n t a (far t a p) in
      touch_keep (some_graft k).graft j q (ap (has M) (sym e) ∙ part_start n t a (far t a p))

  pub others-kept : others (move_end n t p a b) a q (rows n) ≡ others t a q (rows n)
  others-kept = others_same t (move_end n t p a b) a q (rows n) touch-kept
