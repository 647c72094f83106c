-- A plan asks each end that goes for what it has. Assumes nothing.
use mathlib.Core.Path.{◌≡◌, refl, sym, ap₂, ◌∙◌, subst}
use mathlib.Core.Bool.{true}
use mathlib.Core.List.{List, [], ◌∷◌}
use Prim.Native.Nat.{ℕ, ◌≤◌, ◌<◌}
use native.Mathlib.Omega.{arith}
use Rattle.taxa.specs.Most.{most}
use Rattle.taxa.proofs.Bools.{not_both}
use Rattle.tree.specs.Tree.{rows, nodes, touches, far, Valid}
use Rattle.tree.proofs.RefusalLaws.{valid_accepted}
use Rattle.tree.proofs.Joins.{touch-node}
use Rattle.tree.proofs.RowCounts.{Pair, pair_of}
use Rattle.node_rows.specs.Between.{Near, OtherTwo}
use Rattle.node_rows.proofs.NearLaws.{near-others}
use Rattle.moves.specs.Moves.{move_end}
use Rattle.std.specs.Prelude.{Option, Some, None}
use Rattle.moves.specs.Between.{Aims, SideRight, end_moved, side_moved}
use Rattle.moves.specs.declared.Side.{Side}
use Rattle.moves.specs.declared.Plan.{Plan}
use Rattle.moves.proofs.Spr.Rows.{EndFits}
use Rattle.moves.proofs.Spr.Valid.{move_end-valid}
use Rattle.moves.proofs.Tbr.Aims.{side-fits}
use Rattle.moves.proofs.AnyMove.Plans.{PlanRight, plan-right}
use Rattle.moved_rows.specs.Between.{EndMoves, SideMoves, Rewrites}
use Rattle.moved_rows.proofs.Kept.{touch-kept, others-kept}

-- ---- the rows that the code takes at an end that moves
module _ {n : ℕ} {t near : List ℕ} {p a b : ℕ} (k : EndMoves n t near p a b) where
  pub p_lt : p < nodes most
  p_lt = omega (arith, touch-node a k.good.valid k.a_lt p k.a_p, k.good.few)

  pub two_rows : {f g : ℕ} → OtherTwo a near p f g → Pair n t a p f g
  two_rows {f} {g} o =
      pair_of a p f g k.good.valid k.a_lt k.a_p k.inner
      (touch-node a k.good.valid k.a_lt p k.a_p)
      (k.two ∙ sym (ap₂ (λ (x y : ℕ). x ∷ y ∷ []) o.first o.second))

-- ---- an end that fits, in the table whose rows the array holds
fits_moves : {n : ℕ} {t near : List ℕ} {p a b : ℕ} → n ≤ most → EndFits n t p a b → Near n t near
    → EndMoves n t near p a b
fits_moves few k N = record {
  good = valid_accepted few k.valid;
  a_lt = k.a_lt;
  b_lt = k.b_lt;
  a_p = k.a_p;
  inner = k.inner;
  room = N.room;
  two = near-others k.valid N k.a_lt k.a_p k.inner;
}

-- the same at a's other end q, after one end has moved
kept-moves : {n : ℕ} {t near : List ℕ} {p q a b c : ℕ} → EndFits n t p a b → far t a p ≡ q
    → EndMoves n t near q a c → EndMoves n (move_end n t p a b) near q a c
kept-moves {q = q} {a = a} k e m = record {
  good = valid_accepted m.good.few (move_end-valid k);
  a_lt = m.a_lt;
  b_lt = m.b_lt;
  a_p = touch-kept k q e a ∙ m.a_p;
  inner = m.inner;
  room = m.room;
  two = others-kept k q e ∙ m.two;
}

-- ---- an end of row a that goes fits
side_end : {n : ℕ} {t : List ℕ} {a v b : ℕ} → Valid n t → a < rows n → touches t a v ≡ true
    → Aims n t a v b
    → EndFits n t v a b
side_end {n} {t} {a} {v} {b} vt lt touch aim =
    side-fits (record { valid = vt; a_lt = lt; b_lt = aim.row; a_v = touch; fits = aim.fits })
    (λ w. not_both (touches t b v) w aim.apart)

-- ---- the two ends of a plan
module _ {n : ℕ} {t near : List ℕ} {p : Plan} (k : Rewrites n t near p) where
  vt : Valid n t
  vt = k.good.valid

  pub rights : PlanRight n t p
  rights = plan-right vt k.plan

  at_end : {s : Side} → SideRight n t p.row s → SideMoves n t near p.row s
  at_end r b e = fits_moves k.good.few (side_end vt rights.row r.touch (r.aim b e)) k.holds

  pub first-moves : SideMoves n t near p.row p.first
  first-moves = at_end rights.first

  -- The second end, once the first has moved or stays.
  pub second-moves : {t₁ : List ℕ} → t₁ ≡ side_moved n t p.row p.first
      → SideMoves n t₁ near p.row p.second
  second-moves e =
      subst (λ (u : List ℕ). SideMoves n u near p.row p.second) (sym e)
      (go p.first.target refl)
    where
      go : (b : Option ℕ) → p.first.target ≡ b
          → SideMoves n (end_moved n t p.row p.first.node b) near p.row p.second
      go (Some b) h = λ c w.
          kept-moves (side_end vt rights.row rights.first.touch (rights.first.aim b h)) rights.ends
          (at_end rights.second c w)
      go None h = at_end rights.second
