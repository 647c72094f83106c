-- A TBR whose rows fit: the table stays valid, and the distance is the papers'
-- rule, from the groups met on the two sides. Assumes nothing.
use mathlib.Core.Path.{◌≡◌, refl, sym, ap₂, ◌∙◌, subst}
use mathlib.Core.Bool.{Bool, true, false}
use mathlib.Core.List.{List}
use Prim.Native.Nat.{ℕ, ◌^◌, ◌<◌}
use native.Mathlib.Omega.{arith}
use Rattle.taxa.specs.Sets.{pick}
use Rattle.taxa.proofs.Bools.{not_both}
use Rattle.tree.specs.Tree.{lo, hi, rows, nodes, touches, far, part, Valid}
use Rattle.tree.specs.Splits.{splits, dist_by, dist}
use Rattle.tree.proofs.Rounds.{part_start}
use Rattle.tree.proofs.Joins.{lo-touch, hi-touch, far-lo, far-hi}
use Rattle.tree.proofs.Lists.{lacks-none}
use Rattle.moves.specs.Moves.{move_end, stay_or, tbr, target}
use Rattle.moves.specs.Groups.{walk, groups, met, rule, tbr_rule}
use Rattle.moves.proofs.Spr.Rows.{EndFits}
use Rattle.moves.proofs.Spr.Valid.{move_end-valid}
use Rattle.moves.proofs.LostSplits.Chain.{Chain}
use Rattle.moves.proofs.Spr.Graft.{Graft}
use Rattle.moves.proofs.Spr.WayKept.{touch_keep}
use Rattle.moves.proofs.Spr.Dist.{SomeGraft, found, some_graft, move_chain}
use Rattle.moves.proofs.Ways.Covers.{Covers, rule_comm, rule-few}
use Rattle.moves.proofs.Spr.Rule.{one_rule}
use Rattle.moves.proofs.Tbr.Aims.{Aim, inner-groups, way_covers}
use Rattle.moves.proofs.Tbr.Aims.{side_covers, side-few, side-fits}
use Rattle.moves.proofs.Tbr.BothMove.{fits₂, two-rule}

-- a test that fails does not pass
not_so : (x : Bool) → x ≡ false → x ≡ true → ⊥
not_so x e d = not_both x d e

-- b is the target of a's smaller end, c that of its larger end
module _ {n : ℕ} {t : List ℕ} {a b c : ℕ} (low : Aim n t a (lo t a) b)
    (high : Aim n t a (hi t a) c) where
  -- the two ends, and the groups on their sides
  abbrev p : ℕ
  p = lo t a

  abbrev q : ℕ
  q = hi t a

  abbrev gs : List ℕ
  gs = groups n t a p b

  abbrev hs : List ℕ
  hs = groups n t a q c

  -- the table with the smaller end moved
  abbrev t₁ : List ℕ
  t₁ = move_end n t p a b

  fp : far t a p ≡ q
  fp = far-lo a low.valid low.a_lt

  fq : far t a q ≡ p
  fq = far-hi a low.valid low.a_lt

  -- the table t₂ is valid, and its distance is the papers' rule
  record Goal (t₂ : List ℕ) : Type 0 where
    valid : Valid n t₂
    distance : (y : ℕ) → y < 2 ^ n → dist n t t₂ y ≡ rule (met y gs) (met y hs)

  none_moves : touches t b p ≡ true → touches t c q ≡ true → Goal t
  unfolding dist_by
  none_moves tb tc = record {
    valid = low.valid;
    distance = λ y bound.
        let none = lacks-none (splits n t y) (splits n t y) (λ x m. m) in
        omega arith ∙ sym (rule-few (met y gs) (met y hs) (side-few low tb y) (side-few high tc y));
  }

  low-moves : (touches t b p ≡ true → ⊥) → touches t c q ≡ true → Goal t₁
  low-moves tb tc =
      let k = side-fits low tb in
      let cov : Covers n hs (part n t a (far t a p))
      = subst (λ (x : ℕ). Covers n hs (part n t a x)) (sym fp) (side_covers high) in
      record {
        valid = move_end-valid k;
        distance = λ y bound. one_rule k y hs bound cov (side-few high tc y);
      }

  high_moves : touches t b p ≡ true → (touches t c q ≡ true → ⊥) → Goal (move_end n t q a c)
  high_moves tb tc =
      let k = side-fits high tc in
      let cov : Covers n gs (part n t a (far t a q))
      = subst (λ (x : ℕ). Covers n gs (part n t a x)) (sym fq) (side_covers low) in
      record {
        valid = move_end-valid k;
        distance = λ y bound.
            one_rule k y gs bound cov (side-few low tb y) ∙ rule_comm (met y hs) (met y gs);
      }

  -- the move of the smaller end: the part that is moved is that of the larger
  first_graft : (touches t b p ≡ true → ⊥) → SomeGraft n t t₁ p q a b
  first_graft tb = subst (λ (x : ℕ). SomeGraft n t t₁ p x a b) fp (some_graft (side-fits low tb))

  -- it leaves the larger end at the same rows
  kept : (touches t b p ≡ true → ⊥) → (j : ℕ) → touches t₁ j q ≡ touches t j q
  kept tb j = touch_keep (first_graft tb).graft j q (part_start n t a q)

  both_move : (touches t b p ≡ true → ⊥) → (touches t c q ≡ true → ⊥) → Goal (move_end n t₁ q a c)
  both_move tb tc = record { valid = move_end-valid (fits₂ g k₂); distance = distance }
    where
      k₁ : EndFits n t p a b
      k₁ = side-fits low tb

      k₂ : EndFits n t q a c
      k₂ = side-fits high tc

      g : Graft n t t₁ p q a b (first_graft tb).site
      g = (first_graft tb).graft

      way : List ℕ
      way = walk n t b (nodes n) p a

      chain : (y : ℕ) → y < 2 ^ n → Chain n y (part n t a q) way (splits n t y) (splits n t₁ y)
      chain y bound =
          subst (λ (x : ℕ). Chain n y (part n t a x) way (splits n t y) (splits n t₁ y)) fp
          (move_chain k₁ (part n t a (far t a p)) y (λ i l. refl) bound)

      covers : Covers n way (part n t a p)
      covers = way_covers low.valid low.a_lt low.b_lt (lo-touch t a) (found k₁)

      distance : (y : ℕ) → y < 2 ^ n → dist n t (move_end n t₁ q a c) y ≡ rule (met y gs) (met y hs)
      distance y bound =
          two-rule g k₂ bound (chain y bound) covers
          ∙ ap₂ (λ (x x' : List ℕ). rule (met y x) (met y x'))
          (sym (inner-groups low k₁.inner)) (sym (inner-groups high k₂.inner))

  tbr_goal : Goal (tbr n t a b c)
  unfolding tbr stay_or
  tbr_goal = go (touches t b p) refl
    where
      stay : touches t b p ≡ true
          → (C : Bool) → touches t c q ≡ C
          → Goal (pick C t (move_end n t q a c))
      stay tb true tc = none_moves tb tc
      stay tb false tc = high_moves tb (not_so (touches t c q) tc)

      move : touches t b p ≡ false
          → (C : Bool) → touches t c q ≡ C
          → Goal (pick C t₁ (move_end n t₁ q a c))
      move tb true tc = low-moves (not_so (touches t b p) tb) tc
      move tb false tc = both_move (not_so (touches t b p) tb) (not_so (touches t c q) tc)

      go : (B : Bool) → touches t b p ≡ B
          → Goal (pick (touches (pick B t t₁) c q) (pick B t t₁) (move_end n (pick B t t₁) q a c))
      go true e = stay e (touches t c q) refl
      go false e = move e (touches t₁ c q) (sym (kept (not_so (touches t b p) e) c))

  -- whether the smaller end moves or stays, the larger is at the same rows
  pub at_high : (j : ℕ) → touches (stay_or n t (lo t a) a b) j (hi t a) ≡ touches t j (hi t a)
  unfolding stay_or
  at_high j = go (touches t b p) refl
    where
      go : (B : Bool) → touches t b p ≡ B → touches (pick B t t₁) j q ≡ touches t j q
      go true e = refl
      go false e = kept (not_so (touches t b p) e) j

  -- and where its target does not touch it, it fits
  pub next_fits : (touches (stay_or n t (lo t a) a b) c (hi t a) ≡ true → ⊥)
      → EndFits n (stay_or n t (lo t a) a b) (hi t a) a c
  unfolding stay_or
  next_fits tc = go (touches t b p) refl (λ h. tc (at_high c ∙ h))
    where
      go : (B : Bool)
          → touches t b p ≡ B
          → (touches t c q ≡ true → ⊥)
          → EndFits n (pick B t t₁) q a c
      go true e d = side-fits high d
      go false e d = fits₂ (first_graft (not_so (touches t b p) e)).graft (side-fits high d)

-- ---- the move of kind 3: each target fits its end
module _ {n : ℕ} {t : List ℕ} (a b c : ℕ) (vt : Valid n t)
    (la : a < rows n) (lb : b < rows n) (lc : c < rows n)
    (low : target n t a (lo t a) b ≡ true) (high : target n t a (hi t a) c ≡ true) where
  pub aim-low : Aim n t a (lo t a) b
  aim-low = record { valid = vt; a_lt = la; b_lt = lb; a_v = lo-touch t a; fits = low }

  pub aim_high : Aim n t a (hi t a) c
  aim_high = record { valid = vt; a_lt = la; b_lt = lc; a_v = hi-touch t a; fits = high }

  pub tbr-valid : Valid n (tbr n t a b c)
  tbr-valid = (tbr_goal aim-low aim_high).valid

  -- the distance over any set of taxa; where no end moves, both are 0
  pub tbr-dist : (Y : ℕ) → Y < 2 ^ n → dist n t (tbr n t a b c) Y ≡ tbr_rule n t a b c Y
  unfolding tbr_rule
  tbr-dist Y bound = (tbr_goal aim-low aim_high).distance Y bound
