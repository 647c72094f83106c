-- Both ends of a row a move, one after the other: the second move fits the
-- table after the first, the way of its end is the way before the first,
-- and the distance is the papers' rule. Assumes nothing.
use mathlib.Core.Path.{◌≡◌, refl, sym, ap, ap₂, ◌∙◌, subst}
use mathlib.Core.Logic.{inl}
use mathlib.Core.Bool.{Bool, true, not}
use mathlib.Core.List.{List}
use Prim.Native.Nat.{ℕ, ◌+◌, ◌*◌, ◌-◌, ◌^◌, ◌<◌}
use native.Mathlib.Omega.{arith}
use Rattle.taxa.specs.Sets.{pick, has}
use Rattle.taxa.proofs.Sets.{has_below}
use Rattle.tree.specs.Tree.{lo, hi, rows, nodes, far, part}
use Rattle.tree.specs.Splits.{splits, dist_by, dist}
use Rattle.tree.proofs.Rounds.{part_start}
use Rattle.tree.proofs.Joins.{Joins, touch_joins, joins_flip, joins_same}
use Rattle.tree.proofs.Joins.{joins_nodes, far-is, joins_differ}
use Rattle.tree.proofs.Colourings.{hangs, two-sides, valid-table, part-is}
use Rattle.moves.specs.Moves.{move_end}
use Rattle.moves.specs.Groups.{walk, met, rule}
use Rattle.moves.proofs.Spr.Rows.{EndFits}
use Rattle.moves.proofs.LostSplits.Chain.{Chain}
use Rattle.moves.proofs.LostSplits.TwoChains.{two-dist}
use Rattle.moves.proofs.Rows.Ends.{SameRow}
use Rattle.moves.proofs.Spr.Graft.{Site, Graft, a_same, a_parts}
use Rattle.moves.proofs.Ways.Walk.{Walk}
use Rattle.moves.proofs.Spr.WayKept.{same_ends, touch_keep, Safe, walk_keep}
use Rattle.moves.proofs.Spr.Dist.{found, way_chain}
use Rattle.moves.proofs.Ways.Covers.{Covers, side-met, rule-two}
use Rattle.moves.proofs.Tbr.Aims.{way_covers}

-- row a's end p has moved onto b, which makes t' of t; its other end q fits
-- row c in t
module _ {n : ℕ} {t t' : List ℕ} {p q a b : ℕ} {site : Site} (k : Graft n t t' p q a b site)
    {c : ℕ} (k₂ : EndFits n t q a c) where
  open site use {u, z}

  a_lt : a < rows n
  a_lt = k.fork.e_lt

  jq : Joins t a q p
  jq = joins_flip t a p q k.fork.e_row

  hp : far t a q ≡ p
  hp = far-is t a q p jq (joins_differ a k.valid a_lt q p jq)

  q_in : has (part n t a q) q ≡ true
  q_in = part_start n t a q

  lo_c : lo t c < nodes n
  lo_c = ((valid-table k.valid).ends c k₂.b_lt).0

  c_in : has (part n t a q) (lo t c) ≡ true
  c_in =
      two-sides a p q k.valid a_lt k.fork.e_row (lo t c) lo_c
      ∙ ap not (ap (λ (x : ℕ). has (part n t a x) (lo t c)) (sym hp) ∙ k₂.b_out)

  c_same : SameRow t t' c
  c_same = same_ends k c (lo t c) (hi t c) (inl (refl, refl)) c_in

  a_joins : Joins t' a q p
  a_joins = joins_same t t' a q p (a_same k).0 (a_same k).1 jq

  far' : far t' a q ≡ p
  far' = far-is t' a q p a_joins (joins_differ a k.valid' a_lt q p a_joins)

  -- the two sides of a are as before
  same_side : (i : ℕ) → i < nodes n → has (part n t' a q) i ≡ has (part n t a q) i
  same_side i l = part-is a q p k.valid' a_lt a_joins (a_parts k) q_in i l

  other_side : (i : ℕ) → i < nodes n → has (part n t' a p) i ≡ not (has (part n t a q) i)
  other_side i l = two-sides a q p k.valid' a_lt a_joins i l ∙ ap not (same_side i l)

  -- so q fits row c in t'
  pub fits₂ : EndFits n t' q a c
  fits₂ = record {
    valid = k.valid';
    a_lt = a_lt;
    b_lt = k₂.b_lt;
    a_p = touch_keep k a q q_in ∙ k₂.a_p;
    inner = k₂.inner;
    ba = k₂.ba;
    b_p = λ e. k₂.b_p (sym (touch_keep k c q q_in) ∙ e);
    b_out =
        ap₂ (λ (x y : ℕ). has (part n t' a x) y) far' c_same.0
        ∙ other_side (lo t c) lo_c
        ∙ ap not c_in;
  }

  safe : Safe k q a (part n t a (far t a q))
  safe = record {
    hang = hangs a q (far t a q) k.valid a_lt (touch_joins t a q k₂.a_p);
    p_in = ap (has (part n t a (far t a q))) (sym hp) ∙ part_start n t a (far t a q);
    u_in =
        two-sides a q (far t a q) k.valid a_lt (touch_joins t a q k₂.a_p) u
        (joins_nodes b k.valid k.b_lt u z k.b_row).0
        ∙ ap not k.M_u;
    v_in = q_in;
    in_a = inl refl;
  }

  second : (y : ℕ)
      → y < 2 ^ n
      → Chain n y (part n t' a p) (walk n t c (nodes n) q a) (splits n t' y)
      (splits n (move_end n t' q a c) y)
  second y bound =
      let f = found k₂ in
      way_chain fits₂ (joins_same t t' c f.u f.z c_same.0 c_same.1 f.b_row)
      (subst (λ (x : ℕ). Walk n t' c f.u f.z q a x f.xs (walk n t c (nodes n) q a))
      (hp ∙ sym far')
      (walk_keep k f.b_row k₂.b_lt f.way (part n t a (far t a q)) safe))
      (part n t' a p) y (λ i l. ap (λ (x : ℕ). has (part n t' a x) i) (sym far')) bound

  pub two-rule : {y : ℕ} {gs : List ℕ}
      → y < 2 ^ n
      → Chain n y (part n t a q) gs (splits n t y) (splits n t' y)
      → Covers n gs (part n t a p)
      → dist n t (move_end n t' q a c) y ≡ rule (met y gs) (met y (walk n t c (nodes n) q a))
  unfolding dist_by
  two-rule {y} {gs} bound C cov =
      two-dist C (second y bound) (λ i yi. other_side i (node i (has_below n y i bound yi)))
      ∙ ap₂ (λ (x x' : Bool). pick x (2 * (met y gs - 2)) 0 + pick x' (2 * (met y hs - 2)) 0)
      (side-met n y (part n t a q) hs bound
      (way_covers k.valid a_lt k₂.b_lt k₂.a_p (found k₂)))
      (side-met n y (part n t' a p) gs bound
      (λ i l. cov i l ∙ two-sides a q p k.valid a_lt jq i (node i l)
      ∙ sym (other_side i (node i l))))
      ∙ rule-two (met y gs) (met y hs)
    where
      hs : List ℕ
      hs = walk n t c (nodes n) q a

      node : (i : ℕ) → i < n → i < nodes n
      node i l = omega (arith, k.valid.big)
