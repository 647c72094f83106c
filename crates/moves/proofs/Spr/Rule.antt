-- An SPR whose rows fit: the table stays valid, and the distance is the
-- papers' rule, from the groups met. Assumes nothing.
use mathlib.Core.Path.{◌≡◌, refl, sym, ap, ◌∙◌}
use mathlib.Core.Logic.{inl, inr}
use mathlib.Core.Bool.{Bool, true, false, not, true≢false}
use mathlib.Core.List.{List, [], ◌∷◌}
use Prim.Native.Nat.{ℕ, ◌*◌, ◌-◌, ◌^◌, ◌≤◌, ◌<◌}
use lib.Dec.{eqb, ltb}
use borrow.Author.Tests.{eqb-true, eqb-false, ltb-true, ltb-false, le-ltb}
use Rattle.taxa.specs.Sets.{pick, has}
use Rattle.taxa.proofs.Bools.{Either, either, not_both}
use Rattle.tree.specs.Tree.{lo, hi, rows, nodes, touches, far, part, Valid}
use Rattle.tree.specs.Splits.{dist}
use Rattle.tree.proofs.Joins.{touch_joins, joins_touch, joins_flip}
use Rattle.tree.proofs.Joins.{lo-touch, hi-touch, far-lo, far-hi}
use Rattle.tree.proofs.Colourings.{hangs, two-sides, valid-table}
use Rattle.moves.specs.Moves.{move_end, end_with, spr}
use Rattle.moves.specs.Groups.{walk, groups, stayed, met, rule, spr_rule}
use Rattle.moves.proofs.Spr.Rows.{EndFits}
use Rattle.moves.proofs.Spr.Valid.{move_end-valid}
use Rattle.moves.proofs.Ways.Found.{leaf_behind}
use Rattle.moves.proofs.Spr.Dist.{move-dist}
use Rattle.moves.proofs.Ways.Covers.{Covers, stayed_covers, stayed-two, side-met, rule_one}

-- ---- the rows fit: where b is on p's side of a and does not touch p, p is no
-- taxon
pub end_fits : {n : ℕ} {t : List ℕ} {p a b : ℕ}
    → Valid n t
    → a < rows n
    → b < rows n
    → (b ≡ a → ⊥)
    → touches t a p ≡ true
    → (touches t b p ≡ true → ⊥)
    → has (part n t a (far t a p)) (lo t b) ≡ false
    → EndFits n t p a b
end_fits {n} {t} {p} {a} {b} vt la lb ba ta tb out = record {
  valid = vt;
  a_lt = la;
  b_lt = lb;
  a_p = ta;
  inner = go (either (ltb p n));
  ba = ba;
  b_p = tb;
  b_out = out;
}
  where
    M : ℕ
    M = part n t a (far t a p)

    -- all but a taxon lies beyond its row
    beyond : p < n → (p ≡ lo t b → ⊥) → has M (lo t b) ≡ true
    beyond l d =
        leaf_behind vt l la ta (hangs a p (far t a p) vt la (touch_joins t a p ta))
        (lo t b) ((valid-table vt).ends b lb).0 d

    go : Either (ltb p n) → n ≤ p
    go (inr q) = ltb-false p n q
    go (inl q) = absurd (at (either (eqb p (lo t b))))
      where
        at : Either (eqb p (lo t b)) → ⊥
        at (inl e) = tb (joins_touch t b p (hi t b) (inl (sym (eqb-true p (lo t b) e), refl)))
        at (inr e) = true≢false (sym (beyond (ltb-true p n q) (eqb-false p (lo t b) e)) ∙ out)

-- ---- one end moves, and the other side has two groups at most
pub one_rule : {n : ℕ} {t : List ℕ} {p a b : ℕ} → EndFits n t p a b
    → (y : ℕ) (hs : List ℕ) → y < 2 ^ n
    → Covers n hs (part n t a (far t a p))
    → met y hs ≤ 2
    → dist n t (move_end n t p a b) y ≡ rule (met y (groups n t a p b)) (met y hs)
unfolding groups
one_rule {n} {t} {p} {a} {b} k y hs bound cov few =
    move-dist k M y (λ i l. refl) bound
    ∙ ap (λ (x : Bool). pick x (2 * (met y way - 2)) 0) (side-met n y M hs bound cov)
    ∙ rule_one (met y way) (met y hs) few
    ∙ ap (λ (x : Bool). rule (met y (pick x (2 ^ p ∷ []) way)) (met y hs))
    (sym (le-ltb p n k.inner))
  where
    M : ℕ
    M = part n t a (far t a p)

    way : List ℕ
    way = walk n t b (nodes n) p a

-- ---- the move of kind 2: two different rows, and the second does not touch
-- the end that moves
module _ {n : ℕ} {t : List ℕ} (a b : ℕ) (vt : Valid n t) (la : a < rows n) (lb : b < rows n)
    (ab : a ≡ b → ⊥) (tb : touches t b (end_with n t a b) ≡ false) where
  pub spr-fits : EndFits n t (end_with n t a b) a b
  unfolding end_with
  spr-fits = go (has (part n t a u) (lo t b)) refl tb
    where
      u : ℕ
      u = lo t a

      v : ℕ
      v = hi t a

      ba : b ≡ a → ⊥
      ba d = ab (sym d)

      -- the two parts of a hold different nodes
      parted : has (part n t a v) (lo t b) ≡ not (has (part n t a u) (lo t b))
      parted =
          two-sides a u v vt la (inl (refl, refl)) (lo t b) ((valid-table vt).ends b lb).0

      go : (q : Bool) → has (part n t a u) (lo t b) ≡ q → touches t b (pick q u v) ≡ false
          → EndFits n t (pick q u v) a b
      go true e tb =
          let far-is = ap (λ (x : ℕ). has (part n t a x) (lo t b)) (far-lo a vt la) in
          end_fits vt la lb ba (lo-touch t a) (λ w. not_both (touches t b u) w tb)
          (far-is ∙ parted ∙ ap not e)
      go false e tb =
          let far-is = ap (λ (x : ℕ). has (part n t a x) (lo t b)) (far-hi a vt la) in
          end_fits vt la lb ba (hi-touch t a) (λ w. not_both (touches t b v) w tb) (far-is ∙ e)

  pub spr-valid : Valid n (spr n t a b)
  unfolding spr
  spr-valid = move_end-valid spr-fits

  -- the distance over any set of taxa
  pub spr-dist : (Y : ℕ) → Y < 2 ^ n → dist n t (spr n t a b) Y ≡ spr_rule n t a b Y
  unfolding spr spr_rule
  spr-dist Y bound =
      let p = end_with n t a b in
      let o = far t a p in
      let at_o = joins_touch t a o p (joins_flip t a p o (touch_joins t a p spr-fits.a_p)) in
      one_rule spr-fits Y (stayed n t a o) bound (stayed_covers o vt la at_o) (stayed-two n t a o Y)
