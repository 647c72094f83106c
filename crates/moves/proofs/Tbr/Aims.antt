-- One side of a row a that is cut, its end v and the target b there: the
-- groups make up the side; an end whose target touches it has two groups
-- at most; an end whose target does not touch it can be moved onto it. Assumes
-- nothing.
use mathlib.Core.Path.{◌≡◌, refl, sym, ap, ◌∙◌, subst}
use mathlib.Core.Logic.{◌⊎◌, inl, inr}
use mathlib.Core.Bool.{Bool, true, false, not, ◌&&◌}
use mathlib.Core.List.{List, [], ◌∷◌}
use Prim.Native.Nat.{ℕ, suc, ◌^◌, ◌≤◌, ◌<◌}
use native.Mathlib.Omega.{arith}
use lib.Dec.{eqb, ltb}
use lib.ListN.{length}
use borrow.Author.Tests.{eqb-true, eqb-false, ltb-true, ltb-false, le-ltb, lt-ltb, not-true}
use Rattle.taxa.specs.Sets.{pick, has}
use Rattle.taxa.proofs.Bools.{Either, either, and_left, and_right}
use Rattle.tree.specs.Tree.{lo, rows, nodes, touches, far, part, Valid}
use Rattle.tree.proofs.Joins.{Joins, touch_joins, joins_flip}
use Rattle.tree.proofs.Colourings.{hangs, two-sides, valid-table}
use Rattle.moves.specs.Moves.{target}
use Rattle.moves.specs.Groups.{walk, groups, met}
use Rattle.moves.proofs.Spr.Rows.{EndFits}
use Rattle.moves.proofs.Ways.GroupLists.{met_le}
use Rattle.moves.proofs.Rows.Ends.{no_touch}
use Rattle.moves.proofs.Ways.Walk.{Walk, next, done, exact}
use Rattle.moves.proofs.Ways.Found.{Ahead, Found, walk_from}
use Rattle.moves.proofs.Ways.Covers.{Covers, leaf_covers}
use Rattle.moves.proofs.Spr.Rule.{end_fits}

-- ---- a way covers its side
pub way_covers : {n : ℕ} {t : List ℕ} {a v b : ℕ} {gs : List ℕ}
    → Valid n t
    → a < rows n
    → b < rows n
    → touches t a v ≡ true
    → Found n t b v a gs
    → Covers n gs (part n t a v)
way_covers {n} {t} {a} {v} vt la lb ta w i l =
    let o = far t a v in
    let j = touch_joins t a v ta in
    exact vt w.b_row lb w.way (part n t a o) (hangs a v o vt la j) i l
    ∙ sym (two-sides a o v vt la (joins_flip t a v o j) i (omega (arith, vt.big)))

-- a way to a row that touches its first node has two groups
at_end : {n : ℕ} {t : List ℕ} {b u z v e q : ℕ} {xs gs : List ℕ}
    → Walk n t b u z v e q xs gs
    → e ≡ b
    → length gs ≡ 1
at_end (done vz eb qu hD tx) d = refl
at_end (next eb hb f h_H tx rest) d = absurd (eb d)

short : {n : ℕ} {t : List ℕ} {b u z v e q : ℕ} {xs gs : List ℕ}
    → Walk n t b u z v e q xs gs
    → b < rows n
    → (e ≡ b → ⊥)
    → touches t b v ≡ true
    → length gs ≡ 2
short (done vz eb qu hD tx) lb d tb = absurd (d eb)
short {t = t} {b} (next {v} {x = x} {g = g} {gs = gs} eb hb f h_H tx rest) lb d tb =
    go (either (eqb x b))
  where
    go : Either (eqb x b) → length (g ∷ gs) ≡ 2
    go (inl w) = ap suc (at_end rest (eqb-true x b w))
    go (inr w) =
        let off = f.only b lb (λ y. eqb-false x b w (sym y)) (λ y. d (sym y)) (λ y. hb (sym y)) in
        absurd (no_touch t b v off tb)

-- ---- one side of the cut row a
pub record Aim (n : ℕ) (t : List ℕ) (a v b : ℕ) : Type 0 where
  pub valid : Valid n t
  pub a_lt : a < rows n
  pub b_lt : b < rows n
  pub a_v : touches t a v ≡ true
  pub fits : target n t a v b ≡ true

-- the side is a single taxon and has no row, and its target is a itself
pub record Taxon (n a v b : ℕ) : Type 0 where
  pub taxon : v < n
  pub same : b ≡ a

-- or b is one of its rows
pub record Inner (n : ℕ) (t : List ℕ) (a v b : ℕ) : Type 0 where
  pub inner : n ≤ v
  pub ba : b ≡ a → ⊥
  pub there : has (part n t a v) (lo t b) ≡ true

module _ {n : ℕ} {t : List ℕ} {a v b : ℕ} (A : Aim n t a v b) where
  pub kind : Taxon n a v b ⊎ Inner n t a v b
  unfolding target
  kind = go (ltb v n) refl A.fits
    where
      there : Bool
      there = has (part n t a v) (lo t b)

      go : (c : Bool) → ltb v n ≡ c → pick c (eqb b a) (not (eqb b a) && there) ≡ true
          → Taxon n a v b ⊎ Inner n t a v b
      go true e h = inl (record { taxon = ltb-true v n e; same = eqb-true b a h })
      go false e h =
          let ba = eqb-false b a (not-true (eqb b a) (and_left (not (eqb b a)) there h)) in
          let in_v = and_right (not (eqb b a)) there h in
          inr (record { inner = ltb-false v n e; ba = ba; there = in_v })

  j : Joins t a v (far t a v)
  j = touch_joins t a v A.a_v

  out_of : has (part n t a v) (lo t b) ≡ true → has (part n t a (far t a v)) (lo t b) ≡ false
  out_of h =
      let lo_lt = ((valid-table A.valid).ends b A.b_lt).0 in
      two-sides a v (far t a v) A.valid A.a_lt j (lo t b) lo_lt ∙ ap not h

  ahead : Inner n t a v b → Ahead n t b v a (part n t a (far t a v))
  ahead w = record {
    hang = hangs a v (far t a v) A.valid A.a_lt j;
    e_lt = A.a_lt;
    e_v = A.a_v;
    inner = w.inner;
    out = out_of w.there;
    be = w.ba;
  }

  -- the groups on the way
  abbrev gs : List ℕ
  gs = walk n t b (nodes n) v a

  way : Inner n t a v b → Found n t b v a gs
  way w = walk_from A.valid A.b_lt (ahead w)

  pub leaf-groups : v < n → groups n t a v b ≡ 2 ^ v ∷ []
  unfolding groups
  leaf-groups l = rw (lt-ltb v n l)

  pub inner-groups : n ≤ v → groups n t a v b ≡ walk n t b (nodes n) v a
  unfolding groups
  inner-groups l = rw (le-ltb v n l)

  pub side_covers : Covers n (groups n t a v b) (part n t a v)
  side_covers = go kind
    where
      to : (x : List ℕ) → groups n t a v b ≡ x → Covers n x (part n t a v)
          → Covers n (groups n t a v b) (part n t a v)
      to x e c = subst (λ (y : List ℕ). Covers n y (part n t a v)) (sym e) c

      go : Taxon n a v b ⊎ Inner n t a v b → Covers n (groups n t a v b) (part n t a v)
      go (inl w) =
          to (2 ^ v ∷ []) (leaf-groups w.taxon)
          (leaf_covers A.valid A.a_lt A.a_v w.taxon)
      go (inr w) =
          to gs (inner-groups w.inner)
          (way_covers A.valid A.a_lt A.b_lt A.a_v (way w))

  -- an end that stays has two groups, or one
  pub side-few : touches t b v ≡ true → (y : ℕ) → met y (groups n t a v b) ≤ 2
  side-few tb y = go kind
    where
      go : Taxon n a v b ⊎ Inner n t a v b → met y (groups n t a v b) ≤ 2
      go (inl w) = rw (leaf-groups w.taxon) (omega (arith, met_le y (2 ^ v ∷ [])))
      go (inr w) =
          let two : length gs ≡ 2 = short (way w).way A.b_lt (λ d. w.ba (sym d)) tb in
          rw (inner-groups w.inner) (omega (arith, met_le y gs))

  -- an end that moves
  pub side-fits : (touches t b v ≡ true → ⊥) → EndFits n t v a b
  side-fits tb = go kind
    where
      go : Taxon n a v b ⊎ Inner n t a v b → EndFits n t v a b
      go (inl w) = absurd (tb (ap (λ (x : ℕ). touches t x v) w.same ∙ A.a_v))
      go (inr w) = end_fits A.valid A.a_lt A.b_lt w.ba A.a_v tb (out_of w.there)
