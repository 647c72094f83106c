-- A way inside the part that is moved is the same way afterwards. Assumes
-- nothing.
use mathlib.Core.Path.{◌≡◌, sym, ap, ◌∙◌}
use mathlib.Core.Logic.{inl, inr}
use mathlib.Core.Bool.{true, false, not, true≢false}
use mathlib.Core.List.{List}
use Prim.Native.Nat.{ℕ, ◌<◌}
use lib.Dec.{eqb}
use borrow.Author.Tests.{eqb-true, eqb-false}
use Rattle.taxa.specs.Sets.{has}
use Rattle.taxa.proofs.Bools.{Either, either, bool_eq}
use Rattle.tree.specs.Tree.{lo, hi, rows, nodes, touches, far, part}
use Rattle.tree.proofs.Joins.{Joins, flat_join, touch_joins, joins_flip}
use Rattle.tree.proofs.Joins.{joins_same, not_touch, joins_not, joins_nodes}
use Rattle.tree.proofs.Colourings.{Hangs}
use Rattle.tree.proofs.Forks.{Fork, joined}
use Rattle.moves.proofs.Rows.Ends.{SameRow, no_touch, touch_same}
use Rattle.moves.proofs.Spr.Graft.{Site, Untouched, Graft, keep_parts, M_r, M_s, M_z}
use Rattle.moves.proofs.Ways.Walk.{Walk, next, done, Inside, behind, behind_sub, no_common}
use Rattle.moves.proofs.Ways.Walk.{inside_step, inside_x, beyond-is, at_b}

module _ {n : ℕ} {t t' : List ℕ} {p o a b : ℕ} {site : Site} (k : Graft n t t' p o a b site) where
  open site use {w, h, r, s, u, z, F, N, X}

  -- the part that is moved
  abbrev M : ℕ
  M = part n t a o

  -- a row at a node of M is none of those that change
  apart_rows : (j v y e x₁ x₂ : ℕ) → Joins t j v y → has M v ≡ true
      → Joins t e x₁ x₂ → has M x₁ ≡ false → has M x₂ ≡ false → j ≡ e → ⊥
  apart_rows j v y e x₁ x₂ jj mv je m₁ m₂ d = go jj
    where
      ends : (has M (lo t e) ≡ false) × (has M (hi t e) ≡ false)
      ends = at je
        where
          at : Joins t e x₁ x₂ → (has M (lo t e) ≡ false) × (has M (hi t e) ≡ false)
          at (inl q) = (ap (has M) q.0 ∙ m₁, ap (has M) q.1 ∙ m₂)
          at (inr q) = (ap (has M) q.0 ∙ m₂, ap (has M) q.1 ∙ m₁)

      lo-is : has M (lo t j) ≡ false
      lo-is = ap (λ (i : ℕ). has M (lo t i)) d ∙ ends.0

      hi-is : has M (hi t j) ≡ false
      hi-is = ap (λ (i : ℕ). has M (hi t i)) d ∙ ends.1

      go : Joins t j v y → ⊥
      go (inl q) = true≢false (sym mv ∙ ap (has M) (sym q.0) ∙ lo-is)
      go (inr q) = true≢false (sym mv ∙ ap (has M) (sym q.1) ∙ hi-is)

  pub untouched : (j v y : ℕ) → Joins t j v y → has M v ≡ true → Untouched site b j
  untouched j v y jj mv = record {
    not_w = apart_rows j v y w p r jj mv k.fork.f_row k.h_M.out (M_r k);
    not_h = apart_rows j v y h p s jj mv k.fork.x_row k.h_M.out (M_s k);
    not_b = apart_rows j v y b u z jj mv k.b_row k.M_u (M_z k);
  }

  pub same_ends : (j v y : ℕ) → Joins t j v y → has M v ≡ true → SameRow t t' j
  same_ends j v y jj mv = k.same j (untouched j v y jj mv)

  pub joins_keep : (j v y : ℕ) → Joins t j v y → has M v ≡ true → Joins t' j v y
  joins_keep j v y jj mv = let q = same_ends j v y jj mv in joins_same t t' j v y q.0 q.1 jj

  -- a node of M is at the same rows before and after
  pub touch_keep : (j v : ℕ) → has M v ≡ true → touches t' j v ≡ touches t j v
  touch_keep j v mv =
      bool_eq (touches t' j v) (touches t j v)
      (back (either (eqb j F)) (either (eqb j N)) (either (eqb j X)))
      (λ e. touch_same t t' j v (same_ends j v (far t j v) (touch_joins t j v e) mv) ∙ e)
    where
      ne : (y : ℕ) → has M y ≡ false → v ≡ y → ⊥
      ne y m d = true≢false (sym mv ∙ ap (has M) d ∙ m)

      -- it is on none of the rows that change
      off : (e x₁ x₂ : ℕ) → Joins t' e x₁ x₂ → has M x₁ ≡ false → has M x₂ ≡ false
          → j ≡ e → touches t' j v ≡ true → ⊥
      off e x₁ x₂ je m₁ m₂ d q =
          no_touch t' e v (joins_not t' e x₁ x₂ v je (ne x₁ m₁) (ne x₂ m₂))
          (ap (λ (i : ℕ). touches t' i v) (sym d) ∙ q)

      back : Either (eqb j F) → Either (eqb j N) → Either (eqb j X)
          → touches t' j v ≡ true → touches t j v ≡ true
      back (inl y) y₁ y₂ e = absurd (off F r s k.F_row (M_r k) (M_s k) (eqb-true j F y) e)
      back (inr y) (inl y₁) y₂ e =
          absurd (off N u p k.N_row k.M_u k.h_M.out (eqb-true j N y₁) e)
      back (inr y) (inr y₁) (inl y₂) e =
          absurd (off X p z k.X_row k.h_M.out (M_z k) (eqb-true j X y₂) e)
      back (inr y) (inr y₁) (inr y₂) e =
          let un = k.keep j (eqb-false j F y) (eqb-false j N y₁) (eqb-false j X y₂) in
          sym (touch_same t t' j v (k.same j un)) ∙ e

  fork_keep : {v x e f v' q i : ℕ}
      → Fork n t v x e f v' q i
      → has M v ≡ true
      → Fork n t' v x e f v' q i
  fork_keep {v} {x} {e} {f} {v'} {q} {i} K mv = record {
    e_row = joins_keep x v v' K.e_row mv;
    x_row = joins_keep e v q K.x_row mv;
    f_row = joins_keep f v i K.f_row mv;
    e_lt = K.e_lt;
    x_lt = K.x_lt;
    f_lt = K.f_lt;
    ex = K.ex;
    ef = K.ef;
    xf = K.xf;
    pq = K.pq;
    inner = K.inner;
    p_lt = K.p_lt;
    only = λ j l jx je jf.
        not_touch t' j v (λ d. no_touch t j v (K.only j l jx je jf) (sym (touch_keep j v mv) ∙ d));
  }

  hangs_keep : {j v H : ℕ} → Untouched site b j → Hangs n t j v H
      → has H p ≡ false → has H u ≡ false → Hangs n t' j v H
  hangs_keep un h_H hp hu =
      record { parts = keep_parts k un h_H.parts (hp ∙ sym hu); out = h_H.out }

  -- come to the node v of M by row e: p, u and row a lie behind
  pub record Safe (v e P : ℕ) : Type 0 where
    pub hang : Hangs n t e v P
    pub p_in : has P p ≡ true
    pub u_in : has P u ≡ true
    pub v_in : has M v ≡ true
    pub in_a : Inside t P e a

  u_lt : u < nodes n
  u_lt = (joins_nodes b k.valid k.b_lt u z k.b_row).0

  pub walk_keep : {c u₂ z₂ : ℕ} → Joins t c u₂ z₂ → c < rows n
      → {v e q : ℕ} {xs gs : List ℕ} → Walk n t c u₂ z₂ v e q xs gs
      → (P : ℕ) → Safe v e P → Walk n t' c u₂ z₂ v e q xs gs
  walk_keep {c} {u₂} {z₂} jc lc (done {D = D} vz ec qu hD tx) P S =
      let D_is = beyond-is k.valid jc lc (at_b vz ec S.hang) hD in
      let un = untouched c z₂ u₂ (joins_flip t c u₂ z₂ jc) (ap (has M) (sym vz) ∙ S.v_in) in
      done vz ec qu (hangs_keep un hD (D_is p k.fork.p_lt ∙ ap not S.p_in)
      (D_is u u_lt ∙ ap not S.u_in))
      tx
  walk_keep jc lc (next {v} {e} {q} {h = f} {i} {x} {v'} {H = H} ec fc K h_H tx rest) P S =
      let none = no_common K S.hang h_H k.valid in
      let un = untouched f v i K.f_row S.v_in in
      let xa = inside_x K S.hang h_H a S.in_a in
      let v_v' = flat_join t x v v' (has M) K.e_row (k.h_M.parts.closed x K.e_lt xa) in
      next ec fc (fork_keep K S.v_in)
      (hangs_keep un h_H (none p k.fork.p_lt S.p_in) (none u u_lt S.u_in)) tx
      (walk_keep jc lc rest (joined P H v) (record {
        hang = behind K S.hang h_H;
        p_in = behind_sub K S.hang h_H p S.p_in;
        u_in = behind_sub K S.hang h_H u S.u_in;
        v_in = sym v_v' ∙ S.v_in;
        in_a = inside_step K S.hang h_H a S.in_a;
      }))
