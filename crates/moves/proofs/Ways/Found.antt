-- The list that `walk` makes is that of a way as in `Walk`. Assumes nothing.
use mathlib.Core.Path.{◌≡◌, refl, sym, ap, ap₂, ◌∙◌, subst}
use mathlib.Core.Logic.{inl, inr}
use mathlib.Core.Bool.{Bool, true, false, ◌&&◌, ◌||◌, true≢false}
use mathlib.Core.List.{List, [], ◌∷◌}
use Prim.Native.Nat.{ℕ, zero, suc, ◌+◌, ◌≤◌, ◌<◌}
use native.Mathlib.Omega.{arith}
use lib.Dec.{eqb, ltb}
use borrow.Author.Tests.{eqb-true, eqb-false, eq-eqb, ne_eqb, lt-ltb, ltb-true, ltb-false}
use Rattle.taxa.specs.Sets.{pick, has, size}
use Rattle.taxa.proofs.Bools.{Either, either, or_neither, ◌⊕◌, xor_at_true}
use Rattle.taxa.proofs.Sets.{has_mod, has_pow}
use Rattle.taxa.proofs.Sizes.{size_le, size_less, size_pos}
use Rattle.tree.specs.Tree.{lo, hi, rows, nodes, touches, far, others, part, Valid}
use Rattle.tree.proofs.Rounds.{part_start}
use Rattle.tree.proofs.Joins.{Joins, joins_touch, joins_flip, touch_joins}
use Rattle.tree.proofs.Joins.{touch-node, far-is, joins_nodes, joins_differ}
use Rattle.tree.proofs.Colourings.{Hangs, hangs, parts_unique, valid-table}
use Rattle.tree.proofs.RowCounts.{Pair, pair, leaf-only}
use Rattle.tree.proofs.Forks.{Fork, fork_of, fork_swap, joined, has-joined, leaf-parts}
use Rattle.moves.specs.Groups.{beyond, leads, onward, aside, walk}
use Rattle.moves.proofs.Rows.Ends.{out-lo}
use Rattle.moves.proofs.Ways.Walk.{Taxa, Walk, next, done, fork_turn, behind}
use Rattle.moves.proofs.Ways.Walk.{behind_v, behind_sub, no_common}

-- the set behind row e, seen from a taxon v, is all but v
pub leaf_behind : {n : ℕ} {t : List ℕ} {v e P : ℕ}
    → Valid n t
    → v < n
    → e < rows n
    → touches t e v ≡ true
    → Hangs n t e v P
    → (i : ℕ) → i < nodes n → (v ≡ i → ⊥) → has P i ≡ true
leaf_behind {n} {t} {v} {e} vt lv le te h_P i li d =
    let alone = leaf-parts e v vt lv le te in
    let w = parts_unique vt.connected vt.big h_P.parts alone in
    let v_in = ap (λ (x : Bool). w.0 ⊕ x) (has_pow v v ∙ eq-eqb v v refl) in
    let at_v = w.1 v (touch-node e vt le v te) ∙ v_in in
    let all : w.0 ≡ true = xor_at_true w.0 false (sym (sym h_P.out ∙ at_v)) in
    w.1 i li ∙ ap₂ ◌⊕◌ all (has_pow v i ∙ ne_eqb v i d)

-- ---- one step of `walk`
module _ (n : ℕ) (t : List ℕ) (b k v e : ℕ) where
  pub walk-last : eqb (onward n t b v e) b ≡ true
      → walk n t b (suc k) v e ≡ beyond n t v (aside n t b v e) ∷ beyond n t v b ∷ []
  unfolding walk
  walk-last q = rw q

  pub walk-next : eqb (onward n t b v e) b ≡ false
      → walk n t b (suc k) v e
      ≡ beyond n t v (aside n t b v e)
      ∷ walk n t b k (far t (onward n t b v e) v) (onward n t b v e)
  unfolding walk
  walk-next q = rw q

-- f and g being the two other rows at v
module _ (n : ℕ) (t : List ℕ) (b e v f g : ℕ) (list : others t e v (rows n) ≡ f ∷ g ∷ []) where
  pub on-is : (l : Bool) → leads n t b v f ≡ l → onward n t b v e ≡ pick l f g
  unfolding onward
  on-is l h = rw (list, h)

  pub off_is : (l : Bool) → leads n t b v f ≡ l → aside n t b v e ≡ pick l g f
  unfolding aside
  off_is l h = rw (list, h)

  module _ (k : ℕ) (l : Bool) (h : leads n t b v f ≡ l) where
    last-is : eqb (pick l f g) b ≡ true
        → walk n t b (suc k) v e ≡ beyond n t v (pick l g f) ∷ beyond n t v b ∷ []
    last-is q =
        walk-last n t b k v e (ap (λ (x : ℕ). eqb x b) (on-is l h) ∙ q)
        ∙ ap (λ (x : ℕ). beyond n t v x ∷ beyond n t v b ∷ []) (off_is l h)

    next-is : eqb (pick l f g) b ≡ false
        → walk n t b (suc k) v e
        ≡ beyond n t v (pick l g f) ∷ walk n t b k (far t (pick l f g) v) (pick l f g)
    next-is q =
        walk-next n t b k v e (ap (λ (x : ℕ). eqb x b) (on-is l h) ∙ q)
        ∙ ap₂ (λ (x y : ℕ). beyond n t v x ∷ walk n t b k (far t y v) y) (off_is l h) (on-is l h)

pub beyond-taxa : (n : ℕ) (t : List ℕ) (v x : ℕ) → Taxa n (beyond n t v x) (part n t x (far t x v))
unfolding beyond
beyond-taxa n t v x i l =
    let S = part n t x (far t x v) in
    has_mod n S i ∙ ap (λ (c : Bool). c && has S i) (lt-ltb i n l)

-- come to the inner node v by row e, with P behind and b ahead
pub record Ahead (n : ℕ) (t : List ℕ) (b v e P : ℕ) : Type 0 where
  pub hang : Hangs n t e v P
  pub e_lt : e < rows n
  pub e_v : touches t e v ≡ true
  pub inner : n ≤ v
  pub out : has P (lo t b) ≡ false
  pub be : b ≡ e → ⊥

-- a way from v, come by row e, to row b = u-z, along the rows xs
pub record Found (n : ℕ) (t : List ℕ) (b v e : ℕ) (gs : List ℕ) : Type 0 where
  pub u : ℕ
  pub z : ℕ
  pub xs : List ℕ
  pub b_row : Joins t b u z
  pub way : Walk n t b u z v e (far t e v) xs gs

module _ {n : ℕ} {t : List ℕ} {b : ℕ} (vt : Valid n t) (b_lt : b < rows n) where
  -- at v the way goes on by row `on`, and `off` is the third row
  module _ {v e P on off : ℕ} (A : Ahead n t b v e P)
      (q : Fork n t v on e off (far t on v) (far t e v) (far t off v)) (off-b : off ≡ b → ⊥) where
    -- the next node, and what hangs from v
    abbrev v' : ℕ
    v' = far t on v

    abbrev H : ℕ
    H = part n t off (far t off v)

    h_H : Hangs n t off v H
    h_H = hangs off v (far t off v) vt q.f_lt q.f_row

    -- on is b
    last_step : eqb on b ≡ true → Found n t b v e (beyond n t v off ∷ beyond n t v b ∷ [])
    last_step w =
        let ob = eqb-true on b w in
        let j : Joins t b v v' = subst (λ (x : ℕ). Joins t x v v') ob q.e_row in
        let jb : Joins t b v (far t b v)
        = subst (λ (x : ℕ). Joins t x v (far t x v)) ob q.e_row in
        let last = done refl ob refl (hangs b v (far t b v) vt b_lt jb) (beyond-taxa n t v b) in
        record {
          u = v;
          z = v';
          xs = on ∷ [];
          b_row = j;
          way = next (λ d. A.be (sym d)) off-b q h_H (beyond-taxa n t v off) last;
        }

    -- on is not b, and b is not beyond off
    module _ (on-b : eqb on b ≡ false) (H-out : has H (lo t b) ≡ false) where
      P' : ℕ
      P' = joined P H v

      v_b : v ≡ lo t b → ⊥
      v_b = (q.only b b_lt (λ d. eqb-false on b on-b (sym d)) A.be (λ d. off-b (sym d))).0

      P'_out : has P' (lo t b) ≡ false
      unfolding P'
      P'_out =
          has-joined P H v (lo t b) ∙ ap₂ ◌||◌ (ap₂ ◌||◌ A.out H-out) (ne_eqb v (lo t b) v_b)

      h_P' : Hangs n t on v' P'
      unfolding P'
      h_P' = behind q A.hang h_H

      on_v' : touches t on v' ≡ true
      on_v' = joins_touch t on v' v (joins_flip t on v v' q.e_row)

      far-far : far t on v' ≡ v
      far-far = far-is t on v' v (joins_flip t on v v' q.e_row) (λ w. q.pq (sym w))

      v'_inner : n ≤ v'
      v'_inner = go (either (ltb v' n))
        where
          go : Either (ltb v' n) → n ≤ v'
          go (inr w) = ltb-false v' n w
          go (inl w) = absurd (at (either (eqb v' (lo t b))))
            where
              l : v' < n
              l = ltb-true v' n w

              at : Either (eqb v' (lo t b)) → ⊥
              at (inl x) =
                  let b_v' = joins_touch t b v' (hi t b)
                  (inl (sym (eqb-true v' (lo t b) x), refl)) in
                  eqb-false on b on-b (sym (leaf-only v' on vt l q.e_lt on_v' b b_lt b_v'))
              at (inr x) =
                  let lo_lt = ((valid-table vt).ends b b_lt).0 in
                  let all = leaf_behind vt l q.e_lt on_v' h_P' in
                  true≢false (sym (all (lo t b) lo_lt (eqb-false v' (lo t b) x)) ∙ P'_out)

      ahead : Ahead n t b v' on P'
      ahead = record {
        hang = h_P';
        e_lt = q.e_lt;
        e_v = on_v';
        inner = v'_inner;
        out = P'_out;
        be = λ d. eqb-false on b on-b (sym d);
      }

      grows : size (nodes n) P < size (nodes n) P'
      unfolding P'
      grows =
          size_less (nodes n) P P' v (λ j l. behind_sub q A.hang h_H j) q.p_lt A.hang.out
          (behind_v q A.hang h_H)

      next_step : {gs : List ℕ} → Found n t b v' on gs → Found n t b v e (beyond n t v off ∷ gs)
      next_step {gs} w =
          let rest = subst (λ (x : ℕ). Walk n t b w.u w.z v' on x w.xs gs) far-far
          w.way in
          record {
            u = w.u;
            z = w.z;
            xs = on ∷ w.xs;
            b_row = w.b_row;
            way = next (λ d. A.be (sym d)) off-b q h_H (beyond-taxa n t v off) rest;
          }

  -- a walk of k nodes is long enough where more than `nodes n` less k nodes
  -- lie behind
  pub walk_is : (k v e P : ℕ)
      → Ahead n t b v e P
      → nodes n < k + size (nodes n) P
      → Found n t b v e (walk n t b k v e)
  unfolding leads
  walk_is zero v e P A fuel = absurd (omega (arith, size_le (nodes n) P))
  walk_is (suc k) v e P A fuel =
      go (λ v' e' P' A' fuel'. walk_is k v' e' P' A' fuel') (leads n t b v f) refl
    where
      pr : (f g : ℕ) × Pair n t e v f g
      pr = pair e v vt A.e_lt A.e_v A.inner (touch-node e vt A.e_lt v A.e_v)

      f : ℕ
      f = pr.0

      g : ℕ
      g = pr.1

      K : Pair n t e v f g
      K = pr.2

      fk : Fork n t v e f g (far t e v) (far t f v) (far t g v)
      fk = fork_of vt A.e_lt A.e_v A.inner K

      on_f : Fork n t v f e g (far t f v) (far t e v) (far t g v)
      on_f =
          fork_turn (joins_differ f vt K.f_lt v (far t f v) fk.x_row) (fork_swap fk)

      on_g : Fork n t v g e f (far t g v) (far t e v) (far t f v)
      on_g = fork_turn (joins_differ g vt K.g_lt v (far t g v) fk.f_row) fk

      B : ℕ
      B = part n t f (far t f v)

      h_B : Hangs n t f v B
      h_B = hangs f v (far t f v) vt K.f_lt fk.x_row

      G : ℕ
      G = part n t g (far t g v)

      h_G : Hangs n t g v G
      h_G = hangs g v (far t g v) vt K.g_lt fk.f_row

      -- b's smaller end beyond f: b is not g, nor beyond g
      g_not_b : has B (lo t b) ≡ true → g ≡ b → ⊥
      g_not_b w d =
          let across = h_B.parts.closed g K.g_lt (λ x. fk.xf (sym x)) in
          let out = out-lo t g v (far t g v) B fk.f_row h_B.out across in
          true≢false (sym w ∙ ap (λ (x : ℕ). has B (lo t x)) (sym d) ∙ out)

      b_not_g : has B (lo t b) ≡ true → has G (lo t b) ≡ false
      b_not_g w = no_common fk h_B h_G vt (lo t b) ((valid-table vt).ends b b_lt).0 w

      Deep : Type 0
      Deep =
          (v' e' P' : ℕ) → Ahead n t b v' e' P' → nodes n < k + size (nodes n) P'
          → Found n t b v' e' (walk n t b k v' e')

      to : (gs : List ℕ) → walk n t b (suc k) v e ≡ gs → Found n t b v e gs
          → Found n t b v e (walk n t b (suc k) v e)
      to gs is w = subst (λ (x : List ℕ). Found n t b v e x) (sym is) w

      by_f : Deep
          → leads n t b v f ≡ true
          → Either (eqb f b)
          → Found n t b v e (walk n t b (suc k) v e)
      by_f ih hl (inl w) =
          to _ (last-is n t b e v f g K.list k true hl w)
          (last_step A on_f (λ d. fk.xf (eqb-true f b w ∙ sym d)) w)
      by_f ih hl (inr w) =
          let lead : has B (lo t b) ≡ true = sym (ap (λ (x : Bool). x || has B (lo t b)) w) ∙ hl in
          let gb = g_not_b lead in
          let out = b_not_g lead in
          to _ (next-is n t b e v f g K.list k true hl w) (next_step A on_f gb w out
          (ih (far t f v) f (P' A on_f gb w out) (ahead A on_f gb w out)
          (omega (arith, grows A on_f gb w out))))

      by_g : Deep
          → leads n t b v f ≡ false
          → Either (eqb g b)
          → Found n t b v e (walk n t b (suc k) v e)
      by_g ih hl (inl w) =
          to _ (last-is n t b e v f g K.list k false hl w)
          (last_step A on_g (λ d. fk.xf (d ∙ sym (eqb-true g b w))) w)
      by_g ih hl (inr w) =
          let no = or_neither (eqb f b) (has B (lo t b)) hl in
          let fb : f ≡ b → ⊥ = eqb-false f b no.0 in
          to _ (next-is n t b e v f g K.list k false hl w) (next_step A on_g fb w no.1
          (ih (far t g v) g (P' A on_g fb w no.1) (ahead A on_g fb w no.1)
          (omega (arith, grows A on_g fb w no.1))))

      go : Deep → (l : Bool) → leads n t b v f ≡ l → Found n t b v e (walk n t b (suc k) v e)
      go ih true hl = by_f ih hl (either (eqb f b))
      go ih false hl = by_g ih hl (either (eqb g b))

  -- from the whole of one end's part: as many nodes as there are suffice
  pub walk_from : {v e : ℕ}
      → Ahead n t b v e (part n t e (far t e v))
      → Found n t b v e (walk n t b (nodes n) v e)
  walk_from {v} {e} A =
      let o = far t e v in
      let P = part n t e o in
      let o_lt = (joins_nodes e vt A.e_lt v o (touch_joins t e v A.e_v)).1 in
      walk_is (nodes n) v e P A (omega (arith, size_pos (nodes n) P o o_lt (part_start n t e o)))
