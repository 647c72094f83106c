-- A node p moved from between r and s to between u and z, and what each row
-- parts afterwards. Assumes nothing.
use mathlib.Core.Path.{◌≡◌, refl, sym, ap, ap₂, ◌∙◌}
use mathlib.Core.Logic.{inl, inr}
use mathlib.Core.Bool.{Bool, true, false, not, ◌||◌, or-true, not-not}
use mathlib.Core.List.{List}
use Prim.Native.Nat.{ℕ, ◌<◌}
use lib.Dec.{eqb}
use lib.Bits.{bit_xor}
use borrow.Author.Tests.{eqb-true, eqb-false, eq-eqb, ne_eqb}
use Rattle.taxa.specs.Sets.{has, add}
use Rattle.taxa.proofs.Bools.{Either, either, ◌⊕◌, not_swap}
use Rattle.taxa.proofs.Sets.{has-add, has_xor}
use Rattle.tree.specs.Tree.{lo, hi, rows, part, Valid}
use Rattle.tree.proofs.Rounds.{Flat}
use Rattle.tree.proofs.Joins.{Joins, join_flat, flat_join, join_apart, apart_join, joins_differ}
use Rattle.tree.proofs.Colourings.{Parts, Hangs}
use Rattle.tree.proofs.Forks.{Fork}
use Rattle.moves.proofs.Rows.Ends.{SameRow}

-- The rows and the nodes of a graft. Before, node p has row w to r and row h to
-- s, and row b is u-z. After, row F is r-s, row N is u-p and row X is p-z.
pub record Site : Type 0 where
  pub w : ℕ
  pub h : ℕ
  pub r : ℕ
  pub s : ℕ
  pub u : ℕ
  pub z : ℕ
  pub F : ℕ
  pub N : ℕ
  pub X : ℕ

-- row j is none of the rows w, h and b
pub record Untouched (at : Site) (b j : ℕ) : Type 0 where
  pub not_w : j ≡ at.w → ⊥
  pub not_h : j ≡ at.h → ⊥
  pub not_b : j ≡ b → ⊥

-- The end p of row a, whose other end is o, is put onto row b. What hangs
-- beyond a, the part that is moved, does not hold b.
pub record Graft (n : ℕ) (t t' : List ℕ) (p o a b : ℕ) (at : Site) : Type 0 where
  pub valid : Valid n t
  pub valid' : Valid n t'
  pub fork : Fork n t p a at.h at.w o at.s at.r
  pub b_row : Joins t b at.u at.z
  pub b_lt : b < rows n
  pub ba : b ≡ a → ⊥
  pub bw : b ≡ at.w → ⊥
  pub bh : b ≡ at.h → ⊥
  pub F_row : Joins t' at.F at.r at.s
  pub N_row : Joins t' at.N at.u p
  pub X_row : Joins t' at.X p at.z
  pub F_lt : at.F < rows n
  pub N_lt : at.N < rows n
  pub X_lt : at.X < rows n
  pub keep : (j : ℕ) → (j ≡ at.F → ⊥) → (j ≡ at.N → ⊥) → (j ≡ at.X → ⊥) → Untouched at b j
  pub same : (j : ℕ) → Untouched at b j → SameRow t t' j
  pub h_M : Hangs n t a p (part n t a o)
  pub M_u : has (part n t a o) at.u ≡ false

xor_true : (x : Bool) → (x ⊕ true) ≡ not x
xor_true true = refl
xor_true false = refl

xor_false : (x : Bool) → (x ⊕ false) ≡ x
xor_false true = refl
xor_false false = refl

-- the set S with the members of M and p exchanged: those in S leave it, the
-- others come into it
unfoldable pub crossed : ℕ → ℕ → ℕ → ℕ
crossed M p S = bit_xor S (add M p)

pub has_crossed : (M p S i : ℕ) → has (crossed M p S) i ≡ (has S i ⊕ (has M i || eqb p i))
unfolding crossed
has_crossed M p S i = has_xor S (add M p) i ∙ ap (λ (x : Bool). has S i ⊕ x) (has-add M p i)

module _ {n : ℕ} {t t' : List ℕ} {p o a b : ℕ} {site : Site} (k : Graft n t t' p o a b site) where
  open site use {w, h, r, s, u, z, F, N, X}

  -- the part that is moved
  abbrev M : ℕ
  M = part n t a o

  pub pr : p ≡ r → ⊥
  pr = joins_differ w k.valid k.fork.f_lt p r k.fork.f_row

  pub ps : p ≡ s → ⊥
  ps = joins_differ h k.valid k.fork.x_lt p s k.fork.x_row

  -- ---- which colourings are flat after, row e left out
  flat_after : (e : ℕ) (c : ℕ → Bool)
      → ((F ≡ e → ⊥) → c r ≡ c s)
      → ((N ≡ e → ⊥) → c u ≡ c p)
      → ((X ≡ e → ⊥) → c p ≡ c z)
      → ((j : ℕ) → j < rows n → (j ≡ e → ⊥) → Untouched site b j → c (lo t j) ≡ c (hi t j))
      → Flat t' e (rows n) c
  flat_after e c cF cN cX rest j l d = go (either (eqb j F)) (either (eqb j N)) (either (eqb j X))
    where
      go : Either (eqb j F) → Either (eqb j N) → Either (eqb j X) → c (lo t' j) ≡ c (hi t' j)
      go (inl x) y v =
          let q = eqb-true j F x in
          rw q (join_flat t' F r s c k.F_row (cF (λ i. d (q ∙ i))))
      go (inr x) (inl y) v =
          let q = eqb-true j N y in
          rw q (join_flat t' N u p c k.N_row (cN (λ i. d (q ∙ i))))
      go (inr x) (inr y) (inl v) =
          let q = eqb-true j X v in
          rw q (join_flat t' X p z c k.X_row (cX (λ i. d (q ∙ i))))
      go (inr x) (inr y) (inr v) =
          let q = k.keep j (eqb-false j F x) (eqb-false j N y) (eqb-false j X v) in
          let m = k.same j q in
          ap c m.0 ∙ rest j l d q ∙ sym (ap c m.1)

  -- ---- flatness before, across the rows with names
  at_w : (c : ℕ → Bool) → c (lo t w) ≡ c (hi t w) → c p ≡ c r
  at_w c q = flat_join t w p r c k.fork.f_row q

  at_h : (c : ℕ → Bool) → c (lo t h) ≡ c (hi t h) → c p ≡ c s
  at_h c q = flat_join t h p s c k.fork.x_row q

  at_o : (c : ℕ → Bool) → c (lo t a) ≡ c (hi t a) → c p ≡ c o
  at_o c q = flat_join t a p o c k.fork.e_row q

  at_b : (c : ℕ → Bool) → c (lo t b) ≡ c (hi t b) → c u ≡ c z
  at_b c q = flat_join t b u z c k.b_row q

  -- a row that leaves p and b together keeps its set
  pub keep_parts : {e S : ℕ}
      → Untouched site b e
      → Parts n t e S
      → has S p ≡ has S u
      → Parts n t' e S
  keep_parts {e} {S} un q pu =
      let c = has S in
      let m = k.same e un in
      let p_r = at_w c (q.closed w k.fork.f_lt (λ i. un.not_w (sym i))) in
      let p_s = at_h c (q.closed h k.fork.x_lt (λ i. un.not_h (sym i))) in
      let u_z = at_b c (q.closed b k.b_lt (λ i. un.not_b (sym i))) in
      record {
        apart = ap c m.0 ∙ q.apart ∙ sym (ap (λ (i : ℕ). not (c i)) m.1);
        closed =
            flat_after e c (λ i. sym p_r ∙ p_s) (λ i. sym pu) (λ i. pu ∙ u_z)
            (λ j l d x. q.closed j l d);
      }

  -- row a is as before, and parts what it parted
  a_untouched : Untouched site b a
  a_untouched = record { not_w = k.fork.ef; not_h = k.fork.ex; not_b = λ d. k.ba (sym d) }

  pub a_same : SameRow t t' a
  a_same = k.same a a_untouched

  pub a_parts : Parts n t' a M
  a_parts = keep_parts a_untouched k.h_M.parts (k.h_M.out ∙ sym k.M_u)

  -- a set of h that leaves p and b together is what F parts
  pub hang_parts : {S : ℕ} → Parts n t h S → has S p ≡ has S u → Parts n t' F S
  hang_parts {S} q pu =
      let c = has S in
      let p_r = at_w c (q.closed w k.fork.f_lt (λ i. k.fork.xf (sym i))) in
      let u_z = at_b c (q.closed b k.b_lt k.bh) in
      let p_s = apart_join t h p s c k.fork.x_row q.apart in
      record {
        apart = join_apart t' F r s c k.F_row (sym p_r ∙ p_s);
        closed = flat_after F c (λ i. absurd (i refl)) (λ i. sym pu) (λ i. pu ∙ u_z)
            (λ j l d un. q.closed j l un.not_h);
      }

  -- b's set, which parts p from z, is what X parts
  pub far-parts : {S : ℕ} → Parts n t b S → has S p ≡ has S u → Parts n t' X S
  far-parts {S} q pu =
      let c = has S in
      let p_r = at_w c (q.closed w k.fork.f_lt (λ i. k.bw (sym i))) in
      let p_s = at_h c (q.closed h k.fork.x_lt (λ i. k.bh (sym i))) in
      record {
        apart = join_apart t' X p z c k.X_row (pu ∙ apart_join t b u z c k.b_row q.apart);
        closed = flat_after X c (λ i. sym p_r ∙ p_s) (λ i. sym pu) (λ i. absurd (i refl))
            (λ j l d un. q.closed j l un.not_b);
      }

  -- ---- M and p exchanged: at a node of M and at p the set turns over,
  -- elsewhere it stays
  turned : (S i : ℕ) → (has M i || eqb p i) ≡ true → has (crossed M p S) i ≡ not (has S i)
  turned S i q = has_crossed M p S i ∙ ap (λ (x : Bool). has S i ⊕ x) q ∙ xor_true (has S i)

  left : (S i : ℕ) → has M i ≡ false → (p ≡ i → ⊥) → has (crossed M p S) i ≡ has S i
  left S i q d =
      has_crossed M p S i
      ∙ ap₂ (λ (x y : Bool). has S i ⊕ (x || y)) q (ne_eqb p i d)
      ∙ xor_false (has S i)

  -- of the named nodes M has o alone
  pub M_o : has M o ≡ true
  M_o =
      not_swap (has M p) (has M o)
      (apart_join t a p o (has M) k.fork.e_row k.h_M.parts.apart)
      ∙ ap not k.h_M.out

  pub M_r : has M r ≡ false
  M_r =
      sym (at_w (has M) (k.h_M.parts.closed w k.fork.f_lt (λ i. k.fork.ef (sym i))))
      ∙ k.h_M.out

  pub M_s : has M s ≡ false
  M_s =
      sym (at_h (has M) (k.h_M.parts.closed h k.fork.x_lt (λ i. k.fork.ex (sym i))))
      ∙ k.h_M.out

  pub M_z : has M z ≡ false
  M_z = sym (at_b (has M) (k.h_M.parts.closed b k.b_lt k.ba)) ∙ k.M_u

  -- b is not at p
  pub only_b : (p ≡ u → ⊥) × (p ≡ z → ⊥)
  only_b = go k.b_row
    where
      q : (p ≡ lo t b → ⊥) × (p ≡ hi t b → ⊥)
      q = k.fork.only b k.b_lt k.ba k.bh k.bw

      go : Joins t b u z → (p ≡ u → ⊥) × (p ≡ z → ⊥)
      go (inl j) = (λ i. q.0 (i ∙ sym j.0), λ i. q.1 (i ∙ sym j.1))
      go (inr j) = (λ i. q.1 (i ∙ sym j.1), λ i. q.0 (i ∙ sym j.0))

  X_p : (S : ℕ) → has (crossed M p S) p ≡ not (has S p)
  X_p S = turned S p (ap (λ (x : Bool). has M p || x) (eq-eqb p p refl) ∙ or-true (has M p))

  X_o : (S : ℕ) → has (crossed M p S) o ≡ not (has S o)
  X_o S = turned S o (ap (λ (x : Bool). x || eqb p o) M_o)

  -- a row that touches p at no end, and is not a
  pub record Aside (j : ℕ) : Type 0 where
    pub lt : j < rows n
    pub not_a : j ≡ a → ⊥
    pub not_w : j ≡ w → ⊥
    pub not_h : j ≡ h → ⊥

  -- its ends are both with M and p, or both not
  aside_flat : {j : ℕ}
      → Aside j
      → (has M (lo t j) || eqb p (lo t j)) ≡ (has M (hi t j) || eqb p (hi t j))
  aside_flat {j} J =
      let d = k.fork.only j J.lt J.not_a J.not_h J.not_w in
      ap₂ ◌||◌ (k.h_M.parts.closed j J.lt J.not_a)
      (ne_eqb p (lo t j) d.0 ∙ sym (ne_eqb p (hi t j) d.1))

  -- so there the set with M and p exchanged is flat where S is, and parts the
  -- ends where S does
  crossed_row : (S j : ℕ) → Aside j → has S (lo t j) ≡ has S (hi t j)
      → has (crossed M p S) (lo t j) ≡ has (crossed M p S) (hi t j)
  crossed_row S j J q =
      has_crossed M p S (lo t j) ∙ ap₂ ◌⊕◌ q (aside_flat J) ∙ sym (has_crossed M p S (hi t j))

  crossed_apart : (S j : ℕ) → Aside j → has S (lo t j) ≡ not (has S (hi t j))
      → has (crossed M p S) (lo t j) ≡ not (has (crossed M p S) (hi t j))
  crossed_apart S j J q =
      has_crossed M p S (lo t j)
      ∙ ap₂ ◌⊕◌ q (aside_flat J)
      ∙ pull (has S (hi t j)) (has M (hi t j) || eqb p (hi t j))
      ∙ sym (ap not (has_crossed M p S (hi t j)))
    where
      pull : (x y : Bool) → (not x ⊕ y) ≡ not (x ⊕ y)
      pull true y = sym (not-not y)
      pull false y = refl

  -- where S parts p from z, and from u unless row N is left out, S with M and
  -- p exchanged is flat
  crossed_flat : (e e' S : ℕ) → (e ≡ a → ⊥) → (e ≡ w → ⊥) → (e ≡ h → ⊥)
      → Parts n t e S
      → has S z ≡ not (has S p)
      → ((N ≡ e' → ⊥) → has S u ≡ not (has S p))
      → ((j : ℕ) → (j ≡ e' → ⊥) → (j ≡ b → ⊥) → j ≡ e → ⊥)
      → Flat t' e' (rows n) (has (crossed M p S))
  crossed_flat e e' S ea ew eh q zp up ne =
      let c = has S in
      let p_r = at_w c (q.closed w k.fork.f_lt (λ i. ew (sym i))) in
      let p_s = at_h c (q.closed h k.fork.x_lt (λ i. eh (sym i))) in
      flat_after e' (has (crossed M p S))
      (λ i. left S r M_r pr ∙ sym p_r ∙ p_s ∙ sym (left S s M_s ps))
      (λ i. left S u k.M_u only_b.0 ∙ up i ∙ sym (X_p S))
      (λ i. X_p S ∙ sym zp ∙ sym (left S z M_z only_b.1))
      other
    where
      other : (j : ℕ) → j < rows n → (j ≡ e' → ⊥) → Untouched site b j
          → has (crossed M p S) (lo t j) ≡ has (crossed M p S) (hi t j)
      other j l d un = go (either (eqb j a))
        where
          go : Either (eqb j a) → has (crossed M p S) (lo t j) ≡ has (crossed M p S) (hi t j)
          go (inl v) =
              let p_o = at_o (has S) (q.closed a k.fork.e_lt (λ i. ea (sym i))) in
              rw (eqb-true j a v) (join_flat t a p o (has (crossed M p S)) k.fork.e_row
              (X_p S ∙ ap not p_o ∙ sym (X_o S)))
          go (inr v) =
              crossed_row S j
              (record { lt = l; not_a = eqb-false j a v; not_w = un.not_w; not_h = un.not_h })
              (q.closed j l (ne j d un.not_b))

  -- a row that parts p from b exchanges M and p
  pub cross_parts : {e S : ℕ} → Aside e → (e ≡ b → ⊥)
      → Parts n t e S → has S z ≡ not (has S p) → Parts n t' e (crossed M p S)
  cross_parts {e} {S} E eb q zp =
      let c = has (crossed M p S) in
      let m = k.same e (record { not_w = E.not_w; not_h = E.not_h; not_b = eb }) in
      let u_z = at_b (has S) (q.closed b k.b_lt (λ i. eb (sym i))) in
      record {
        apart =
            ap c m.0 ∙ crossed_apart S e E q.apart ∙ sym (ap (λ (i : ℕ). not (c i)) m.1);
        closed =
            crossed_flat e e S E.not_a E.not_w E.not_h q zp (λ i. u_z ∙ zp) (λ j d jb. d);
      }

  -- b's set with M and p exchanged is what N parts
  pub near_parts : {S : ℕ} → Parts n t b S → has S p ≡ has S u → Parts n t' N (crossed M p S)
  near_parts {S} q pu =
      let u_z = apart_join t b u z (has S) k.b_row q.apart in
      let zp : has S z ≡ not (has S p) = not_swap (has S u) (has S z) u_z ∙ sym (ap not pu) in
      record {
        apart = join_apart t' N u p (has (crossed M p S)) k.N_row
            (left S u k.M_u only_b.0 ∙ sym pu ∙ sym (not-not (has S p))
            ∙ sym (ap not (X_p S)));
        closed =
            crossed_flat b N S k.ba k.bw k.bh q zp (λ i. absurd (i refl)) (λ j d jb. jb);
      }
