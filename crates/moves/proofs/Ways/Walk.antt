-- The way from a node to row b, node by node, the groups that hang from it,
-- and the sets that its rows part. Assumes nothing.
use mathlib.Core.Path.{◌≡◌, refl, sym, ap, ap₂, ◌∙◌, subst}
use mathlib.Core.Logic.{◌⊎◌, inl, inr}
use mathlib.Core.Bool.{Bool, true, false, not, ◌||◌, true≢false, or-true, or-false, or_assoc}
use mathlib.Core.List.{List, [], ◌∷◌, ◌++◌, head-eq_of_cons-eq, tail-eq_of_cons-eq, cons-ne-nil}
use Prim.Native.Nat.{ℕ, ◌<◌}
use native.Mathlib.Omega.{arith}
use lib.Dec.{eqb}
use borrow.Author.Tests.{eqb-false, eq-eqb}
use Rattle.taxa.specs.Sets.{has, in_some}
use Rattle.taxa.proofs.Bools.{Either, either, ◌⊕◌, xor_at_true}
use Rattle.tree.specs.Tree.{lo, hi, rows, nodes, Valid}
use Rattle.tree.specs.Lists.{mem}
use Rattle.tree.proofs.Joins.{Joins, flat_join, apart_join, joins_nodes}
use Rattle.tree.proofs.Colourings.{Hangs, parts_unique, valid-table}
use Rattle.tree.proofs.Forks.{Fork, joined, has-joined, joined-parts}
use Rattle.tree.proofs.Forks.{joined-out, joined_in, joined_at, at_a}
use Rattle.moves.proofs.Rows.Ends.{Apart, hang_apart, both_in}
use Rattle.moves.proofs.Rows.Splits.{Row, row_eq}

-- a set and its taxa
abbrev pub Taxa : ℕ → ℕ → ℕ → Type 0
Taxa n g H = (i : ℕ) → i < n → has g i ≡ has H i

-- at node v, come by row e from q: along the rows xs to row b = u-z; gs hang
-- from the nodes on the way, and last is what lies beyond b
pub data Walk (n : ℕ) (t : List ℕ) (b u z : ℕ) : ℕ → ℕ → ℕ → List ℕ → List ℕ → Type 0 where
  done : {v e q g D : ℕ}
      → v ≡ z
      → e ≡ b
      → q ≡ u
      → Hangs n t b u D
      → Taxa n g D
      → Walk n t b u z v e q [] (g ∷ [])
  next : {v e q h i x v' g H : ℕ} {xs gs : List ℕ}
      → (e ≡ b → ⊥)
      → (h ≡ b → ⊥)
      → Fork n t v x e h v' q i
      → Hangs n t h v H
      → Taxa n g H
      → Walk n t b u z v' x v xs gs → Walk n t b u z v e q (x ∷ xs) (g ∷ gs)

-- the three rows of a node, named from another of them
pub fork_turn : {n : ℕ} {t : List ℕ} {p e x f q a c : ℕ}
    → (p ≡ c → ⊥)
    → Fork n t p e x f q a c
    → Fork n t p f e x c q a
fork_turn pc k = record {
  e_row = k.f_row;
  x_row = k.e_row;
  f_row = k.x_row;
  e_lt = k.f_lt;
  x_lt = k.e_lt;
  f_lt = k.x_lt;
  ex = λ w. k.ef (sym w);
  ef = λ w. k.xf (sym w);
  xf = k.ex;
  pq = pc;
  inner = k.inner;
  p_lt = k.p_lt;
  only = λ r h a b c. k.only r h b c a;
}

-- row j lies inside P, or is e
abbrev pub Inside : List ℕ → ℕ → ℕ → ℕ → Type 0
Inside t P e j = (j ≡ e) ⊎ ((has P (lo t j) ≡ true) × (has P (hi t j) ≡ true))

-- ---- one step: P lies behind e, H hangs from v, and both with v lie behind x
module _ {n : ℕ} {t : List ℕ} {v x e h v' q i P H : ℕ} (k : Fork n t v x e h v' q i)
    (h_P : Hangs n t e v P) (h_H : Hangs n t h v H) where
  -- what lies behind x: P, H and v, and no taxon besides
  pub behind : Hangs n t x v' (joined P H v)
  behind = record { parts = joined-parts k h_P h_H; out = joined-out k h_P h_H }

  pub behind_v : has (joined P H v) v ≡ true
  behind_v = joined_in k h_P h_H

  pub behind_sub : (j : ℕ) → has P j ≡ true → has (joined P H v) j ≡ true
  behind_sub j w = has-joined P H v j ∙ ap (λ (b : Bool). b || has H j || eqb v j) w

  pub behind_H : (j : ℕ) → has H j ≡ true → has (joined P H v) j ≡ true
  behind_H j w =
      has-joined P H v j
      ∙ ap (λ (b : Bool). has P j || b || eqb v j) w
      ∙ ap (λ (b : Bool). b || eqb v j) (or-true (has P j))

  pub behind_taxa : (j : ℕ) → j < n → has (joined P H v) j ≡ (has P j || has H j)
  behind_taxa j l = joined_at k h_P h_H j l

  -- no node lies both behind e and beyond h
  pub no_common : Valid n t → Apart n P H
  no_common vt =
      hang_apart (valid-table vt) k.xf
      (record { lt = k.x_lt; row = k.x_row; parts = h_P.parts })
      (record { lt = k.f_lt; row = k.f_row; parts = h_H.parts })
      h_H.out h_P.out

  -- a row inside P stays inside, and is none of the rows at v ahead
  pub inside_step : (j : ℕ) → Inside t P e j → Inside t (joined P H v) x j
  inside_step j (inr w) = inr (behind_sub (lo t j) w.0, behind_sub (hi t j) w.1)
  inside_step j (inl w) =
      let S = joined P H v in
      let q_in = behind_sub q (at_a k h_P h_H) in
      let e_in = both_in t e v q S k.x_row behind_v q_in in
      inr (subst (λ (r : ℕ). (has S (lo t r) ≡ true) × (has S (hi t r) ≡ true)) (sym w) e_in)

  -- a row at v is not inside P
  at_v : (r y j : ℕ) → Joins t r v y → (has P (lo t j) ≡ true) × (has P (hi t j) ≡ true) → r ≡ j → ⊥
  at_v r y j (inl l) w d =
      let r_lo = ap (λ (k : ℕ). has P (lo t k)) (sym d) in
      true≢false (sym w.0 ∙ r_lo ∙ ap (has P) l.0 ∙ h_P.out)
  at_v r y j (inr l) w d =
      let r_hi = ap (λ (k : ℕ). has P (hi t k)) (sym d) in
      true≢false (sym w.1 ∙ r_hi ∙ ap (has P) l.1 ∙ h_P.out)

  pub inside_x : (j : ℕ) → Inside t P e j → x ≡ j → ⊥
  inside_x j (inl w) d = k.ex (d ∙ w)
  inside_x j (inr w) d = at_v x v' j k.e_row w d

  pub inside_h : (j : ℕ) → Inside t P e j → h ≡ j → ⊥
  inside_h j (inl w) d = k.xf (sym (d ∙ w))
  inside_h j (inr w) d = at_v h i j k.f_row w d

-- ---- lists
pub nil_snoc : (ls bs : List ℕ) (g : ℕ) → [] ≡ ls ++ (g ∷ bs) → ⊥
nil_snoc [] bs g e = cons-ne-nil g bs (sym e)
nil_snoc (l ∷ ls) bs g e = cons-ne-nil l (ls ++ (g ∷ bs)) (sym e)

-- come to v by row e: P lies behind
pub record Base (n : ℕ) (t : List ℕ) (v e P : ℕ) : Type 0 where
  pub hang : Hangs n t e v P
  pub e_lt : e < rows n

pub base_step : {n : ℕ} {t : List ℕ} {v x e h v' q i P H : ℕ}
    → Fork n t v x e h v' q i
    → Hangs n t h v H
    → Base n t v e P
    → Base n t v' x (joined P H v)
base_step f h_H I = record { hang = behind f I.hang h_H; e_lt = f.e_lt }

pub false_sub : (x y : Bool) → (x ≡ true → y ≡ true) → y ≡ false → x ≡ false
false_sub true y f e = absurd (true≢false (sym (f refl) ∙ e))
false_sub false y f e = refl

module _ {n : ℕ} {t : List ℕ} {b u z : ℕ} where
  -- z is never behind
  pub out_z : {v e q : ℕ} {xs gs : List ℕ}
      → Walk n t b u z v e q xs gs
      → (P : ℕ) → Base n t v e P
      → has P z ≡ false
  out_z (done vz eb qu hD tx) P I = ap (has P) (sym vz) ∙ I.hang.out
  out_z (next {v} {H = H} eb hb f h_H tx rest) P I =
      false_sub (has P z) (has (joined P H v) z) (behind_sub f I.hang h_H z)
      (out_z rest (joined P H v) (base_step f h_H I))

  -- a colouring that is flat on the way has one colour at its two ends
  pub along : {v e q : ℕ} {xs gs : List ℕ} → Walk n t b u z v e q xs gs → (c : ℕ → Bool)
      → ((x : ℕ) → mem x xs ≡ true → x < rows n → c (lo t x) ≡ c (hi t x)) → c v ≡ c z
  unfolding mem
  along (done vz eb qu hD tx) c flat = ap c vz
  along (next {v} {x = x} {v'} {xs = xs} eb hb f h_H tx rest) c flat =
      let on = ap (λ (y : Bool). y || mem x xs) (eq-eqb x x refl) in
      flat_join t x v v' c f.e_row (flat x on f.e_lt)
      ∙ along rest c (λ y m l. flat y (ap (λ (y' : Bool). eqb y x || y') m ∙ or-true (eqb y x)) l)

  -- b is on the way, where the way does not start behind it
  pub b_on_way : {v e q : ℕ} {xs gs : List ℕ}
      → Walk n t b u z v e q xs gs
      → (e ≡ b → ⊥)
      → mem b xs ≡ true
  unfolding mem
  b_on_way (done vz eb qu hD tx) d = absurd (d eb)
  b_on_way (next {x = x} {xs = xs} eb hb f h_H tx rest) d =
      go (λ d'. b_on_way rest d') (either (eqb b x))
    where
      go : ((x ≡ b → ⊥) → mem b xs ≡ true) → Either (eqb b x) → (eqb b x || mem b xs) ≡ true
      go ih (inl q) = ap (λ (y : Bool). y || mem b xs) q
      go ih (inr q) =
          ap (λ (y : Bool). eqb b x || y) (ih (λ y. eqb-false b x q (sym y))) ∙ or-true (eqb b x)

-- ---- any way to a row b = u-z of a table
pub at_b : {n : ℕ} {t : List ℕ} {b z v e P : ℕ} → v ≡ z → e ≡ b → Hangs n t e v P → Hangs n t b z P
at_b {n} {t} {b} {z} {v} {e} {P} vz eb h_P =
    subst (λ (y : ℕ). Hangs n t b y P) vz (subst (λ (y : ℕ). Hangs n t y v P) eb h_P)

module _ {n : ℕ} {t : List ℕ} {b u z : ℕ} (vt : Valid n t) (jb : Joins t b u z)
    (lb : b < rows n) where
  -- come to z, the set behind holds u
  pub u_behind : {P : ℕ} → Hangs n t b z P → has P u ≡ true
  u_behind {P} h_P = apart_join t b u z (has P) jb h_P.parts.apart ∙ ap not h_P.out

  -- what lies beyond b is what is not behind
  pub beyond-is : {P D : ℕ}
      → Hangs n t b z P
      → Hangs n t b u D
      → (i : ℕ) → i < nodes n
      → has D i ≡ not (has P i)
  beyond-is {P} h_P hD i l =
      let w = parts_unique vt.connected vt.big hD.parts h_P.parts in
      let at_u = w.1 u (joins_nodes b vt lb u z jb).0
      ∙ ap (λ (x : Bool). w.0 ⊕ x) (u_behind h_P) in
      let turned = xor_at_true w.0 false (sym (sym hD.out ∙ at_u)) in
      w.1 i l ∙ ap (λ (x : Bool). x ⊕ has P i) turned

  node : (i : ℕ) → i < n → i < nodes n
  node i l = omega (arith, vt.big)

  -- ---- the groups are what is not behind, each taxon in one
  pub exact : {v e q : ℕ} {xs gs : List ℕ}
      → Walk n t b u z v e q xs gs
      → (P : ℕ) → Hangs n t e v P
      → (i : ℕ) → i < n
      → in_some gs i ≡ not (has P i)
  unfolding in_some
  exact (done {g = g} {D} vz eb qu hD tx) P I i l =
      let h_P = at_b vz eb I in
      or-false (has g i) ∙ tx i l ∙ beyond-is h_P hD i (node i l)
  exact (next {v} {H = H} eb hb f h_H tx rest) P I i l =
      let after = exact rest (joined P H v) (behind f I h_H) i l ∙ ap not (behind_taxa f I h_H i l) in
      ap₂ ◌||◌ (tx i l) after
      ∙ bools (has P i) (has H i) (no_common f I h_H vt i (node i l))
    where
      bools : (p q : Bool) → (p ≡ true → q ≡ false) → (q || not (p || q)) ≡ not p
      bools true q c = ap (λ (y : Bool). y || false) (c refl)
      bools false true c = refl
      bools false false c = refl

  -- the last groups are what is neither behind nor in the first
  pub exact_cut : (ls : List ℕ) {v e q : ℕ} {xs gs : List ℕ}
      → Walk n t b u z v e q xs gs
      → (bs : List ℕ) → gs ≡ ls ++ bs
      → (P : ℕ) → Base n t v e P
      → (i : ℕ) → i < n → in_some bs i ≡ not (has P i || in_some ls i)
  unfolding in_some
  exact_cut [] W bs q P I i l =
      ap (λ (l : List ℕ). in_some l i) (sym q)
      ∙ exact W P I.hang i l
      ∙ ap not (sym (or-false (has P i)))
  exact_cut (c ∷ ls) (done {D = D} vz eb qu hD tx) bs eq P I i l =
      let h_P = at_b vz eb I.hang in
      let c_is = sym (ap (λ (y : ℕ). has y i) (head-eq_of_cons-eq eq)) ∙ tx i l in
      empty (tail-eq_of_cons-eq eq) (c_is ∙ beyond-is h_P hD i (node i l))
    where
      empty : [] ≡ ls ++ bs → has c i ≡ not (has P i)
          → in_some bs i ≡ not (has P i || (has c i || in_some ls i))
      empty nil hc = all ls bs nil
        where
          fin : (p q x : Bool) → q ≡ not p → false ≡ not (p || (q || x))
          fin true q x e = refl
          fin false q x e = sym (ap (λ (y : Bool). not (y || x)) e)

          all : (ls bs : List ℕ)
              → [] ≡ ls ++ bs
              → in_some bs i ≡ not (has P i || (has c i || in_some ls i))
          all [] [] n = fin (has P i) (has c i) false hc
          all [] (y ∷ ys) n = absurd (cons-ne-nil y ys (sym n))
          all (y ∷ ys) bs n = absurd (cons-ne-nil y (ys ++ bs) (sym n))
  exact_cut (c ∷ ls) (next {v} {H = H} eb hb f h_H tx rest) bs eq P I i l =
      let c_is = sym (tx i l) ∙ ap (λ (y : ℕ). has y i) (head-eq_of_cons-eq eq) in
      exact_cut ls rest bs (tail-eq_of_cons-eq eq) (joined P H v) (base_step f h_H I) i l
      ∙ ap (λ (y : Bool). not (y || in_some ls i))
      (behind_taxa f I.hang h_H i l ∙ ap (λ (y : Bool). has P i || y) c_is)
      ∙ ap not (or_assoc (has P i) (has c i) (in_some ls i))

  -- ---- what lies behind with the first groups is what a row on the way parts
  pub cut_rows : (ls : List ℕ) {v e q : ℕ} {xs gs : List ℕ}
      → Walk n t b u z v e q xs gs
      → (bs : List ℕ) (g : ℕ) → gs ≡ ls ++ (g ∷ bs)
      → (P : ℕ) → Base n t v e P
      → Row n t (λ i. has P i || in_some ls i)
  unfolding in_some
  cut_rows [] {v} {e} W bs g eq P I = record {
    row = e;
    set = P;
    lt = I.e_lt;
    parts = I.hang.parts;
    is = λ i l. sym (or-false (has P i));
  }
  cut_rows (c ∷ ls) (done vz eb qu hD tx) bs g eq P I =
      absurd (nil_snoc ls bs g (tail-eq_of_cons-eq eq))
  cut_rows (c ∷ ls) (next {v} {g = g'} {H} eb hb f h_H tx rest) bs g eq P I =
      let c_is : (i : ℕ) → has g' i ≡ has c i
      = λ i. ap (λ (y : ℕ). has y i) (head-eq_of_cons-eq eq) in
      row_eq (λ i. has (joined P H v) i || in_some ls i) (λ i. has P i || (has c i || in_some ls i))
      (λ i l. ap (λ (y : Bool). y || in_some ls i)
      (behind_taxa f I.hang h_H i l ∙ ap (λ (y : Bool). has P i || y) (sym (tx i l) ∙ c_is i))
      ∙ or_assoc (has P i) (has c i) (in_some ls i))
      (cut_rows ls rest bs g (tail-eq_of_cons-eq eq) (joined P H v) (base_step f h_H I))
