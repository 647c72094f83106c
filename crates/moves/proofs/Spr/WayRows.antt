-- What the rows on the way from r to row b part, before and after p is moved
-- onto b. Assumes nothing.
use mathlib.Core.Path.{◌≡◌, refl, sym, ap, ◌∙◌, subst}
use mathlib.Core.Logic.{◌⊎◌, inl, inr}
use mathlib.Core.Bool.{Bool, true, false, not, ◌||◌, true≢false, false≢true, or-false, or_assoc}
use mathlib.Core.List.{List, [], ◌∷◌, ◌++◌, head-eq_of_cons-eq, tail-eq_of_cons-eq}
use Prim.Native.Nat.{ℕ, ◌<◌}
use native.Mathlib.Omega.{arith}
use lib.Dec.{eqb}
use borrow.Author.Tests.{eqb-true, eqb-false, ne_eqb}
use Rattle.taxa.specs.Sets.{has, in_some}
use Rattle.taxa.proofs.Bools.{Either, either, or_cases, ◌⊕◌}
use Rattle.tree.specs.Tree.{rows, part}
use Rattle.tree.specs.Lists.{mem}
use Rattle.tree.proofs.Joins.{flat_join, apart_join}
use Rattle.tree.proofs.Colourings.{Parts, Hangs}
use Rattle.tree.proofs.Forks.{Fork, joined}
use Rattle.moves.proofs.Rows.Splits.{Row, row_eq}
use Rattle.moves.proofs.Spr.Graft.{Site, Untouched, Graft, Aside, crossed, has_crossed}
use Rattle.moves.proofs.Spr.Graft.{keep_parts, far-parts, cross_parts, near_parts}
use Rattle.moves.proofs.Ways.Walk.{Taxa, Walk, next, done, Inside, Base, behind}
use Rattle.moves.proofs.Ways.Walk.{behind_sub, behind_H, behind_taxa, no_common}
use Rattle.moves.proofs.Ways.Walk.{inside_step, inside_x, inside_h, nil_snoc, false_sub}
use Rattle.moves.proofs.Ways.Walk.{out_z, along, beyond-is, at_b}

module _ {n : ℕ} {t t' : List ℕ} {p o a b : ℕ} {site : Site} (k : Graft n t t' p o a b site) where
  open site use {w, h, r, s, u, z, F, N, X}

  -- the part that is moved
  abbrev M : ℕ
  M = part n t a o

  -- come to v by row e: P lies behind, and p with its three rows in it
  pub record Inv (v e P : ℕ) : Type 0 where
    pub hang : Hangs n t e v P
    pub e_lt : e < rows n
    pub p_in : has P p ≡ true
    pub in_a : Inside t P e a
    pub in_w : Inside t P e w
    pub in_h : Inside t P e h

  pub base : {v e P : ℕ} → Inv v e P → Base n t v e P
  base I = record { hang = I.hang; e_lt = I.e_lt }

  -- one step, by row x, where H hangs from v by row f
  module _ {v x e f v' q i P H : ℕ} (K : Fork n t v x e f v' q i) (h_H : Hangs n t f v H)
      (I : Inv v e P) where
    step : Inv v' x (joined P H v)
    step = record {
      hang = behind K I.hang h_H;
      e_lt = K.e_lt;
      p_in = behind_sub K I.hang h_H p I.p_in;
      in_a = inside_step K I.hang h_H a I.in_a;
      in_w = inside_step K I.hang h_H w I.in_w;
      in_h = inside_step K I.hang h_H h I.in_h;
    }

    x_aside : Aside k x
    x_aside = record {
      lt = K.e_lt;
      not_a = inside_x K I.hang h_H a I.in_a;
      not_w = inside_x K I.hang h_H w I.in_w;
      not_h = inside_x K I.hang h_H h I.in_h;
    }

    -- the taxa behind x, with the group g of H's taxa
    both : (g : ℕ) → Taxa n g H → (j : ℕ) → j < n → has (joined P H v) j ≡ (has P j || has g j)
    both g tx j l = behind_taxa K I.hang h_H j l ∙ ap (λ (y : Bool). has P j || y) (sym (tx j l))

  -- ---- after the move, M and p are exchanged in what a row on the way parts
  pub taxon_crossed : (S i : ℕ) → i < n → has (crossed M p S) i ≡ (has S i ⊕ has M i)
  taxon_crossed S i l =
      has_crossed M p S i
      ∙ ap (λ (y : Bool). has S i ⊕ (has M i || y))
      (ne_eqb p i (λ d. omega (arith, k.fork.inner)))
      ∙ ap (λ (y : Bool). has S i ⊕ y) (or-false (has M i))

  -- the row x on the way, after
  moved_row : {x v' P : ℕ} → Aside k x → Hangs n t x v' P → has P p ≡ true → has P z ≡ false
      → Row n t' (λ i. has P i ⊕ has M i)
  moved_row {x} {v'} {P} A h_P pp pz = go (either (eqb x b))
    where
      go : Either (eqb x b) → Row n t' (λ i. has P i ⊕ has M i)
      go (inr d) = record {
        row = x;
        set = crossed M p P;
        lt = A.lt;
        parts = cross_parts k A (eqb-false x b d) h_P.parts (pz ∙ sym (ap not pp));
        is = taxon_crossed P;
      }
      go (inl d) =
          let q : Parts n t b P = subst (λ (y : ℕ). Parts n t y P) (eqb-true x b d) h_P.parts in
          let pu : has P u ≡ true = apart_join t b u z (has P) k.b_row q.apart ∙ ap not pz in
          record {
            row = N;
            set = crossed M p P;
            lt = k.N_lt;
            parts = near_parts k q (pp ∙ sym pu);
            is = taxon_crossed P;
          }

  -- so what lies behind with the first groups, M exchanged, is what a row of
  -- t' parts
  pub cut_rows' : (ls : List ℕ) {v e q : ℕ} {xs gs : List ℕ} → Walk n t b u z v e q xs gs
      → (bs : List ℕ) (g : ℕ) → gs ≡ ls ++ (g ∷ bs) → (P : ℕ) → Inv v e P
      → Row n t' (λ i. has P i ⊕ has M i)
      → Row n t' (λ i. (has P i || in_some ls i) ⊕ has M i)
  unfolding in_some
  cut_rows' [] W bs g eq P I R =
      row_eq (λ i. has P i ⊕ has M i) (λ i. (has P i || false) ⊕ has M i)
      (λ i l. ap (λ (y : Bool). y ⊕ has M i) (sym (or-false (has P i)))) R
  cut_rows' (c ∷ ls) (done vz eb qu hD tx) bs g eq P I R =
      absurd (nil_snoc ls bs g (tail-eq_of_cons-eq eq))
  cut_rows' (c ∷ ls) (next {v} {x = x} {v'} {g = g'} {H} eb hb f h_H tx rest) bs g eq P I R =
      let P' = joined P H v in
      let J = step f h_H I in
      let c_is : (i : ℕ) → has g' i ≡ has c i
      = λ i. ap (λ (y : ℕ). has y i) (head-eq_of_cons-eq eq) in
      row_eq (λ i. (has P' i || in_some ls i) ⊕ has M i)
      (λ i. (has P i || (has c i || in_some ls i)) ⊕ has M i)
      (λ i l. ap (λ (y : Bool). (y || in_some ls i) ⊕ has M i)
      (both f h_H I g' tx i l ∙ ap (λ (y : Bool). has P i || y) (c_is i))
      ∙ ap (λ (y : Bool). y ⊕ has M i) (or_assoc (has P i) (has c i) (in_some ls i)))
      (cut_rows' ls rest bs g (tail-eq_of_cons-eq eq) P' J
      (moved_row (x_aside f h_H I) J.hang J.p_in (out_z rest P' (base J))))

  -- ---- each group has its row, before and after
  pub record GroupRows (g : ℕ) : Type 0 where
    pub before : Row n t (has g)
    pub after : Row n t' (has g)

  pub group-rows : (ls : List ℕ) {v e q : ℕ} {xs gs : List ℕ} → Walk n t b u z v e q xs gs
      → (bs : List ℕ) (g : ℕ) → gs ≡ ls ++ (g ∷ bs) → (P : ℕ) → Inv v e P → GroupRows g
  group-rows [] (done {D = D} vz eb qu hD tx) bs g eq P I =
      let h_P = at_b vz eb I.hang in
      let Dp : has D p ≡ false
      = beyond-is k.valid k.b_row k.b_lt h_P hD p k.fork.p_lt ∙ ap not I.p_in in
      let is : (i : ℕ) → i < n → has D i ≡ has g i
      = λ i l. sym (tx i l) ∙ ap (λ (y : ℕ). has y i) (head-eq_of_cons-eq eq) in
      let after-parts = far-parts k hD.parts (Dp ∙ sym hD.out) in
      record {
        before = record { row = b; set = D; lt = k.b_lt; parts = hD.parts; is = is };
        after = record { row = X; set = D; lt = k.X_lt; parts = after-parts; is = is };
      }
  group-rows (c ∷ ls) (done vz eb qu hD tx) bs g eq P I =
      absurd (nil_snoc ls bs g (tail-eq_of_cons-eq eq))
  group-rows [] (next {v} {h = f} {H = H} eb fb K h_H tx rest) bs g eq P I =
      let P' = joined P H v in
      let J = step K h_H I in
      let Hp : has H p ≡ false = no_common K I.hang h_H k.valid p k.fork.p_lt I.p_in in
      let Hz : has H z ≡ false
      = false_sub (has H z) (has P' z) (behind_H K I.hang h_H z) (out_z rest P' (base J)) in
      let Hu : has H u ≡ has H z
      = flat_join t b u z (has H) k.b_row (h_H.parts.closed b k.b_lt (λ d. fb (sym d))) in
      let is : (i : ℕ) → i < n → has H i ≡ has g i
      = λ i l. sym (tx i l) ∙ ap (λ (y : ℕ). has y i) (head-eq_of_cons-eq eq) in
      let un : Untouched site b f = record {
        not_w = inside_h K I.hang h_H w I.in_w;
        not_h = inside_h K I.hang h_H h I.in_h;
        not_b = fb;
      } in
      let after-parts = keep_parts k un h_H.parts (Hp ∙ sym Hz ∙ sym Hu) in
      record {
        before = record { row = f; set = H; lt = K.f_lt; parts = h_H.parts; is = is };
        after = record { row = f; set = H; lt = K.f_lt; parts = after-parts; is = is };
      }
  group-rows (c ∷ ls) (next {v} {H = H} eb hb f h_H tx rest) bs g eq P I =
      group-rows ls rest bs g (tail-eq_of_cons-eq eq) (joined P H v) (step f h_H I)

  -- ---- a row on the way parts the first groups from the last
  pub record OnWay (gs : List ℕ) (P j : ℕ) : Type 0 where
    pub front : List ℕ
    pub tail : List ℕ
    pub S : ℕ
    pub is : gs ≡ front ++ tail
    pub parts : Parts n t j S
    pub taxa : (i : ℕ) → i < n → has S i ≡ (has P i || in_some front i)
    pub p_in : has S p ≡ true
    pub z_out : has S z ≡ false
    pub aside : Aside k j

  pub on_way : {v e q : ℕ} {xs gs : List ℕ} → Walk n t b u z v e q xs gs
      → (P : ℕ) → Inv v e P → (j : ℕ) → mem j xs ≡ true → OnWay gs P j
  unfolding mem in_some
  on_way (done vz eb qu hD tx) P I j m = absurd (false≢true m)
  on_way (next {v} {x = x} {v'} {g} {H} {xs} {gs} eb hb f h_H tx rest) P I j m =
      go (on_way rest P' J j) (or_cases (eqb j x) (mem j xs) m)
    where
      P' : ℕ
      P' = joined P H v

      J : Inv v' x P'
      J = step f h_H I

      go : (mem j xs ≡ true → OnWay gs P' j)
          → (eqb j x ≡ true) ⊎ (mem j xs ≡ true)
          → OnWay (g ∷ gs) P j
      go ih (inl d) =
          let xj = sym (eqb-true j x d) in
          record {
            front = g ∷ [];
            tail = gs;
            S = P';
            is = refl;
            parts = subst (λ (y : ℕ). Parts n t y P') xj J.hang.parts;
            taxa = λ i l.
                both f h_H I g tx i l ∙ ap (λ (y : Bool). has P i || y) (sym (or-false (has g i)));
            p_in = J.p_in;
            z_out = out_z rest P' (base J);
            aside = subst (λ (y : ℕ). Aside k y) xj (x_aside f h_H I);
          }
      go ih (inr d) =
          let R = ih d in
          record {
            front = g ∷ R.front;
            tail = R.tail;
            S = R.S;
            is = ap (λ (l : List ℕ). g ∷ l) R.is;
            parts = R.parts;
            taxa = λ i l. R.taxa i l
                ∙ ap (λ (y : Bool). y || in_some R.front i) (both f h_H I g tx i l)
                ∙ or_assoc (has P i) (has g i) (in_some R.front i);
            p_in = R.p_in;
            z_out = R.z_out;
            aside = R.aside;
          }

  -- a row off the way leaves p and b together
  pub off_way : {q : ℕ} {xs gs : List ℕ} → Walk n t b u z r w q xs gs → (j S : ℕ) → Parts n t j S
      → (j ≡ w → ⊥) → (j ≡ b → ⊥) → mem j xs ≡ false → has S p ≡ has S u
  off_way {xs = xs} W j S q jw jb m =
      let off : (x : ℕ) → mem x xs ≡ true → x ≡ j → ⊥
      = λ x mx d. true≢false (sym mx ∙ ap (λ (y : ℕ). mem y xs) d ∙ m) in
      flat_join t w p r (has S) k.fork.f_row (q.closed w k.fork.f_lt (λ d. jw (sym d)))
      ∙ along W (has S) (λ x mx l. q.closed x l (off x mx))
      ∙ sym (flat_join t b u z (has S) k.b_row (q.closed b k.b_lt (λ d. jb (sym d))))

  -- what lies beyond b, without p
  pub record FarSet : Type 0 where
    pub set : ℕ
    pub hang : Hangs n t b u set
    pub p_out : has set p ≡ false

  pub far-set : {v e q : ℕ} {xs gs : List ℕ}
      → Walk n t b u z v e q xs gs
      → (P : ℕ) → Inv v e P
      → FarSet
  far-set (done {D = D} vz eb qu hD tx) P I =
      let D_is = beyond-is k.valid k.b_row k.b_lt (at_b vz eb I.hang) hD in
      record { set = D; hang = hD; p_out = D_is p k.fork.p_lt ∙ ap not I.p_in }
  far-set (next {v} {H = H} eb hb f h_H tx rest) P I = far-set rest (joined P H v) (step f h_H I)
