-- The splits before and after p is moved onto b are a chain of the groups on
-- the way. Assumes nothing.
use mathlib.Core.Path.{◌≡◌, refl, sym, ap, ◌∙◌}
use mathlib.Core.Logic.{◌⊎◌, inl, inr}
use mathlib.Core.Bool.{Bool, true, false, not, ◌||◌, true≢false, or-true, or-false, or_assoc}
use mathlib.Core.List.{List, [], ◌∷◌, ◌++◌, head-eq_of_cons-eq, tail-eq_of_cons-eq}
use Prim.Native.Nat.{ℕ, ◌^◌, ◌<◌}
use native.Mathlib.Omega.{arith}
use lib.Dec.{eqb}
use borrow.Author.Tests.{eqb-true, eqb-false}
use Rattle.taxa.specs.Sets.{has, some, in_some}
use Rattle.taxa.proofs.Bools.{Either, either, ◌⊕◌, not_swap}
use Rattle.taxa.proofs.Sets.{has_below}
use Rattle.tree.specs.Tree.{lo, rows, part}
use Rattle.tree.specs.Lists.{mem}
use Rattle.tree.specs.Splits.{split, splits}
use Rattle.tree.proofs.Joins.{flat_join, apart_join}
use Rattle.tree.proofs.Colourings.{Parts, Hangs, row-parts, valid-table}
use Rattle.tree.proofs.SplitLaws.{split_eq, num, kept_in, KeptRow, kept_out, splits_asc}
use Rattle.tree.proofs.Forks.{Fork, joined, at_c}
use Rattle.moves.proofs.Rows.Ends.{both_in}
use Rattle.moves.proofs.Rows.Splits.{Row, row_eq, row_num, row-mem, split-mem, no_cross}
use Rattle.moves.proofs.LostSplits.Chain.{with_w, has_with, WithFirst}
use Rattle.moves.proofs.LostSplits.Chain.{WithLast, Chain, split-none}
use Rattle.moves.proofs.Spr.Graft.{Site, Untouched, Graft, crossed, pr, a_parts, keep_parts}
use Rattle.moves.proofs.Spr.Graft.{hang_parts, far-parts, cross_parts, near_parts}
use Rattle.moves.proofs.Ways.Walk.{Taxa, Walk, next, fork_turn, Base, behind, behind_v}
use Rattle.moves.proofs.Ways.Walk.{behind_H, behind_taxa, no_common, inside_step, false_sub}
use Rattle.moves.proofs.Ways.Walk.{out_z, b_on_way, exact, exact_cut, cut_rows}
use Rattle.moves.proofs.Spr.WayRows.{Inv, base, taxon_crossed, cut_rows', GroupRows}
use Rattle.moves.proofs.Spr.WayRows.{group-rows, OnWay, on_way, off_way, FarSet, far-set}

module _ {n : ℕ} {t t' : List ℕ} {p o a b : ℕ} {site : Site} (k : Graft n t t' p o a b site) where
  open site use {w, h, r, s, u, z, F, N, X}

  -- the part that is moved
  abbrev M : ℕ
  M = part n t a o

  -- The way from p: first the group g₁ that hangs by h, then those on the way
  -- from r. W has the taxa of M.
  module _ {xs gs : List ℕ} (way : Walk n t b u z r w p xs gs)
      {H : ℕ} (h_H : Hangs n t h p H) (g₁ : ℕ) (tx : Taxa n g₁ H) (W : ℕ) (tw : Taxa n W M) where
    fork₁ : Fork n t p w a h r o s
    fork₁ = fork_turn (pr k) k.fork

    full : Walk n t b u z p a o (w ∷ xs) (g₁ ∷ gs)
    full = next (λ d. k.ba (sym d)) (λ d. k.bh (sym d)) fork₁ h_H tx way

    base₀ : Base n t p a M
    base₀ = record { hang = k.h_M; e_lt = k.fork.e_lt }

    -- what lies behind w
    P₁ : ℕ
    P₁ = joined M H p

    inv₁ : Inv k r w P₁
    unfolding P₁
    inv₁ = record {
      hang = behind fork₁ k.h_M h_H;
      e_lt = k.fork.f_lt;
      p_in = behind_v fork₁ k.h_M h_H;
      in_a = inside_step fork₁ k.h_M h_H a (inl refl);
      in_w = inl refl;
      in_h = inr (both_in t h p s (joined M H p) k.fork.x_row (behind_v fork₁ k.h_M h_H)
          (behind_H fork₁ k.h_M h_H s (at_c fork₁ k.h_M h_H)));
    }

    P₁_taxa : (i : ℕ) → i < n → has P₁ i ≡ (has M i || has H i)
    unfolding P₁
    P₁_taxa = behind_taxa fork₁ k.h_M h_H

    H_u : has H u ≡ false
    unfolding P₁
    H_u =
        flat_join t b u z (has H) k.b_row (h_H.parts.closed b k.b_lt k.bh)
        ∙ false_sub (has H z) (has P₁ z) (behind_H fork₁ k.h_M h_H z)
        (out_z way P₁ (base k inv₁))

    F_parts : Parts n t' F H
    F_parts = hang_parts k h_H.parts (h_H.out ∙ sym H_u)

    first_row' : Row n t' (λ i. has P₁ i ⊕ has M i)
    first_row' = record {
      row = F;
      set = H;
      lt = k.F_lt;
      parts = F_parts;
      is = λ i l.
          bools (has M i) (has H i)
          (no_common fork₁ k.h_M h_H k.valid i (omega (arith, k.valid.big)))
          ∙ ap (λ (x : Bool). x ⊕ has M i) (sym (P₁_taxa i l));
    }
      where
        bools : (m h : Bool) → (m ≡ true → h ≡ false) → h ≡ ((m || h) ⊕ m)
        bools true h c = c refl
        bools false true c = refl
        bools false false c = refl

    a_row' : Row n t' (has M)
    a_row' = record { row = a; set = M; lt = k.fork.e_lt; parts = a_parts k; is = λ i l. refl }

    h_row : Row n t (has H)
    h_row = record { row = h; set = H; lt = k.fork.x_lt; parts = h_H.parts; is = λ i l. refl }

    h_row' : Row n t' (has H)
    h_row' = record { row = F; set = H; lt = k.F_lt; parts = F_parts; is = λ i l. refl }

    -- ---- M with the first groups, before and after, and each group
    rows_at : (ls bs : List ℕ) (g : ℕ)
        → g₁ ∷ gs ≡ ls ++ (g ∷ bs)
        → Row n t (λ i. has M i || in_some ls i)
    rows_at ls bs g e = cut_rows k.valid k.b_row k.b_lt ls full bs g e M base₀

    rows_at' : (ls bs : List ℕ) (c g : ℕ) → g₁ ∷ gs ≡ (c ∷ ls) ++ (g ∷ bs)
        → Row n t' (λ i. (has M i || in_some (c ∷ ls) i) ⊕ has M i)
    unfolding in_some
    rows_at' ls bs c g e =
        let c_is : (i : ℕ) → has g₁ i ≡ has c i
        = λ i. ap (λ (x : ℕ). has x i) (head-eq_of_cons-eq e) in
        row_eq (λ i. (has P₁ i || in_some ls i) ⊕ has M i)
        (λ i. (has M i || (has c i || in_some ls i)) ⊕ has M i)
        (λ i l. ap (λ (x : Bool). (x || in_some ls i) ⊕ has M i)
        (P₁_taxa i l ∙ ap (λ (x : Bool). has M i || x) (sym (tx i l) ∙ c_is i))
        ∙ ap (λ (x : Bool). x ⊕ has M i) (or_assoc (has M i) (has c i) (in_some ls i)))
        (cut_rows' k ls way bs g (tail-eq_of_cons-eq e) P₁ inv₁ first_row')

    groups-at : (ls bs : List ℕ) (g : ℕ) → g₁ ∷ gs ≡ ls ++ (g ∷ bs) → GroupRows k g
    groups-at [] bs g e =
        let is : (i : ℕ) → i < n → has H i ≡ has g i
        = λ i l. sym (tx i l) ∙ ap (λ (x : ℕ). has x i) (head-eq_of_cons-eq e) in
        record {
          before = row_eq (has H) (has g) is h_row;
          after = row_eq (has H) (has g) is h_row';
        }
    groups-at (c ∷ ls) bs g e = group-rows k ls way bs g (tail-eq_of_cons-eq e) P₁ inv₁

    module _ (y : ℕ) (bound : y < 2 ^ n) where
      lt : (i : ℕ) → has y i ≡ true → i < n
      lt i yi = has_below n y i bound yi

      last-is : (ls bs : List ℕ) → g₁ ∷ gs ≡ ls ++ bs
          → (i : ℕ) → has y i ≡ true → in_some bs i ≡ not (has M i || in_some ls i)
      last-is ls bs e i yi =
          exact_cut k.valid k.b_row k.b_lt ls full bs e M base₀ i (lt i yi)

      with_is : (ls : List ℕ) (i : ℕ)
          → has y i ≡ true
          → has (with_w W ls) i ≡ (has M i || in_some ls i)
      with_is ls i yi = has_with W ls i ∙ ap (λ (x : Bool). x || in_some ls i) (tw i (lt i yi))

      -- W with the last groups
      with_last : (ls bs : List ℕ) → g₁ ∷ gs ≡ ls ++ bs
          → (i : ℕ) → has y i ≡ true
          → has (with_w W bs) i ≡ (has M i || not (has M i || in_some ls i))
      with_last ls bs e i yi =
          with_is bs i yi ∙ ap (λ (x : Bool). has M i || x) (last-is ls bs e i yi)

      -- on y, the sets after are those of w with the last groups
      turned : (m l : Bool) → (m || not (m || l)) ≡ not ((m || l) ⊕ m)
      turned true l = refl
      turned false true = refl
      turned false false = refl

      turned' : (m l : Bool) → ((m || l) ⊕ m) ≡ not (m || not (m || l))
      turned' true l = refl
      turned' false true = refl
      turned' false false = refl

      -- ---- the splits of W with the first groups are there before, those of W
      -- with the last after
      xs_cut : (ls bs : List ℕ) → g₁ ∷ gs ≡ ls ++ bs → some (split n y (with_w W ls)) ≡ true
          → mem (split n y (with_w W ls)) (splits n t y) ≡ true
      unfolding in_some
      xs_cut ls [] e q =
          absurd (split-none n y (with_w W ls) bound
          (λ i yi. with_is ls i yi ∙ not_swap false (has M i || in_some ls i)
          (last-is ls [] e i yi)) q)
      xs_cut ls (g ∷ bs) e q =
          row-mem k.valid y bound (with_w W ls) false (rows_at ls bs g e) (with_is ls) q

      ys_cut : (ls bs : List ℕ) → g₁ ∷ gs ≡ ls ++ bs → some (split n y (with_w W bs)) ≡ true
          → mem (split n y (with_w W bs)) (splits n t' y) ≡ true
      unfolding in_some
      ys_cut [] bs e q =
          absurd (split-none n y (with_w W bs) bound
          (λ i yi. with_last [] bs e i yi ∙ all (has M i)) q)
        where
          all : (m : Bool) → (m || not (m || false)) ≡ true
          all true = refl
          all false = refl
      ys_cut (c ∷ ls) [] e q =
          row-mem k.valid' y bound (with_w W []) false a_row'
          (λ i yi. with_is [] i yi ∙ or-false (has M i)) q
      ys_cut (c ∷ ls) (g ∷ bs) e q =
          row-mem k.valid' y bound (with_w W (g ∷ bs)) true (rows_at' ls bs c g e)
          (λ i yi. with_last (c ∷ ls) (g ∷ bs) e i yi ∙ turned (has M i) (in_some (c ∷ ls) i)) q

      -- ---- where a split comes from
      abbrev Cut : ℕ → Type 0
      Cut x = WithFirst n y W (g₁ ∷ gs) x

      abbrev Cut' : ℕ → Type 0
      Cut' x = WithLast n y W (g₁ ∷ gs) x

      front_is : (ls : List ℕ) (S : ℕ) → ((i : ℕ) → i < n → has S i ≡ (has P₁ i || in_some ls i))
          → (i : ℕ) → has y i ≡ true → has S i ≡ (has M i || in_some (g₁ ∷ ls) i)
      unfolding in_some
      front_is ls S q i yi =
          let l = lt i yi in
          let behind_w = P₁_taxa i l ∙ ap (λ (x : Bool). has M i || x) (sym (tx i l)) in
          q i l
          ∙ ap (λ (x : Bool). x || in_some ls i) behind_w
          ∙ or_assoc (has M i) (has g₁ i) (in_some ls i)

      abbrev OnW : ℕ → Type 0
      OnW j = OnWay k gs P₁ j

      way_cut : (x j : ℕ) → j < rows n → x ≡ num n t y j → OnW j → Cut x
      way_cut x j l e R =
          let ls = g₁ ∷ R.front in
          record {
            front = ls;
            back = R.tail;
            cut = ap (λ (v : List ℕ). g₁ ∷ v) R.is;
            is = e ∙ row_num k.valid y bound l R.parts
                ∙ split_eq n y R.S (with_w W ls) bound false
                (λ i yi. front_is R.front R.S R.taxa i yi ∙ sym (with_is ls i yi));
          }

      way_cut' : (x j j' : ℕ) → j' < rows n → x ≡ num n t' y j'
          → (R : OnW j) → Parts n t' j' (crossed M p R.S) → Cut' x
      way_cut' x j j' l e R q = record {
        front = ls;
        back = R.tail;
        cut = cut;
        is = e ∙ row_num k.valid' y bound l q
            ∙ split_eq n y (crossed M p R.S) (with_w W R.tail) bound true (λ i yi.
            taxon_crossed k R.S i (lt i yi)
            ∙ ap (λ (v : Bool). v ⊕ has M i) (front_is R.front R.S R.taxa i yi)
            ∙ turned' (has M i) (in_some ls i)
            ∙ sym (ap not (with_last ls R.tail cut i yi)));
      }
        where
          ls : List ℕ
          ls = g₁ ∷ R.front

          cut : g₁ ∷ gs ≡ ls ++ R.tail
          cut = ap (λ (v : List ℕ). g₁ ∷ v) R.is

      -- rows off the way keep their split
      stays : {j : ℕ}
          → j < rows n
          → Untouched site b j
          → mem j xs ≡ false
          → num n t y j ≡ num n t' y j
      stays {j} l un m =
          let S = part n t j (lo t j) in
          let q = row-parts k.valid.big (valid-table k.valid) j l in
          let together = off_way k way j S q un.not_w un.not_b m in
          row_num k.valid y bound l q
          ∙ sym (row_num k.valid' y bound l (keep_parts k un q together))

      xs_from : (x : ℕ) → mem x (splits n t y) ≡ true → (mem x (splits n t' y) ≡ true) ⊎ Cut x
      unfolding in_some
      xs_from x m = go (either (eqb j w)) (either (eqb j h)) (either (mem j xs))
        where
          v : KeptRow n t y x
          v = kept_out n t y bound x m

          j : ℕ
          j = v.row

          -- the first cut, at w
          first : j ≡ w → Cut x
          first d = record {
            front = g₁ ∷ [];
            back = gs;
            cut = refl;
            is =
                v.is
                ∙ ap (num n t y) d
                ∙ row_num k.valid y bound k.fork.f_lt inv₁.hang.parts
                ∙ split_eq n y P₁ (with_w W (g₁ ∷ [])) bound false
                (λ i yi. front_is [] P₁ (λ i l. sym (or-false (has P₁ i))) i yi
                ∙ sym (with_is (g₁ ∷ []) i yi));
          }

          not_b : mem j xs ≡ false → j ≡ b → ⊥
          not_b q d =
              true≢false (sym (b_on_way way (λ d. k.bw (sym d))) ∙ ap (λ (i : ℕ). mem i xs) (sym d)
              ∙ q)

          go : Either (eqb j w) → Either (eqb j h) → Either (mem j xs)
              → (mem x (splits n t' y) ≡ true) ⊎ Cut x
          go (inl q) q' q'' = inr (first (eqb-true j w q))
          go (inr q) (inl q') q'' =
              let h_num = row_num k.valid y bound k.fork.x_lt h_H.parts in
              let is_H = ap (num n t y) (eqb-true j h q') ∙ h_num in
              inl (split-mem k.valid' y bound x H v.kept (v.is ∙ is_H) h_row')
          go (inr q) (inr q') (inl q'') =
              inr (way_cut x j v.lt v.is (on_way k way P₁ inv₁ j q''))
          go (inr q) (inr q') (inr q'') =
              let un : Untouched site b j
              = record { not_w = eqb-false j w q; not_h = eqb-false j h q'; not_b = not_b q'' } in
              inl (kept_in n t' y bound x j v.lt v.kept (v.is ∙ stays v.lt un q''))

      ys_from : (x : ℕ) → mem x (splits n t' y) ≡ true → (mem x (splits n t y) ≡ true) ⊎ Cut' x
      ys_from x m = go (either (eqb j F)) (either (eqb j N)) (either (eqb j X)) (either (mem j xs))
        where
          v : KeptRow n t' y x
          v = kept_out n t' y bound x m

          j : ℕ
          j = v.row

          D : FarSet k
          D = far-set k way P₁ inv₁

          D_row : Row n t (has D.set)
          D_row = record {
            row = b;
            set = D.set;
            lt = k.b_lt;
            parts = D.hang.parts;
            is = λ i l. refl;
          }

          X_parts : Parts n t' X D.set
          X_parts = far-parts k D.hang.parts (D.p_out ∙ sym D.hang.out)

          Rb : OnW b
          Rb = on_way k way P₁ inv₁ b (b_on_way way (λ d. k.bw (sym d)))

          b_u : has Rb.S u ≡ true
          b_u = apart_join t b u z (has Rb.S) k.b_row Rb.parts.apart ∙ ap not Rb.z_out

          go : Either (eqb j F) → Either (eqb j N) → Either (eqb j X) → Either (mem j xs)
              → (mem x (splits n t y) ≡ true) ⊎ Cut' x
          go (inl q) q₁ q₂ q₃ =
              let F_num = row_num k.valid' y bound k.F_lt F_parts in
              let is_H = ap (num n t' y) (eqb-true j F q) ∙ F_num in
              inl (split-mem k.valid y bound x H v.kept (v.is ∙ is_H) h_row)
          go (inr q) (inl q₁) q₂ q₃ =
              inr (way_cut' x b N k.N_lt (v.is ∙ ap (num n t' y) (eqb-true j N q₁)) Rb
              (near_parts k Rb.parts (Rb.p_in ∙ sym b_u)))
          go (inr q) (inr q₁) (inl q₂) q₃ =
              let X_num = row_num k.valid' y bound k.X_lt X_parts in
              let is_D = ap (num n t' y) (eqb-true j X q₂) ∙ X_num in
              inl (split-mem k.valid y bound x D.set v.kept (v.is ∙ is_D) D_row)
          go (inr q) (inr q₁) (inr q₂) (inl q₃) =
              let R = on_way k way P₁ inv₁ j q₃ in
              let un = k.keep j (eqb-false j F q) (eqb-false j N q₁) (eqb-false j X q₂) in
              inr (way_cut' x j j v.lt v.is R (cross_parts k R.aside un.not_b R.parts
              (R.z_out ∙ sym (ap not R.p_in))))
          go (inr q) (inr q₁) (inr q₂) (inr q₃) =
              let un = k.keep j (eqb-false j F q) (eqb-false j N q₁) (eqb-false j X q₂) in
              inl (kept_in n t y bound x j v.lt v.kept (v.is ∙ sym (stays v.lt un q₃)))

      -- ---- the chain
      pub spr_chain : Chain n y W (g₁ ∷ gs) (splits n t y) (splits n t' y)
      spr_chain = record {
        bound = bound;
        rest = λ i yi. exact k.valid k.b_row k.b_lt full M k.h_M i (lt i yi)
            ∙ ap not (sym (tw i (lt i yi)));
        sep = λ ls bs e i yi q. last-is ls bs e i yi
            ∙ ap (λ (x : Bool). not (has M i || x)) q ∙ ap not (or-true (has M i));
        asc = splits_asc n t y;
        asc' = splits_asc n t' y;
        cut = xs_cut;
        cut' = ys_cut;
        group = λ ls bs g e q.
            row-mem k.valid y bound g false (groups-at ls bs g e).before
            (λ i yi. refl) q;
        group' = λ ls bs g e q.
            row-mem k.valid' y bound g false (groups-at ls bs g e).after
            (λ i yi. refl) q;
        from = xs_from;
        from' = ys_from;
        kept = λ x m. (kept_out n t y bound x m).kept;
        kept' = λ x m. (kept_out n t' y bound x m).kept;
        cross = no_cross k.valid y bound;
        cross' = no_cross k.valid' y bound;
      }
