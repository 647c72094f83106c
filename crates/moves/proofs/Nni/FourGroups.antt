-- An exchange of two rows across a row e: the distance over Y is 2 where all
-- four groups meet Y, and 0 where one misses it. This is Proposition 1, for any
-- two tables of which one is the other with two rows exchanged.
-- Assumes nothing.
use mathlib.Core.Path.{◌≡◌, refl, sym, ap, ap₂, ◌∙◌}
use mathlib.Core.Logic.{inl, inr}
use mathlib.Core.Bool.{Bool, true, false, not, ◌||◌, true≢false, false≢true, or-false}
use mathlib.Core.List.{List}
use Prim.Native.Nat.{ℕ, ◌+◌, ◌^◌, ◌<◌}
use native.Mathlib.Omega.{arith}
use borrow.Author.Tests.{ne_eqb}
use Rattle.taxa.specs.Sets.{has, some}
use Rattle.taxa.proofs.Bools.{Either, either, ◌⊕◌}
use Rattle.taxa.proofs.Sets.{has_below}
use Rattle.tree.specs.Tree.{lo, rows, nodes, part}
use Rattle.tree.specs.Lists.{mem, lacks}
use Rattle.tree.specs.Splits.{split, splits, dist_by, dist}
use Rattle.tree.proofs.Colourings.{Parts, row-parts, never_cross}
use Rattle.tree.proofs.Lists.{lacks-none, lacks_one}
use Rattle.tree.proofs.SplitLaws.{num, split-pairs, kept_in, kept_out, splits_asc}
use Rattle.tree.proofs.Forks.{joined, has-joined}
use Rattle.tree.proofs.Growth.{kept_by}
use Rattle.moves.proofs.Ways.Meeting.{Miss, Met}
use Rattle.moves.proofs.Rows.Splits.{row_num}
use Rattle.moves.proofs.Rows.Ends.{Apart, Leaves, hang_apart}
use Rattle.moves.proofs.Nni.Ends.{End, Hung, e_parts, num_e, miss_row, miss_third}
use Rattle.moves.proofs.Nni.Exchange.{Exchange, flip, Four, tab, tab', stays, all_stay}
use Rattle.moves.proofs.Nni.Exchange.{A_q, B_q, C_p, D_p, four_flip}

-- one of four groups misses Y
pub data OneMissed (Y A B C D : ℕ) : Type 0 where
  miss_A : Miss Y A → OneMissed Y A B C D
  miss_B : Miss Y B → OneMissed Y A B C D
  miss_C : Miss Y C → OneMissed Y A B C D
  miss_D : Miss Y D → OneMissed Y A B C D

-- each of four groups meets Y
pub record AllMet (Y A B C D : ℕ) : Type 0 where
  pub in_A : Met Y A
  pub in_B : Met Y B
  pub in_C : Met Y C
  pub in_D : Met Y D

equal_of : (p q : Bool) → (p ⊕ q) ≡ false → q ≡ p
equal_of true true h = refl
equal_of true false h = absurd (true≢false h)
equal_of false true h = absurd (true≢false h)
equal_of false false h = refl

other_of : (p q : Bool) → (p ⊕ q) ≡ true → q ≡ not p
other_of true true h = absurd (false≢true h)
other_of true false h = refl
other_of false true h = refl
other_of false false h = absurd (false≢true h)

module _ {n : ℕ} {t t' : List ℕ} {e : ℕ} {P Q : End} (k : Exchange n t t' e P Q)
    {A B C D : ℕ} (four : Four n t P Q A B C D) where
  open P use {node as p, row as x, far as a, third as f, last as c}
  open Q use {node as q, row as y, far as b, third as g, last as d}

  -- what hangs from the two ends
  abbrev hung_P : Hung n t P A B
  hung_P = four.on_P

  abbrev hung_Q : Hung n t Q C D
  hung_Q = four.on_Q

  -- where a group misses Y, every split stays
  missed : {Y : ℕ} → Y < 2 ^ n → OneMissed Y A B C D
      → (z : ℕ) → mem z (splits n t Y) ≡ true → mem z (splits n t' Y) ≡ true
  missed {Y} bound (miss_A m) =
      all_stay k Y f bound k.at_P.f_lt k.at_P.ef
      (miss_row k.at_P hung_P k.valid Y bound m)
  missed {Y} bound (miss_B m) =
      all_stay k Y x bound k.at_P.x_lt k.at_P.ex
      (miss_third k.at_P hung_P k.valid Y bound m)
  missed {Y} bound (miss_C m) =
      all_stay k Y g bound k.at_Q.f_lt k.at_Q.ef
      (miss_row k.at_Q hung_Q k.valid Y bound m)
  missed {Y} bound (miss_D m) =
      all_stay k Y y bound k.at_Q.x_lt k.at_Q.ex
      (miss_third k.at_Q hung_Q k.valid Y bound m)

  -- the four rows, and the groups that hang by them
  by_x : Leaves n t x p a A
  by_x = record { lt = k.at_P.x_lt; row = k.at_P.x_row; parts = hung_P.by_row.parts }

  by_f : Leaves n t f p c B
  by_f = record { lt = k.at_P.f_lt; row = k.at_P.f_row; parts = hung_P.by_third.parts }

  by_y : Leaves n t y q b C
  by_y = record { lt = k.at_Q.x_lt; row = k.at_Q.x_row; parts = hung_Q.by_row.parts }

  by_g : Leaves n t g q d D
  by_g = record { lt = k.at_Q.f_lt; row = k.at_Q.f_row; parts = hung_Q.by_third.parts }

  -- no two groups have a node in common
  apart_AB : Apart n A B
  apart_AB = hang_apart (tab k) k.at_P.xf by_x by_f hung_P.by_third.out hung_P.by_row.out

  apart_CD : Apart n C D
  apart_CD = hang_apart (tab k) k.at_Q.xf by_y by_g hung_Q.by_third.out hung_Q.by_row.out

  apart_AC : Apart n A C
  apart_AC = hang_apart (tab k) k.rows_differ by_x by_y (C_p k four) (A_q k four)

  apart_AD : Apart n A D
  apart_AD = hang_apart (tab k) k.row-third by_x by_g (D_p k four) (A_q k four)

  apart_BC : Apart n B C
  apart_BC = hang_apart (tab k) (λ w. k.third-row (sym w)) by_f by_y (C_p k four) (B_q k four)

  apart_BD : Apart n B D
  apart_BD = hang_apart (tab k) k.thirds_differ by_f by_g (D_p k four) (B_q k four)

  module _ (Y : ℕ) (bound : Y < 2 ^ n) (met : AllMet Y A B C D) where
    open met use {in_A as mA, in_B as mB, in_C as mC, in_D as mD}

    -- the sets of row e with p, before and after
    abbrev Z₀ : ℕ
    Z₀ = joined A B p

    abbrev Z₁ : ℕ
    Z₁ = joined C B p

    below : (i : ℕ) → has Y i ≡ true → i < n
    below i h = has_below n Y i bound h

    node : (i : ℕ) → has Y i ≡ true → i < nodes n
    node i h = omega (arith, below i h, k.valid.big)

    -- in the first, so not in the second
    out : (S S' : ℕ) → Apart n S S' → (m : Met Y S) → has S' m.taxon ≡ false
    out S S' h m = h m.taxon (node m.taxon m.in_Y) m.in_s

    -- in the second, so not in the first
    out' : (S S' : ℕ) → Apart n S S' → (m : Met Y S') → has S m.taxon ≡ false
    out' S S' h m = go (either (has S m.taxon))
      where
        go : Either (has S m.taxon) → has S m.taxon ≡ false
        go (inl u) =
            absurd (true≢false (sym m.in_s ∙ h m.taxon (node m.taxon m.in_Y) u))
        go (inr u) = u

    -- a member of Y is in the joined set where it is in one of the two
    two : {T : ℕ} (S S' : ℕ) (m : Met Y T) (u v : Bool)
        → has S m.taxon ≡ u
        → has S' m.taxon ≡ v
        → has (joined S S' p) m.taxon ≡ (u || v)
    two S S' m u v hu hv =
        let i = m.taxon in
        let no_Node = ne_eqb p i (λ w. omega (arith, below i m.in_Y, k.at_P.inner)) in
        has-joined S S' p i ∙ ap₂ ◌||◌ (ap₂ ◌||◌ hu hv) no_Node ∙ or-false (u || v)

    -- which of the four members are in row e's set before, and after
    before_A : has Z₀ mA.taxon ≡ true
    before_A = two A B mA true false mA.in_s (out A B apart_AB mA)

    before_B : has Z₀ mB.taxon ≡ true
    before_B = two A B mB false true (out' A B apart_AB mB) mB.in_s

    before_C : has Z₀ mC.taxon ≡ false
    before_C = two A B mC false false (out' A C apart_AC mC) (out' B C apart_BC mC)

    before_D : has Z₀ mD.taxon ≡ false
    before_D = two A B mD false false (out' A D apart_AD mD) (out' B D apart_BD mD)

    after_A : has Z₁ mA.taxon ≡ false
    after_A = two C B mA false false (out A C apart_AC mA) (out A B apart_AB mA)

    after_B : has Z₁ mB.taxon ≡ true
    after_B = two C B mB false true (out B C apart_BC mB) mB.in_s

    after_C : has Z₁ mC.taxon ≡ true
    after_C = two C B mC true false mC.in_s (out' B C apart_BC mC)

    after_D : has Z₁ mD.taxon ≡ false
    after_D = two C B mD false false (out' C D apart_CD mD) (out' B D apart_BD mD)

    -- no row of t' has row e's split: its set would cross that of row e of
    -- t'
    no_row : (r : ℕ) → r < rows n → num n t Y e ≡ num n t' Y r → ⊥
    no_row r h w =
        let e_after = e_parts k.at_P' (four_flip k four).on_P in
        let u = never_cross k.valid' h k.at_P.e_lt rp e_after in
        let v = corner u.0 u.1 (either (s_A ⊕ u.0)) in
        u.2 v.0 v.1 v.2 v.3
      where
        s : ℕ
        s = part n t' r (lo t' r)

        s_A : Bool
        s_A = has s mA.taxon

        rp : Parts n t' r s
        rp = row-parts k.valid'.big (tab' k) r h

        eqn : split n Y Z₀ ≡ split n Y s
        eqn =
            sym (num_e k.at_P hung_P k.valid Y bound)
            ∙ w
            ∙ row_num k.valid' Y bound h rp

        -- s parts a member from that of A where row e's set before does
        pairs : {T : ℕ} (m : Met Y T)
            → (has Z₀ mA.taxon ⊕ has Z₀ m.taxon) ≡ (s_A ⊕ has s m.taxon)
        pairs m = split-pairs n Y Z₀ s eqn mA.taxon m.taxon mA.in_Y m.in_Y

        s_B : has s mB.taxon ≡ s_A
        s_B = equal_of s_A (has s mB.taxon) (sym (pairs mB) ∙ ap₂ ◌⊕◌ before_A before_B)

        s_C : has s mC.taxon ≡ not s_A
        s_C = other_of s_A (has s mC.taxon) (sym (pairs mC) ∙ ap₂ ◌⊕◌ before_A before_C)

        s_D : has s mD.taxon ≡ not s_A
        s_D = other_of s_A (has s mD.taxon) (sym (pairs mD) ∙ ap₂ ◌⊕◌ before_A before_D)

        -- each of the four corners has a member
        corner : (u v : Bool) → Either ((s_A ⊕ u))
            → (i : ℕ) × (i < nodes n) × (has s i ≡ u) × (has Z₁ i ≡ v)
        corner u true (inl w) =
            (mC.taxon, node mC.taxon mC.in_Y, s_C ∙ sym (other_of s_A u w), after_C)
        corner u false (inl w) =
            (mD.taxon, node mD.taxon mD.in_Y, s_D ∙ sym (other_of s_A u w), after_D)
        corner u true (inr w) =
            (mB.taxon, node mB.taxon mB.in_Y, s_B ∙ sym (equal_of s_A u w), after_B)
        corner u false (inr w) =
            (mA.taxon, node mA.taxon mA.in_Y, sym (equal_of s_A u w), after_A)

    -- row e's split over Y is kept
    kept : some (num n t Y e) ≡ true
    kept =
        ap some (num_e k.at_P hung_P k.valid Y bound)
        ∙ kept_by n Y Z₀ mA.taxon mC.taxon mA.in_Y mC.in_Y before_A before_C

    -- so t' lacks the one split
    pub lacks_it : lacks (splits n t Y) (splits n t' Y) ≡ 1
    lacks_it =
        lacks_one z₀ (splits n t Y) (splits n t' Y) (splits_asc n t Y)
        (kept_in n t Y bound z₀ e k.at_P.e_lt kept refl)
        (gone (either (mem z₀ (splits n t' Y)))) others
      where
        z₀ : ℕ
        z₀ = num n t Y e

        gone : Either (mem z₀ (splits n t' Y)) → mem z₀ (splits n t' Y) ≡ false
        gone (inl w) =
            let v = kept_out n t' Y bound z₀ w in
            absurd (no_row v.row v.lt v.is)
        gone (inr w) = w

        others : (z : ℕ)
            → mem z (splits n t Y) ≡ true
            → (z ≡ z₀ → ⊥)
            → mem z (splits n t' Y) ≡ true
        others z m w =
            let v = kept_out n t Y bound z m in
            stays k Y z v.row bound v.lt (λ u. w (v.is ∙ ap (num n t Y) u)) v.kept v.is

-- ---- Proposition 1: where one of the four groups misses Y nothing changes,
-- and where all four meet Y one split is lost and one is new
module _ {n : ℕ} {t t' : List ℕ} {e : ℕ} {P Q : End} (k : Exchange n t t' e P Q)
    {A B C D : ℕ} (four : Four n t P Q A B C D) (Y : ℕ) (bound : Y < 2 ^ n) where
  pub exchange_same : OneMissed Y A B C D → dist n t t' Y ≡ 0
  unfolding dist_by
  exchange_same m =
      ap₂ ◌+◌ (lacks-none (splits n t Y) (splits n t' Y) (missed k four bound m))
      (lacks-none (splits n t' Y) (splits n t Y)
      (missed (flip k) (four_flip k four) bound (back m)))
    where
      back : OneMissed Y A B C D → OneMissed Y C B A D
      back (miss_A m) = miss_C m
      back (miss_B m) = miss_B m
      back (miss_C m) = miss_A m
      back (miss_D m) = miss_D m

  pub exchange_changed : AllMet Y A B C D → dist n t t' Y ≡ 2
  unfolding dist_by
  exchange_changed m =
      let back : AllMet Y C B A D
      = record { in_A = m.in_C; in_B = m.in_B; in_C = m.in_A; in_D = m.in_D } in
      ap₂ ◌+◌ (lacks_it k four Y bound m) (lacks_it (flip k) (four_flip k four) Y bound back)
