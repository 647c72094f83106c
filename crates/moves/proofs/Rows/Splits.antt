-- The splits of a table are those of sets that its rows part, and no two of
-- them cross. Assumes nothing.
use mathlib.Core.Path.{◌≡◌, refl, sym, ap, ◌∙◌}
use mathlib.Core.Bool.{Bool, true, false, not, not-not}
use mathlib.Core.List.{List}
use Prim.Native.Nat.{ℕ, ◌^◌, ◌<◌}
use native.Mathlib.Omega.{arith}
use Rattle.taxa.specs.Sets.{has, some}
use Rattle.taxa.proofs.Bools.{◌⊕◌, xor_twice}
use Rattle.taxa.proofs.Sets.{has_below}
use Rattle.tree.specs.Tree.{lo, rows, nodes, part, Valid}
use Rattle.tree.specs.Lists.{mem}
use Rattle.tree.specs.Splits.{split, splits}
use Rattle.tree.proofs.Colourings.{Parts, row-parts, valid-table, never_cross}
use Rattle.tree.proofs.SplitLaws.{split_eq, split-pairs, num, num_of, kept_in, kept_out}

-- some row of t parts the taxa as c does
pub record Row (n : ℕ) (t : List ℕ) (c : ℕ → Bool) : Type 0 where
  pub row : ℕ
  pub set : ℕ
  pub lt : row < rows n
  pub parts : Parts n t row set
  pub is : (i : ℕ) → i < n → has set i ≡ c i

pub row_eq : {n : ℕ} {t : List ℕ} (c d : ℕ → Bool)
    → ((i : ℕ) → i < n → c i ≡ d i)
    → Row n t c
    → Row n t d
row_eq c d h r = record {
  row = r.row;
  set = r.set;
  lt = r.lt;
  parts = r.parts;
  is = λ i l. r.is i l ∙ h i l;
}

-- a taxon of y that is in s or not as p says, and in s' or not as q says
pub record Corner (y s s' : ℕ) (p q : Bool) : Type 0 where
  pub taxon : ℕ
  pub in_y : has y taxon ≡ true
  pub s_is : has s taxon ≡ p
  pub s'_is : has s' taxon ≡ q

-- each of the four corners of s and s' meets y
abbrev pub Corners : ℕ → ℕ → ℕ → Type 0
Corners y s s' = (p q : Bool) → Corner y s s' p q

module _ {n : ℕ} {t : List ℕ} (vt : Valid n t) (y : ℕ) (bound : y < 2 ^ n) where
  -- a row's split is that of any set that the row parts
  pub row_num : {r S : ℕ} → r < rows n → Parts n t r S → num n t y r ≡ split n y S
  row_num {r} {S} l q = num_of vt.big (valid-table vt) y r S bound l q

  -- a set that parts y as a row does, up to the complement, has its split on
  -- the list
  pub row-mem : {c : ℕ → Bool} (s : ℕ) (d : Bool)
      → Row n t c
      → ((i : ℕ) → has y i ≡ true → has s i ≡ (d ⊕ c i))
      → some (split n y s) ≡ true → mem (split n y s) (splits n t y) ≡ true
  row-mem {c} s d R h p =
      let as_c : (i : ℕ) → has y i ≡ true → c i ≡ has R.set i
      = λ i yi. sym (R.is i (has_below n y i bound yi)) in
      let same = split_eq n y s R.set bound d
      (λ i yi. h i yi ∙ ap (λ (x : Bool). d ⊕ x) (as_c i yi)) in
      kept_in n t y bound (split n y s) R.row R.lt p (same ∙ sym (row_num R.lt R.parts))

  -- so a split that is that of a row's set is on the list
  pub split-mem : (x S : ℕ) → some x ≡ true → x ≡ split n y S → Row n t (has S)
      → mem x (splits n t y) ≡ true
  split-mem x S q e R =
      ap (λ (v : ℕ). mem v (splits n t y)) e
      ∙ row-mem S false R (λ i yi. refl) (ap some (sym e) ∙ q)

  -- a split of the table comes from a row's set
  record Of (s : ℕ) : Type 0 where
    r : ℕ
    S : ℕ
    lt : r < rows n
    parts : Parts n t r S
    same : split n y s ≡ split n y S

  of : (s : ℕ) → mem (split n y s) (splits n t y) ≡ true → Of s
  of s m =
      let v = kept_out n t y bound (split n y s) m in
      let r = v.row in
      let S = part n t r (lo t r) in
      let q = row-parts vt.big (valid-table vt) r v.lt in
      record { r = r; S = S; lt = v.lt; parts = q; same = v.is ∙ row_num v.lt q }

  -- that set is s up to the complement, as far as y goes
  like : {s : ℕ} (R : Of s) (i₀ : ℕ)
      → has y i₀ ≡ true
      → has s i₀ ≡ true
      → (i : ℕ) → has y i ≡ true
      → has R.S i ≡ (not (has R.S i₀) ⊕ has s i)
  like {s} R i₀ y₀ s₀ i yi =
      go (has s i) (has R.S i₀) (has R.S i)
      (ap (λ (x : Bool). x ⊕ has s i) (sym s₀) ∙ split-pairs n y s R.S R.same i₀ i y₀ yi)
    where
      go : (x y z : Bool) → not x ≡ (y ⊕ z) → z ≡ (not y ⊕ x)
      go x true z e = sym (not-not z) ∙ ap not (sym e) ∙ not-not x
      go x false z e = sym e

  -- no two of its splits cross
  pub no_cross : (s s' : ℕ)
      → mem (split n y s) (splits n t y) ≡ true
      → mem (split n y s') (splits n t y) ≡ true
      → Corners y s s'
      → ⊥
  no_cross s s' m m' cs =
      let c = never_cross vt R.lt R'.lt R.parts R'.parts in
      let w = all c.0 c.1 in
      c.2 w.0 w.1 w.2 w.3
    where
      R : Of s
      R = of s m

      R' : Of s'
      R' = of s' m'

      i₀ : ℕ
      i₀ = (cs true true).taxon

      y₀ : has y i₀ ≡ true
      y₀ = (cs true true).in_y

      d : Bool
      d = not (has R.S i₀)

      d' : Bool
      d' = not (has R'.S i₀)

      all : (u v : Bool) → (i : ℕ) × (i < nodes n) × (has R.S i ≡ u) × (has R'.S i ≡ v)
      all u v =
          let c = cs (d ⊕ u) (d' ⊕ v) in
          let i = c.taxon in
          let S_is = like R i₀ y₀ (cs true true).s_is i c.in_y in
          let S'_is = like R' i₀ y₀ (cs true true).s'_is i c.in_y in (
            i,
            omega (arith, has_below n y i bound c.in_y),
            S_is ∙ ap (λ (x : Bool). d ⊕ x) c.s_is ∙ xor_twice d u,
            S'_is ∙ ap (λ (x : Bool). d' ⊕ x) c.s'_is ∙ xor_twice d' v,
          )
