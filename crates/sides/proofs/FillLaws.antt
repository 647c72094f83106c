-- Laws for the array of sides: how one side is read, and how it is stored.
-- Assumes nothing.
use mathlib.Core.Path.{◌≡◌, refl, sym, ap, ap₂, ◌∙◌}
use mathlib.Core.Logic.{◌⊎◌, inl, inr}
use mathlib.Core.Bool.{Bool, true, false, not, ◌&&◌}
use mathlib.Core.List.{List, [], ◌∷◌}
use Prim.Native.Nat.{ℕ, ◌^◌, ◌%◌, ◌≤◌}
use lib.Dec.{eqb, ltb}
use lib.ListN.{set}
use lib.Bits.{bit_or, or_comm}
use borrow.Author.Tests.{eqb-true, eqb-false}
use Rattle.taxa.specs.Sets.{less, full, has}
use Rattle.taxa.proofs.Bools.{Either, either}
use Rattle.taxa.proofs.Sets.{has-less, has_mod, has_ones, ext}
use Rattle.tree.specs.Tree.{lo, far, part, Valid}
use Rattle.tree.specs.Splits.{side}
use Rattle.tree.proofs.Joins.{joins_differ}
use Rattle.tree.proofs.RowCounts.{Pair, pair_of}
use Rattle.tree.proofs.Forks.{taxa_both}
use Rattle.tree.proofs.Ends.{EndOf, end_joins, end_node, far_end, side-lo, side-hi}
use Rattle.table.proofs.Ends.{told_other}
use Rattle.node_rows.specs.Between.{up, first, second, Meet, Near, OtherTwo}
use Rattle.node_rows.proofs.NearLaws.{near-others, meet_pair}
use Rattle.sides.specs.Between.{At, noted, Behind}

-- ---- an end, as a call has it
pub at_end : {n : ℕ} {t : List ℕ} {e v : ℕ} → At n t e v → EndOf n t e v
at_end a = record { valid = a.good.valid; row = a.row; touch = a.touch }

-- ---- the two rows that the code takes at an inner end
pub two : {n : ℕ} {t near : List ℕ} {e v f g : ℕ} → EndOf n t e v → Near n t near → n ≤ v
    → OtherTwo e near v f g
    → Pair n t e v f g
two {n} {t} {near} {e} {v} {f} {g} a N inner o =
    pair_of e v f g a.valid a.row a.touch inner (end_node a)
    (near-others a.valid N a.row a.touch inner
    ∙ sym (ap₂ (λ (x y : ℕ). x ∷ y ∷ []) o.first o.second))

-- ---- the taxa with the other end, from the side
less_twice : (n s : ℕ) → less (full n) (less (full n) (s % 2 ^ n)) ≡ s % 2 ^ n
less_twice n s = ext (less (full n) (less (full n) (s % 2 ^ n))) (s % 2 ^ n) (λ i.
    has-less (full n) (less (full n) (s % 2 ^ n)) i
    ∙ ap₂ (λ (p q : Bool). p && not q) (has_ones n i) (has-less (full n) (s % 2 ^ n) i
    ∙ ap₂ (λ (p q : Bool). p && not q) (has_ones n i) (has_mod n s i))
    ∙ bools (ltb i n) (has s i) ∙ sym (has_mod n s i))
  where
    bools : (p q : Bool) → (p && not (p && not (p && q))) ≡ (p && q)
    bools true true = refl
    bools true false = refl
    bools false q = refl

-- u is the smaller end of row x, and y its side
module _ {n : ℕ} {t : List ℕ} {v x u y : ℕ} (a : At n t x v) (h : u ≡ lo t x)
    (hy : y ≡ side n t x) where
  pub across_lo : u ≡ v → less (full n) y ≡ part n t x (far t x v) % 2 ^ n
  across_lo d =
      let E = at_end a in
      let apart : lo t x ≡ far t x v → ⊥ = λ w.
      joins_differ x E.valid E.row v (far t x v) (end_joins E) (sym d ∙ h ∙ w) in
      ap (less (full n)) (hy ∙ sym (side-hi (far_end E) apart))
      ∙ less_twice n (part n t x (far t x v))

  pub across_hi : (u ≡ v → ⊥) → y ≡ part n t x (far t x v) % 2 ^ n
  unfolding far side
  across_hi d = hy ∙ rw (told_other h d)

-- ---- what is stored is the side
pub noted-side : {n : ℕ} {t : List ℕ} {e v s : ℕ} → EndOf n t e v → s ≡ part n t e v % 2 ^ n
    → noted n t e v s ≡ side n t e
noted-side {n} {t} {e} {v} {s} A h = go (either (eqb (lo t e) v))
  where
    go : Either (eqb (lo t e) v) → noted n t e v s ≡ side n t e
    go (inl w) = rw w (h ∙ side-lo A (eqb-true (lo t e) v w))
    go (inr w) = rw w (ap (less (full n)) h ∙ side-hi A (eqb-false (lo t e) v w))

-- ---- at one node the side of the row that leads on is stored: the taxa across
-- the two rows behind are those with the node
pub gathered_here : {n : ℕ} {t a s s' : List ℕ} {v p q : ℕ} → Behind n t a s v
    → p ≡ part n t (first a v) (far t (first a v) v) % 2 ^ n
    → q ≡ part n t (second a v) (far t (second a v) v) % 2 ^ n
    → s' ≡ set s (up a v) (noted n t (up a v) v (bit_or p q))
    → s' ≡ set s (up a v) (side n t (up a v))
gathered_here {n} {t} {a} {s} {v = v} {p} {q} B hp hq h =
    h ∙ ap (set s (up a v)) (noted-side (record { valid = vt; row = m.x_lt; touch = m.x_at })
    (go (meet_pair vt B.inner m)))
  where
    m : Meet n t v (up a v) (first a v) (second a v)
    m = B.meet

    vt : Valid n t
    vt = B.good.valid

    go : Pair n t (up a v) v (first a v) (second a v)
        ⊎ Pair n t (up a v) v (second a v) (first a v)
        → bit_or p q ≡ part n t (up a v) v % 2 ^ n
    go (inl P) = ap₂ bit_or hp hq ∙ taxa_both vt m.x_lt m.x_at B.inner P
    go (inr P) = or_comm p q ∙ ap₂ bit_or hq hp ∙ taxa_both vt m.x_lt m.x_at B.inner P
