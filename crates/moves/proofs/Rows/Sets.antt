-- The sets of nodes that one row alone leaves: any two of them have the same
-- nodes or no node in common; a row's side from any of them.
-- Assumes nothing.
use mathlib.Core.Path.{◌≡◌, refl, sym, ap, ◌∙◌}
use mathlib.Core.Logic.{inl, inr}
use mathlib.Core.Bool.{Bool, true, false, not, ◌&&◌, not-not}
use mathlib.Core.List.{List}
use Prim.Native.Nat.{ℕ, ◌^◌, ◌%◌, ◌<◌}
use native.Mathlib.Omega.{arith}
use lib.Dec.{ltb}
use borrow.Author.Tests.{ltb-true}
use Rattle.taxa.specs.Sets.{pick, has, less, full}
use Rattle.taxa.proofs.Bools.{Either, either, not_self, ◌⊕◌, xor_at_true}
use Rattle.taxa.proofs.Sets.{has-less, has_mod, has_ones, ext}
use Rattle.tree.specs.Tree.{lo, hi, rows, nodes, part, Valid}
use Rattle.tree.specs.Splits.{side}
use Rattle.tree.proofs.Rounds.{part_start}
use Rattle.tree.proofs.Bridges.{Table}
use Rattle.tree.proofs.Colourings.{Parts, parts_unique, valid-table, row-parts}

module _ {n : ℕ} {t : List ℕ} {e S S' : ℕ} (vt : Valid n t) (a : Parts n t e S)
    (b : Parts n t e S') where
  -- two nodes that one set of the row does not part no set of it parts
  pub agree : (i j : ℕ) → i < nodes n → j < nodes n → has S' i ≡ has S' j → has S i ≡ has S j
  agree i j li lj h =
      let w = parts_unique vt.connected vt.big a b in
      w.1 i li ∙ ap (λ (x : Bool). w.0 ⊕ x) h ∙ sym (w.1 j lj)

  -- two sets of the row that both hold a node, or both not, have the same
  -- nodes
  pub alike : (v : ℕ)
      → v < nodes n
      → has S v ≡ has S' v
      → (i : ℕ) → i < nodes n
      → has S i ≡ has S' i
  alike v lv h i l =
      let w = parts_unique vt.connected vt.big a b in
      w.1 i l ∙ ap (λ (d : Bool). d ⊕ has S' i) (one w.0 (has S' v) (sym h ∙ w.1 v lv))
    where
      one : (d x : Bool) → x ≡ (d ⊕ x) → d ≡ false
      one true x q = absurd (not_self x q)
      one false x q = refl

-- a set with the same nodes as one of the row is one of the row
pub parts_same : {n : ℕ} {t : List ℕ} {e S S' : ℕ}
    → Valid n t
    → e < rows n
    → ((i : ℕ) → i < nodes n → has S' i ≡ has S i)
    → Parts n t e S
    → Parts n t e S'
parts_same {n} {t} {e} vt le h q = record {
  apart = h (lo t e) (ends e le).0 ∙ q.apart ∙ sym (ap not (h (hi t e) (ends e le).1));
  closed = λ r l d. h (lo t r) (ends r l).0 ∙ q.closed r l d ∙ sym (h (hi t r) (ends r l).1);
}
  where
    ends : (r : ℕ) → r < rows n → (lo t r < nodes n) × (hi t r < nodes n)
    ends = (valid-table vt).ends

-- the side of a row, from any set of it: its taxa where it holds the smaller
-- end, otherwise all other taxa
pub side-from : {n : ℕ} {t : List ℕ} {e S : ℕ}
    → Valid n t
    → e < rows n
    → Parts n t e S
    → side n t e ≡ pick (has S (lo t e)) (S % 2 ^ n) (less (full n) S)
unfolding side
side-from {n} {t} {e} {S} vt le q = go (has S (lo t e)) (xor_at_true w.0 (has S (lo t e)) at-lo)
  where
    tab : Table n t
    tab = valid-table vt

    L : ℕ
    L = part n t e (lo t e)

    w : (d : Bool) × ((i : ℕ) → i < nodes n → has S i ≡ (d ⊕ has L i))
    w = parts_unique vt.connected vt.big q (row-parts vt.big tab e le)

    at-lo : (w.0 ⊕ true) ≡ has S (lo t e)
    at-lo =
        ap (λ (x : Bool). w.0 ⊕ x) (sym (part_start n t e (lo t e)))
        ∙ sym (w.1 (lo t e) (tab.ends e le).0)

    node : (i : ℕ) → ltb i n ≡ true → i < nodes n
    node i l = omega (arith, ltb-true i n l, vt.big)

    same : (i : ℕ) → ltb i n ≡ true → has S i ≡ (w.0 ⊕ has L i)
    same i l = w.1 i (node i l)

    go : (c : Bool) → w.0 ≡ not c → L % 2 ^ n ≡ pick c (S % 2 ^ n) (less (full n) S)
    go true d =
        ext (L % 2 ^ n) (S % 2 ^ n)
        (λ i. has_mod n L i ∙ at i (either (ltb i n)) ∙ sym (has_mod n S i))
      where
        at : (i : ℕ) → Either (ltb i n) → (ltb i n && has L i) ≡ (ltb i n && has S i)
        at i (inl l) = rw l (sym (same i l ∙ ap (λ (x : Bool). x ⊕ has L i) d))
        at i (inr l) = rw l
    go false d =
        ext (L % 2 ^ n) (less (full n) S) (λ i.
        has_mod n L i
        ∙ at i (either (ltb i n))
        ∙ sym (has-less (full n) S i ∙ ap (λ (x : Bool). x && not (has S i)) (has_ones n i)))
      where
        at : (i : ℕ) → Either (ltb i n) → (ltb i n && has L i) ≡ (ltb i n && not (has S i))
        at i (inl l) =
            rw l (sym (ap not (same i l ∙ ap (λ (x : Bool). x ⊕ has L i) d)
            ∙ not-not (has L i)))
        at i (inr l) = rw l
