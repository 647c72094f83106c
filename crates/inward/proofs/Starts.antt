-- All rows are mixed in, one after the other, and then the search for an order
-- starts. Assumes nothing.
use mathlib.Core.Path.{◌≡◌, refl, ap, ◌∙◌}
use mathlib.Core.Logic.{inl, inr}
use mathlib.Core.Bool.{Bool, true, false, ◌||◌}
use mathlib.Core.List.{List}
use Prim.Native.Nat.{ℕ, ◌+◌, ◌*◌, ◌≤◌, ◌<◌}
use native.Mathlib.Numerals.{add-one}
use native.Mathlib.Omega.{arith}
use lib.Bits.{bit_xor}
use lib.Dec.{eqb}
use lib.ListN.{length, get_or, length-set, length-replicate, get_or-replicate}
use lib.Seq.{get_or-set_same, get_or-set_other}
use borrow.Author.Tests.{eqb-true, eqb-false}
use Rattle.taxa.specs.Most.{most}
use Rattle.taxa.specs.Sets.{pick}
use Rattle.taxa.proofs.Bools.{Either, either}
use Rattle.tree.specs.Tree.{lo, hi, rows, nodes, touches}
use Rattle.tree.proofs.RowCounts.{but, count-drop, count_zero}
use Rattle.table.specs.Between.{Ordered, Rowed}
use Rattle.table.proofs.Ends.{lo-node, hi-node}
use Rattle.node_rows.specs.Between.{free, no_rows, up}
use Rattle.inward.specs.Search.{mix_of, mixed, Mixed, State, fresh, is_full, Climbs}
use Rattle.inward.proofs.Mixes.{mix_drop, mix_none}
use Rattle.inward.proofs.Meets.{meet-mixed}
use Rattle.inward.proofs.Counts.{not_full}

-- ---- rows are mixed in, one after the other
length-mixed : (a : List ℕ) (v r : ℕ) → length (mixed a v r) ≡ length a
length-mixed a v r = length-set a (4 * v) (bit_xor (up a v) r)

-- it shows in the first place of its node alone
other_mixed : (a : List ℕ) (v r s : ℕ) → (s ≡ 4 * v → ⊥) → get_or (mixed a v r) s 0 ≡ get_or a s 0
other_mixed a v r s = get_or-set_other a (4 * v) s (bit_xor (up a v) r) 0

up-mixed : (a : List ℕ) (v w r : ℕ) → 4 * v < length a
    → up (mixed a v r) w ≡ pick (eqb v w) (bit_xor (up a w) r) (up a w)
up-mixed a v w r h = go (either (eqb v w))
  where
    go : Either (eqb v w) → up (mixed a v r) w ≡ pick (eqb v w) (bit_xor (up a w) r) (up a w)
    go (inl e) = rw (e, ← eqb-true v w e) (get_or-set_same a (4 * v) (bit_xor (up a v) r) 0 h)
    go (inr e) = rw e (other_mixed a v r (4 * w) (λ d. eqb-false v w e (omega arith)))

-- no row yet
pub mixed-none : {n : ℕ} {t : List ℕ} → n ≤ most → Mixed n t no_rows 0
unfolding mix_of
mixed-none {n} {t} h = record {
  room = length-replicate {A = ℕ} (4 * nodes most) free;
  rows_in = λ v l. get_or-replicate {A = ℕ} (4 * nodes most) (4 * v) free 0 (omega arith);
  firsts = λ v l. get_or-replicate {A = ℕ} (4 * nodes most) (4 * v + 1) free 0 (omega arith);
  seconds = λ v l. get_or-replicate {A = ℕ} (4 * nodes most) (4 * v + 2) free 0 (omega arith);
}

-- row i, at both its ends
module _ {n : ℕ} {t a : List ℕ} {i u v : ℕ} (o : Ordered n t) (li : i < rows n)
    (hu : u ≡ lo t i) (hv : v ≡ hi t i) (M : Mixed n t a i) where
  abbrev once : List ℕ
  once = mixed a u i

  kept : (s : ℕ) → (s ≡ 4 * u → ⊥) → (s ≡ 4 * v → ⊥) → get_or (mixed once v i) s 0 ≡ get_or a s 0
  kept s d e = other_mixed once v i s e ∙ other_mixed a u i s d

  up_more : (w : ℕ) → up (mixed once v i) w
      ≡ pick (touches t i w) (bit_xor (up a w) i) (up a w)
  up_more w =
      up-mixed once v w i (omega (arith, length-mixed a u i, hi-node o li hv, M.room))
      ∙ rw (up-mixed a u w i (omega (arith, lo-node o li hu, M.room)), hu, hv)
      (go (eqb (lo t i) w) (eqb (hi t i) w) refl refl)
    where
      go : (p q : Bool) → eqb (lo t i) w ≡ p → eqb (hi t i) w ≡ q
          → pick q (bit_xor (pick p (bit_xor (up a w) i) (up a w)) i)
          (pick p (bit_xor (up a w) i) (up a w))
          ≡ pick (p || q) (bit_xor (up a w) i) (up a w)
      go true true x y = absurd (omega (
        arith,
        (o.order i li).0,
        eqb-true (lo t i) w x,
        eqb-true (hi t i) w y,
      ))
      go true false x y = refl
      go false true x y = refl
      go false false x y = refl

  pub mixed_more : Mixed n t (mixed (mixed a u i) v i) (i + 1)
  unfolding mix_of
  mixed_more = record {
    room = length-mixed once v i ∙ length-mixed a u i ∙ M.room;
    rows_in = λ w l. up_more w ∙ rw (add-one i, M.rows_in w l);
    firsts = λ w l. kept (4 * w + 1) (λ d. omega arith) (λ d. omega arith) ∙ M.firsts w l;
    seconds = λ w l. kept (4 * w + 2) (λ d. omega arith) (λ d. omega arith) ∙ M.seconds w l;
  }

-- ---- the search starts
module _ {n : ℕ} {t a : List ℕ} (R : Rowed n t) (M : Mixed n t a (rows n)) where
  -- a taxon's row is its only one
  taxon-mixed : (u r : ℕ) → u < n → r < rows n → touches t r u ≡ true → up a u ≡ bit_xor free r
  taxon-mixed u r l h p =
      let P : ℕ → Bool = λ q. touches t q u in
      M.rows_in u (omega (arith, R.ordered.big)) ∙ mix_drop P r (rows n) p h
      ∙ ap (λ (x : ℕ). bit_xor x r) (mix_none (but P r) (rows n)
      (omega (arith, count-drop P r (rows n) p h, R.leaf u l)))

  -- no row has come to an inner node
  fresh-all : (u : ℕ) → n ≤ u → u < nodes n → State n t a 1 0 0 u
  fresh-all u h l =
      let (x, y, z, N, e) = meet-mixed (R.inner u h l) in
      fresh x y z N (M.rows_in u l ∙ e) (M.firsts u l) (M.seconds u l)

  -- all rows are mixed in, and none is taken
  pub mixed_start : Climbs n t a 1 0 0
  mixed_start = record {
    room = M.room;
    taxon = taxon-mixed;
    order = record {
      inner = λ j l. absurd (omega arith);
      once = λ h j l. absurd (omega arith);
      meets = λ j l. absurd (omega arith);
      behind_first = λ j l. absurd (omega arith);
      behind_second = λ j l. absurd (omega arith);
    };
    state = fresh-all;
    counted = count_zero (is_full n a) (nodes n) (λ u l. not_full n a u (M.seconds u l));
    taxa-given = λ u r h l. absurd (omega arith);
    nodes-given = λ j l. absurd (omega arith);
  }
