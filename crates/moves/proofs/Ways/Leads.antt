-- Which row at a node leads to row b, and that sets of taxa alone tell it: row
-- x leads to b where b's side parts the taxa beyond x. Assumes nothing.
use mathlib.Core.Path.{◌≡◌, refl, sym, ap, ap₂, ◌∙◌}
use mathlib.Core.Logic.{◌⊎◌, inl, inr}
use mathlib.Core.Bool.{Bool, true, false, not, ◌&&◌, ◌||◌}
use mathlib.Core.List.{List}
use Prim.Native.Nat.{ℕ, zero, suc, ◌≤◌, ◌<◌}
use native.Mathlib.Nat.{le_refl, mod-lt}
use native.Mathlib.Omega.{arith}
use lib.Dec.{eqb, ltb}
use lib.Bits.{bit_and}
use lib.Pow.{pow_pos}
use borrow.Author.Tests.{eqb-true, eqb-false, eq-eqb, ne_eqb, ltb-true, ltb-false}
use Rattle.taxa.specs.Sets.{pick, has, some, size, Sub}
use Rattle.taxa.proofs.Bools.{Either, either, not_both, not_self, and_left, and_right, and_both}
use Rattle.taxa.proofs.Bools.{and_false_r, or_cases, or_left, or_right, or_neither}
use Rattle.taxa.proofs.Sets.{has_and, has_below, some-has, some_zero, sub_and, none_zero}
use Rattle.taxa.proofs.Sizes.{size_less, size_pos}
use Rattle.tree.specs.Tree.{lo, hi, rows, nodes, far, part}
use Rattle.tree.specs.Splits.{side}
use Rattle.tree.proofs.Rounds.{part_start}
use Rattle.tree.proofs.Joins.{Joins, flat_join, lo-touch, hi-touch}
use Rattle.tree.proofs.Colourings.{Hangs, valid-table, row-parts, part-parts}
use Rattle.tree.proofs.Colourings.{two-sides, empty_corner}
use Rattle.tree.proofs.RowCounts.{Pair}
use Rattle.tree.proofs.Forks.{Fork, fork, fork_swap, hang_f, hang_g, node-side}
use Rattle.tree.proofs.Ends.{EndOf, Branch, end_joins, far_end, end_pair}
use Rattle.tree.proofs.Ends.{first_branch, second_branch, row_one}
use Rattle.tree.proofs.SplitLaws.{side-has}
use Rattle.moves.specs.Groups.{beyond, leads, onward, aside}
use Rattle.moves.proofs.Rows.Ends.{Apart, out-lo}
use Rattle.moves.proofs.Ways.Walk.{no_common}
use Rattle.moves.proofs.Ways.Found.{beyond-taxa, on-is, off_is}

-- ---- of the two other rows at v exactly one leads to a row b that lies with v
module _ {n : ℕ} {t : List ℕ} {e v f g : ℕ} (a : EndOf n t e v) (inner : n ≤ v)
    (K : Pair n t e v f g) {b : ℕ} (lb : b < rows n) where
  abbrev F : ℕ
  F = part n t f (far t f v)

  abbrev G : ℕ
  G = part n t g (far t g v)

  k : Fork n t v e f g (far t e v) (far t f v) (far t g v)
  k = fork a.valid a.row a.touch inner K

  low : lo t b < nodes n
  low = ((valid-table a.valid).ends b lb).0

  h_F : Hangs n t f v F
  h_F = hang_f a.valid a.row a.touch inner K

  h_G : Hangs n t g v G
  h_G = hang_g a.valid a.row a.touch inner K

  f_apart_g : Apart n F G
  f_apart_g = no_common k h_F h_G a.valid

  g_apart_f : Apart n G F
  g_apart_f = no_common (fork_swap k) h_G h_F a.valid

  not_both_lead : leads n t b v f ≡ true → leads n t b v g ≡ false
  unfolding leads
  not_both_lead h = go (or_cases (eqb f b) (has F (lo t b)) h)
    where
      f_out : has G (lo t f) ≡ false
      f_out =
          out-lo t f v (far t f v) G k.x_row h_G.out (h_G.parts.closed f K.f_lt k.xf)

      g_out : has F (lo t g) ≡ false
      g_out =
          out-lo t g v (far t g v) F k.f_row h_F.out
          (h_F.parts.closed g K.g_lt (λ y. k.xf (sym y)))

      go : (eqb f b ≡ true) ⊎ (has F (lo t b) ≡ true) → (eqb g b || has G (lo t b)) ≡ false
      go (inl w) =
          let d = eqb-true f b w in
          ap₂ ◌||◌ (ne_eqb g b (λ x. k.xf (d ∙ sym x)))
          (ap (λ (x : ℕ). has G (lo t x)) (sym d) ∙ f_out)
      go (inr w) =
          let gb : g ≡ b → ⊥
          = λ x. not_both (has F (lo t b)) w (ap (λ (y : ℕ). has F (lo t y)) (sym x) ∙ g_out) in
          ap₂ ◌||◌ (ne_eqb g b gb) (f_apart_g (lo t b) low w)

  one_leads : (b ≡ e → ⊥)
      → has (part n t e v) (lo t b) ≡ true
      → leads n t b v f ≡ false
      → leads n t b v g ≡ true
  unfolding leads
  one_leads be p h =
      go (either (eqb g b)) (or_cases (has F (lo t b) || has G (lo t b)) (eqb v (lo t b)) ahead)
    where
      no : (eqb f b ≡ false) × (has F (lo t b) ≡ false)
      no = or_neither (eqb f b) (has F (lo t b)) h

      ahead : (has F (lo t b) || has G (lo t b) || eqb v (lo t b)) ≡ true
      ahead = sym (node-side a.valid a.row a.touch inner K (lo t b) low) ∙ p

      go : Either (eqb g b) → ((has F (lo t b) || has G (lo t b)) ≡ true) ⊎ (eqb v (lo t b) ≡ true)
          → (eqb g b || has G (lo t b)) ≡ true
      go (inl w) y = or_left (eqb g b) (has G (lo t b)) w
      go (inr w) (inl y) =
          or_right (eqb g b) (has G (lo t b))
          (sym (ap (λ (x : Bool). x || has G (lo t b)) no.1) ∙ y)
      go (inr w) (inr y) =
          let only = k.only b lb be (λ d. eqb-false f b no.0 (sym d))
          (λ d. eqb-false g b w (sym d)) in
          absurd (only.0 (eqb-true v (lo t b) y))

-- ---- at v, come by row e, where b lies with v: the row that leads on, and the other
pub record Turn (n : ℕ) (t : List ℕ) (b e v on off : ℕ) : Type 0 where
  pub on_branch : Branch n t e v on
  pub off_branch : Branch n t e v off
  pub off_apart : Apart n (part n t off (far t off v)) (part n t on (far t on v))
  pub on-leads : leads n t b v on ≡ true
  pub off_not : leads n t b v off ≡ false

pub turn : {n : ℕ} {t : List ℕ} {b e v : ℕ} → EndOf n t e v → n ≤ v → b < rows n → (b ≡ e → ⊥)
    → has (part n t e v) (lo t b) ≡ true → Turn n t b e v (onward n t b v e) (aside n t b v e)
turn {n} {t} {b} {e} {v} a inner lb be p = go (leads n t b v f) refl
  where
    w : (f g : ℕ) × Pair n t e v f g
    w = end_pair a inner

    f : ℕ
    f = w.0

    g : ℕ
    g = w.1

    of : (l : Bool) → leads n t b v f ≡ l → Turn n t b e v (pick l f g) (pick l g f)
    of true h =
        record {
          on_branch = first_branch a inner w.2;
          off_branch = second_branch a inner w.2;
          off_apart = g_apart_f a inner w.2 lb;
          on-leads = h;
          off_not = not_both_lead a inner w.2 lb h;
        }
    of false h =
        record {
          on_branch = second_branch a inner w.2;
          off_branch = first_branch a inner w.2;
          off_apart = f_apart_g a inner w.2 lb;
          on-leads = one_leads a inner w.2 lb be p h;
          off_not = h;
        }

    go : (l : Bool) → leads n t b v f ≡ l → Turn n t b e v (onward n t b v e) (aside n t b v e)
    go l h =
        rw (on-is n t b e v f g w.2.list l h, off_is n t b e v f g w.2.list l h) (of l h)

-- ---- a taxon lies with each end of a row
record Taxon (n : ℕ) (t : List ℕ) (e v : ℕ) : Type 0 where
  i : ℕ
  lt : i < n
  within : has (part n t e v) i ≡ true

taxon-node : {n : ℕ} {t : List ℕ} {e v i : ℕ} → EndOf n t e v → i < n → i < nodes n
taxon-node a l = omega (arith, a.valid.big)

taxon_in : (j : ℕ) {n : ℕ} {t : List ℕ} {e v : ℕ}
    → EndOf n t e v
    → size (nodes n) (part n t e v) < j
    → Taxon n t e v
taxon_in zero a h = absurd (omega arith)
taxon_in (suc j) {n} {t} {e} {v} a h = go (λ r w b l. taxon_in j b l) (either (ltb v n))
  where
    go : ((r w : ℕ) → EndOf n t r w → size (nodes n) (part n t r w) < j → Taxon n t r w)
        → Either (ltb v n) → Taxon n t e v
    go ih (inl w) = record { i = v; lt = ltb-true v n w; within = part_start n t e v }
    go ih (inr w) =
        let inner = ltb-false v n w in
        let p = end_pair a inner in
        let r = first_branch a inner p.2 in
        let x = ih p.0 (far t p.0 v) (far_end r.at) (omega (arith, r.fall)) in
        let l = taxon-node a x.lt in
        record { i = x.i; lt = x.lt; within = r.within x.i l x.within }

some-taxon : {n : ℕ} {t : List ℕ} {e v : ℕ} → EndOf n t e v → Taxon n t e v
some-taxon {n} {t} {e} {v} a =
    let j = suc (size (nodes n) (part n t e v)) in taxon_in j a (le_refl j)

pub taxa_pos : {n : ℕ} {t : List ℕ} {e v : ℕ} → EndOf n t e v → 0 < size n (part n t e v)
taxa_pos {n} {t} {e} {v} a =
    let x = some-taxon a in size_pos n (part n t e v) x.i x.lt x.within

-- a turn leaves taxa behind: those beyond the row that does not lead on
pub taxa-less : {n : ℕ} {t : List ℕ} {b e v on off : ℕ}
    → Turn n t b e v on off
    → size n (part n t on (far t on v)) < size n (part n t e v)
taxa-less {n} {t} {e = e} {v = v} {on = on} T =
    let off = T.off_branch in
    let x = some-taxon (far_end off.at) in
    let l = taxon-node off.at x.lt in
    size_less n (part n t on (far t on v)) (part n t e v) x.i
    (λ j m. T.on_branch.within j (taxon-node off.at m)) x.lt
    (T.off_apart x.i l x.within) (off.within x.i l x.within)

-- ---- what rows e and b say of a node: each of the two lies on one side of the
-- other
same : (p q : Bool) → (p ≡ not q → ⊥) → p ≡ q
same true true h = refl
same true false h = absurd (h refl)
same false true h = absurd (h refl)
same false false h = refl

module _ {n : ℕ} {t : List ℕ} {e v : ℕ} (a : EndOf n t e v) {b : ℕ} (lb : b < rows n)
    (be : b ≡ e → ⊥) where
  -- the set on the side of b's smaller end
  abbrev B : ℕ → Bool
  B = has (part n t b (lo t b))

  -- row e does not leave b's side
  flat : B (lo t e) ≡ B (hi t e)
  flat =
      (row-parts a.valid.big (valid-table a.valid) b lb).closed e a.row (λ d. be (sym d))

  ends_same : B v ≡ B (far t e v)
  ends_same = flat_join t e v (far t e v) B (end_joins a) flat

  end_lo : B (lo t e) ≡ B v
  end_lo = go (end_joins a)
    where
      go : Joins t e v (far t e v) → B (lo t e) ≡ B v
      go (inl j) = ap B j.0
      go (inr j) = flat ∙ ap B j.1

  -- a node that row e parts from b is on v's side of b
  one_side : (i : ℕ)
      → i < nodes n
      → has (part n t e v) i ≡ not (has (part n t e v) (lo t b))
      → B i ≡ B v
  one_side i l p =
      let T = valid-table a.valid in
      let P = part-parts e v (far t e v) a.valid a.row (end_joins a) in
      let Q = row-parts a.valid.big T b lb in
      let eb : e ≡ b → ⊥ = λ d. be (sym d) in
      let none = empty_corner n t e b (part n t e v) (part n t b (lo t b)) T a.row lb eb P Q in
      same (B i) (B (lo t e)) (none i l p) ∙ end_lo

  -- where b lies with v, v is no taxon
  pub not_taxon : has (part n t e v) (lo t b) ≡ true → n ≤ v
  not_taxon p = go (either (ltb v n))
    where
      go : Either (ltb v n) → n ≤ v
      go (inl w) = absurd (be (row_one a (ltb-true v n w) b lb p))
      go (inr w) = ltb-false v n w

-- ---- where b lies with v, taxa on both sides of b do; a taxon that lies with
-- v, on b's side or not as d says
record On (n : ℕ) (t : List ℕ) (b e v : ℕ) (d : Bool) : Type 0 where
  i : ℕ
  lt : i < n
  with_v : has (part n t e v) i ≡ true
  side : has (part n t b (lo t b)) i ≡ d

module _ {n : ℕ} {t : List ℕ} {e v : ℕ} (a : EndOf n t e v) {b : ℕ} (lb : b < rows n)
    (be : b ≡ e → ⊥) (p : has (part n t e v) (lo t b) ≡ true) where
  -- on v's side: one beyond the row that does not lead to b
  near-taxon : On n t b e v (has (part n t b (lo t b)) v)
  unfolding leads
  near-taxon =
      let T = turn a (not_taxon a lb be p) lb be p in
      let h = aside n t b v e in
      let r = T.off_branch in
      let no = or_neither (eqb h b) (has (part n t h (far t h v)) (lo t b)) T.off_not in
      let bh : b ≡ h → ⊥ = λ d. eqb-false h b no.0 (sym d) in
      let x = some-taxon (far_end r.at) in
      let l = taxon-node a x.lt in
      let on-side = one_side (far_end r.at) lb bh x.i l (x.within ∙ sym (ap not no.1)) in
      record {
        i = x.i;
        lt = x.lt;
        with_v = r.within x.i l x.within;
        side = on-side ∙ sym (ends_same r.at lb bh);
      }

  -- on the other side
  far-taxon : On n t b e v (not (has (part n t b (lo t b)) v))
  far-taxon = go (has (part n t b (lo t b)) v) refl
    where
      lies : (c : Bool) (i : ℕ)
          → has (part n t b (lo t b)) v ≡ c
          → i < n
          → has (part n t b (lo t b)) i ≡ not c
          → has (part n t e v) i ≡ true
      lies c i h l q =
          same (has (part n t e v) i) true (λ w.
          not_self c (sym h ∙ sym (one_side a lb be i (taxon-node a l) (w ∙ sym (ap not p))) ∙ q))

      go : (c : Bool) → has (part n t b (lo t b)) v ≡ c → On n t b e v (not c)
      go true h =
          let x = some-taxon (record { valid = a.valid; row = lb; touch = hi-touch t b }) in
          let sides = two-sides b (hi t b) (lo t b) a.valid lb (inr (refl, refl)) in
          let q : has (part n t b (lo t b)) x.i ≡ false
          = sides x.i (taxon-node a x.lt) ∙ ap not x.within in
          record { i = x.i; lt = x.lt; with_v = lies true x.i h x.lt q; side = q }
      go false h =
          let x = some-taxon (record { valid = a.valid; row = lb; touch = lo-touch t b }) in
          record {
            i = x.i;
            lt = x.lt;
            with_v = lies false x.i h x.lt x.within;
            side = x.within;
          }

-- ---- the test: of the taxa y some are in s, and some are not
unfoldable pub parts : ℕ → ℕ → Bool
parts y s = some (bit_and y s) && not (eqb (bit_and y s) y)

parts-yes : (y s i j : ℕ)
    → has y i ≡ true
    → has s i ≡ true
    → has y j ≡ true
    → has s j ≡ false
    → parts y s ≡ true
unfolding parts
parts-yes y s i j yi si yj sj =
    let j_lost : bit_and y s ≡ y → ⊥ = λ d.
    not_both (has y j) yj (ap (λ (z : ℕ). has z j) (sym d) ∙ has_and y s j ∙ ap₂ ◌&&◌ yj sj) in
    and_both (some (bit_and y s)) (not (eqb (bit_and y s) y))
    (some-has (bit_and y s) i (has_and y s i ∙ ap₂ ◌&&◌ yi si))
    (ap not (ne_eqb (bit_and y s) y j_lost))

parts_no : (y s : ℕ) (c : Bool) → ((i : ℕ) → has y i ≡ true → has s i ≡ c) → parts y s ≡ false
unfolding parts Sub
parts_no y s true h =
    ap (λ (z : Bool). some (bit_and y s) && not z) (eq-eqb (bit_and y s) y (sub_and y s h))
    ∙ and_false_r (some (bit_and y s))
parts_no y s false h =
    ap (λ (z : ℕ). some z && not (eqb z y)) (none_zero (bit_and y s) (λ i q.
    let w = sym (has_and y s i) ∙ q in
    not_both (has s i) (and_right (has y i) (has s i) w) (h i (and_left (has y i) (has s i) w))))
    ∙ ap (λ (z : Bool). z && not (eqb 0 y)) some_zero

beyond-low : (n : ℕ) (t : List ℕ) (v x i : ℕ) → has (beyond n t v x) i ≡ true → i < n
unfolding beyond
beyond-low n t v x i h =
    has_below n (beyond n t v x) i (mod-lt (part n t x (far t x v)) (pow_pos n)) h

module _ {n : ℕ} {t : List ℕ} {x v : ℕ} (a : EndOf n t x v) {b : ℕ} (lb : b < rows n)
    (bx : b ≡ x → ⊥) where
  abbrev X : ℕ
  X = beyond n t v x

  abbrev S : ℕ
  S = side n t b

  test_in : has (part n t x (far t x v)) (lo t b) ≡ true → parts X S ≡ true
  test_in p =
      go (has (part n t b (lo t b)) (far t x v)) (near-taxon (far_end a) lb bx p)
      (far-taxon (far_end a) lb bx p)
    where
      both : On n t b x (far t x v) true → On n t b x (far t x v) false → parts X S ≡ true
      both y z =
          parts-yes X S y.i z.i
          (beyond-taxa n t v x y.i y.lt ∙ y.with_v)
          (side-has n t b y.i y.lt ∙ y.side)
          (beyond-taxa n t v x z.i z.lt ∙ z.with_v)
          (side-has n t b z.i z.lt ∙ z.side)

      go : (c : Bool) → On n t b x (far t x v) c → On n t b x (far t x v) (not c) → parts X S ≡ true
      go true y z = both y z
      go false y z = both z y

  test_out : has (part n t x (far t x v)) (lo t b) ≡ false → parts X S ≡ false
  test_out p =
      parts_no X S (has (part n t b (lo t b)) (far t x v)) (λ i h.
      let l = beyond-low n t v x i h in
      let out = sym (beyond-taxa n t v x i l) ∙ h ∙ sym (ap not p) in
      side-has n t b i l ∙ one_side (far_end a) lb bx i (taxon-node a l) out)

  -- another row x leads to b where b lies beyond it, and there b's side parts
  -- the taxa beyond x
  pub leads-beyond : leads n t b v x ≡ has (part n t x (far t x v)) (lo t b)
  unfolding leads
  leads-beyond =
      ap (λ (c : Bool). c || has (part n t x (far t x v)) (lo t b)) (ne_eqb x b (λ d. bx (sym d)))

  pub leads-parts : parts X S ≡ leads n t b v x
  leads-parts = go (has (part n t x (far t x v)) (lo t b)) refl ∙ sym leads-beyond
    where
      go : (c : Bool)
          → has (part n t x (far t x v)) (lo t b) ≡ c
          → parts X S ≡ has (part n t x (far t x v)) (lo t b)
      go true p = test_in p ∙ sym p
      go false p = test_out p ∙ sym p
