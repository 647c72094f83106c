-- Where Y has two taxa and x is one more, some split over Y comes from two
-- rows that x tells apart.
-- The walk goes from x away to the first node at which Y is parted: its two
-- rows ahead are the two. Assumes nothing.
use mathlib.Core.Path.{◌≡◌, refl, sym, ap, ap₂, ◌∙◌}
use mathlib.Core.Logic.{◌⊎◌, inl, inr}
use mathlib.Core.Bool.{Bool, true, false, not, ◌&&◌, ◌||◌, true≢false, or-false}
use mathlib.Core.List.{List}
use Prim.Native.Nat.{ℕ, zero, suc, ◌≤◌, ◌<◌}
use native.Mathlib.Nat.{le_refl}
use native.Mathlib.Omega.{arith}
use lib.Dec.{eqb, ltb}
use borrow.Author.Tests.{eqb-true, ne_eqb, eq-eqb, ltb-true, ltb-false}
use Rattle.taxa.specs.Sets.{has, less, some, size}
use Rattle.taxa.proofs.Bools.{either, or_neither, not_swap, ◌⊕◌}
use Rattle.taxa.proofs.Sets.{has-less, has_below, some-has}
use Rattle.tree.specs.Tree.{lo, hi, rows, nodes, touches, far, part, Valid}
use Rattle.tree.specs.Splits.{split}
use Rattle.tree.proofs.Joins.{Joins, touch_joins, joins_touch, joins_flip, touch-node}
use Rattle.tree.proofs.Colourings.{Parts, valid-table, two-sides, empty_corner}
use Rattle.tree.proofs.SplitLaws.{num_of, split_eq, split-pairs, kept_in}
use Rattle.tree.proofs.RowCounts.{Pair, pair, leaf-row}
use Rattle.tree.proofs.Forks.{fork, hang_f, hang_g, node-side, less_f, less_g, at_f, at_g}
use Rattle.tree.proofs.Forks.{leaf-side}
use Rattle.tree.proofs.Growth.{Grown, Twice, missing, kept_by, in_old, in_new, not_new, cut}

-- s has all of y where nothing of y is left without s
covers : (y s : ℕ) → some (less y s) ≡ false → (i : ℕ) → has y i ≡ true → has s i ≡ true
covers y s h i p = go (either (has s i))
  where
    go : (has s i ≡ true) ⊎ (has s i ≡ false) → has s i ≡ true
    go (inl q) = q
    go (inr q) = absurd (true≢false
        (sym (some-has (less y s) i (has-less y s i ∙ ap₂ (λ (u v : Bool). u && not v) p q)) ∙ h))

-- a colour that row r leaves is at its first end what it is at the end u
end_same : (t : List ℕ) (r u v : ℕ) (c : ℕ → Bool) → Joins t r u v → c (lo t r) ≡ c (hi t r)
    → c (lo t r) ≡ c u
end_same t r u v c (inl j) h = ap c j.0
end_same t r u v c (inr j) h = h ∙ ap c j.1

-- ---- the sets beyond a node's two rows ahead have no node in common
module _ {n : ℕ} {t : List ℕ} {e v f g : ℕ} (vt : Valid n t) (le : e < rows n)
    (te : touches t e v ≡ true) (inner : n ≤ v) (K : Pair n t e v f g) where
  beyond_apart : (i : ℕ) → i < nodes n → has (part n t f (far t f v)) i ≡ true
      → has (part n t g (far t g v)) i ≡ true → ⊥
  beyond_apart i l p q =
      let A = part n t f (far t f v) in
      let B = part n t g (far t g v) in
      let hf = hang_f vt le te inner K in
      let hg = hang_g vt le te inner K in
      let F = fork vt le te inner K in
      let out_g : has A (lo t g) ≡ false
      = end_same t g v (far t g v) (has A) F.f_row
      (hf.parts.closed g K.g_lt (λ w. F.xf (sym w))) ∙ hf.out in
      let out_f : has B (lo t f) ≡ false
      = end_same t f v (far t f v) (has B) F.x_row (hg.parts.closed f K.f_lt F.xf)
      ∙ hg.out in
      empty_corner n t f g A B (valid-table vt) K.f_lt K.g_lt F.xf hf.parts
      hg.parts i l
      (p ∙ sym (ap not out_g)) (q ∙ sym (ap not out_f))

-- ---- the row e leads by its end v to all of Y, and away from x
pub record Ahead (n : ℕ) (t : List ℕ) (Y x e v : ℕ) : Type 0 where
  pub lt : e < rows n
  pub touch : touches t e v ≡ true
  pub all : (i : ℕ) → has Y i ≡ true → has (part n t e v) i ≡ true
  pub none : has (part n t e v) x ≡ false

module _ {n : ℕ} {t : List ℕ} {Y Y' x : ℕ} (G : Grown n t Y Y' x) where
  abbrev pub Found : Type 0
  Found = (z₀ z₁ : ℕ) × Twice n t Y Y' z₀ z₁

  -- rows f and g whose sets part Y the same way and have no x
  lift_two : (f g A B a b : ℕ) → f < rows n → g < rows n → Parts n t f A → Parts n t g B
      → has A x ≡ false → has B x ≡ false
      → ((i : ℕ) → has Y i ≡ true → has A i ≡ not (has B i)) → has Y a ≡ true → has Y b ≡ true
      → has B a ≡ false → has A b ≡ false
      → Twice n t Y Y' (split n Y' A) (split n Y' B)
  lift_two f g A B a b lf lg pA pB Ax Bx opp ya yb Ba Ab =
      let Aa : has A a ≡ true = opp a ya ∙ ap not Ba in
      let Bb : has B b ≡ true = not_swap (has A b) (has B b) (opp b yb) ∙ ap not Ab in
      let up = in_old n t Y Y' x G in
      let tab = valid-table G.valid in
      record {
        in₀ = kept_in n t Y' G.bound' (split n Y' A) f lf
            (kept_by n Y' A a b (up a ya) (up b yb) Aa Ab)
            (sym (num_of G.valid.big tab Y' f A G.bound' lf pA));
        in₁ = kept_in n t Y' G.bound' (split n Y' B) g lg
            (kept_by n Y' B b a (up b yb) (up a ya) Bb Ba)
            (sym (num_of G.valid.big tab Y' g B G.bound' lg pB));
        same = cut n t Y Y' x G A ∙ split_eq n Y A B G.bound true opp ∙ sym (cut n t Y Y' x G B);
        kept = ap some (cut n t Y Y' x G A) ∙ kept_by n Y A a b ya yb Aa Ab;
        apart = λ d. true≢false (sym (ap₂ ◌⊕◌ Aa Ax)
            ∙ split-pairs n Y' A B d a x (up a ya) (in_new n t Y Y' x G) ∙ ap₂ ◌⊕◌ Ba Bx);
      }

  -- at an inner node: Y is parted there, or one of the two rows leads on
  at_fork : {e v f g : ℕ} → Ahead n t Y x e v → n ≤ v → Pair n t e v f g
      → (Ahead n t Y x f (far t f v) → Found) → (Ahead n t Y x g (far t g v) → Found) → Found
  at_fork {e} {v} {f} {g} H inner K on_f on_g =
      go (either (some (less Y A))) (either (some (less Y B)))
    where
      A : ℕ
      A = part n t f (far t f v)

      B : ℕ
      B = part n t g (far t g v)

      taxon : (i : ℕ) → i < n → has (part n t e v) i ≡ (has A i || has B i)
      taxon i l =
          node-side G.valid H.lt H.touch inner K i (omega (arith, G.valid.big))
          ∙ ap (λ (w : Bool). has A i || has B i || w) (ne_eqb v i (λ d. omega arith))
          ∙ or-false (has A i || has B i)

      away : (has A x ≡ false) × (has B x ≡ false)
      away = or_neither (has A x) (has B x) (sym (taxon x G.lt) ∙ H.none)

      opp : (i : ℕ) → has Y i ≡ true → has A i ≡ not (has B i)
      opp i y = at (either (has A i)) (either (has B i))
        where
          l : i < n
          l = has_below n Y i G.bound y

          at : (has A i ≡ true) ⊎ (has A i ≡ false) → (has B i ≡ true) ⊎ (has B i ≡ false)
              → has A i ≡ not (has B i)
          at (inl p) (inl q) = absurd
              (beyond_apart G.valid H.lt H.touch inner K i
              (omega (arith, l, G.valid.big)) p q)
          at (inl p) (inr q) = p ∙ sym (ap not q)
          at (inr p) (inl q) = p ∙ sym (ap not q)
          at (inr p) (inr q) = absurd (true≢false (sym (H.all i y) ∙ taxon i l ∙ ap₂ ◌||◌ p q))

      go : (some (less Y A) ≡ true) ⊎ (some (less Y A) ≡ false)
          → (some (less Y B) ≡ true) ⊎ (some (less Y B) ≡ false) → Found
      go (inr p) q = on_f (record {
        lt = K.f_lt;
        touch = at_f G.valid H.lt
            H.touch inner K;
        all = covers Y A p;
        none = away.0;
      })
      go (inl p) (inr q) = on_g
          (record {
            lt = K.g_lt;
            touch = at_g G.valid H.lt H.touch inner K;
            all = covers Y B q;
            none = away.1;
          })
      go (inl p) (inl q) =
          let b = missing n Y A G.bound p in
          let a = missing n Y B G.bound q in (
            split n Y' A,
            split n Y' B,
            lift_two f g A B a.0 b.0 K.f_lt K.g_lt
                (hang_f G.valid H.lt H.touch inner K).parts
                (hang_g G.valid H.lt H.touch inner K).parts
                away.0 away.1 opp a.1 b.1 a.2 b.2,
          )

  module _ (a b : ℕ) (ya : has Y a ≡ true) (yb : has Y b ≡ true) (ab : a ≡ b → ⊥) where
    -- a taxon alone is not all of Y
    not_leaf : {e v : ℕ} → Ahead n t Y x e v → v < n → ⊥
    not_leaf {e} {v} H l = ab (sym (is a ya) ∙ is b yb)
      where
        is : (i : ℕ) → has Y i ≡ true → v ≡ i
        is i y =
            let li = has_below n Y i G.bound y in
            eqb-true v i (sym (leaf-side e v G.valid l H.lt H.touch i
            (omega (arith, G.valid.big))) ∙ H.all i y)

    -- on from row e's end v, for as long as Y lies beyond one row
    walk : (k e v : ℕ) → size (nodes n) (part n t e v) < k → Ahead n t Y x e v → Found
    walk zero e v h H = absurd (omega arith)
    walk (suc k) e v h H = go (λ f w l. walk k f w l) (either (ltb v n))
      where
        go : ((f w : ℕ) → size (nodes n) (part n t f w) < k → Ahead n t Y x f w → Found)
            → (ltb v n ≡ true) ⊎ (ltb v n ≡ false) → Found
        go ih (inl q) = absurd (not_leaf H (ltb-true v n q))
        go ih (inr q) =
            let inner = ltb-false v n q in
            let K = pair e v G.valid H.lt H.touch inner
            (touch-node e G.valid H.lt v H.touch) in
            at_fork H inner K.2 (ih K.0 (far t K.0 v)
            (omega (
              arith,
              less_f G.valid H.lt H.touch inner
                  K.2,
            )))
            (ih K.1 (far t K.1 v)
            (omega (
              arith,
              less_g G.valid H.lt H.touch inner
                  K.2,
            )))

    -- the walk begins at x's own row
    pub found : Found
    found =
        let w = leaf-row x G.valid G.lt in
        let e = w.0 in
        let v = far t e x in
        let j = touch_joins t e x w.2 in
        let all_but : (i : ℕ) → i < n → has (part n t e v) i ≡ not (eqb x i)
        = λ i l. two-sides e x v G.valid w.1 j i (omega (arith, G.valid.big))
        ∙ ap not (leaf-side e x G.valid G.lt w.1 w.2 i
        (omega (arith, G.valid.big))) in
        walk (suc (size (nodes n) (part n t e v))) e v
        (le_refl (suc (size (nodes n) (part n t e v)))) (record {
          lt = w.1;
          touch = joins_touch t e v x (joins_flip t e x v j);
          all = λ i y. all_but i (has_below n Y i G.bound y) ∙ ap not (not_new n t Y Y' x G i y);
          none = all_but x G.lt ∙ ap not (eq-eqb x x refl);
        })
