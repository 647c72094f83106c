-- Counting the rows that pass a test, and the rows at a node. Assumes nothing.
use mathlib.Core.Path.{◌≡◌, refl, sym, ap, ap₂, ◌∙◌, subst}
use mathlib.Core.Logic.{◌⊎◌, inl, inr}
use mathlib.Core.Bool.{Bool, true, false, not, ◌&&◌, ◌||◌, true≢false, and-true}
use mathlib.Core.List.{List, [], ◌∷◌, ◌++◌, head-eq_of_cons-eq}
use Prim.Native.Nat.{ℕ, zero, suc, ◌+◌, ◌≤◌, ◌<◌}
use native.Mathlib.Nat.{le_refl}
use native.Mathlib.Omega.{arith}
use lib.Dec.{eqb}
use lib.Arith.{lt_of_le-ne}
use borrow.Author.Tests.{eqb-true, eqb-false, ne_eqb, not-true}
use Rattle.taxa.specs.Sets.{pick, tally}
use Rattle.taxa.proofs.Bools.{either, and_left, and_right, and_both}
use Rattle.taxa.proofs.Sizes.{tally_le, tally_one}
use Rattle.tree.specs.Tree.{lo, hi, rows, nodes, touches, others, every, count, Valid}

-- ---- a test of every number
pub every-all : (f : ℕ → Bool) (k : ℕ) → every f k ≡ true → (r : ℕ) → r < k → f r ≡ true
unfolding every
every-all f zero h r l = absurd (omega arith)
every-all f (suc k) h r l =
    go (λ l'. every-all f k (and_left (every f k) (f k) h) r l') (either (eqb r k))
  where
    go : (r < k → f r ≡ true) → (eqb r k ≡ true) ⊎ (eqb r k ≡ false) → f r ≡ true
    go ih (inl w) = ap f (eqb-true r k w) ∙ and_right (every f k) (f k) h
    go ih (inr w) = ih (lt_of_le-ne (omega arith) (eqb-false r k w))

pub all-every : (f : ℕ → Bool) (k : ℕ) → ((r : ℕ) → r < k → f r ≡ true) → every f k ≡ true
unfolding every
all-every f zero h = refl
all-every f (suc k) h = and_both (every f k) (f k) (all-every f k (λ r l. h r (omega arith)))
    (h k (le_refl (suc k)))

-- ---- counting
abbrev pub but : (ℕ → Bool) → ℕ → ℕ → Bool
but P e r = P r && not (eqb r e)

pub count_same : (P Q : ℕ → Bool) (k : ℕ) → ((r : ℕ) → r < k → P r ≡ Q r) → count P k ≡ count Q k
unfolding count
count_same P Q zero h = refl
count_same P Q (suc k) h = ap₂ (λ (b : Bool) (n : ℕ). tally b + n) (h k (le_refl (suc k)))
    (count_same P Q k (λ r l. h r (omega arith)))

pub but_other : (P : ℕ → Bool) (e r : ℕ) → (r ≡ e → ⊥) → but P e r ≡ P r
but_other P e r d = ap (λ (b : Bool). P r && not b) (ne_eqb r e d) ∙ and-true (P r)

pub but_true : (P : ℕ → Bool) (e r : ℕ) → but P e r ≡ true → (P r ≡ true) × (r ≡ e → ⊥)
but_true P e r h = (
  and_left (P r) (not (eqb r e)) h,
  eqb-false r e (not-true (eqb r e) (and_right (P r) (not (eqb r e)) h)),
)

pub count-drop : (P : ℕ → Bool) (e k : ℕ) → P e ≡ true → e < k → count P k ≡ suc (count (but P e) k)
unfolding count
count-drop P e zero p h = absurd (omega arith)
count-drop P e (suc k) p h = go (λ l. count-drop P e k p l) (either (eqb k e))
  where
    go : (e < k → count P k ≡ suc (count (but P e) k)) → (eqb k e ≡ true) ⊎ (eqb k e ≡ false)
        → tally (P k) + count P k ≡ suc (tally (but P e k) + count (but P e) k)
    go ih (inl w) =
        let here : P k ≡ true = ap P (eqb-true k e w) ∙ p in
        let rest : count P k ≡ count (but P e) k =
        count_same P (but P e) k (λ r l.
        sym (but_other P e r (λ d. omega (arith, eqb-true k e w)))) in
        rw (here, w) (omega arith)
    go ih (inr w) =
        let same : but P e k ≡ P k = but_other P e k (eqb-false k e w) in
        rw same (omega (arith, ih (lt_of_le-ne (omega arith) (λ d. eqb-false k e w (sym d)))))

pub count_find : (P : ℕ → Bool) (k : ℕ) → 0 < count P k → (r : ℕ) × (r < k) × (P r ≡ true)
unfolding count
count_find P zero h = absurd (omega arith)
count_find P (suc k) h = go (count_find P k) (P k) refl h
  where
    go : (0 < count P k → (r : ℕ) × (r < k) × (P r ≡ true)) → (b : Bool) → P k ≡ b
        → 0 < tally b + count P k → (r : ℕ) × (r < suc k) × (P r ≡ true)
    go ih true e h = (k, le_refl (suc k), e)
    go ih false e h = let w = ih (omega arith) in (w.0, omega (arith, w.1), w.2)

pub count_none : (P : ℕ → Bool) (k : ℕ) → count P k ≡ 0 → (r : ℕ) → r < k → P r ≡ true → ⊥
count_none P k e r h p = omega (arith, count-drop P r k p h)

pub count_zero : (P : ℕ → Bool) (k : ℕ) → ((r : ℕ) → r < k → P r ≡ false) → count P k ≡ 0
unfolding count
count_zero P zero h = refl
count_zero P (suc k) h =
    rw (h k (le_refl (suc k)), count_zero P k (λ r l. h r (omega arith)))

-- where one row passes it is the only one
pub count_one : (P : ℕ → Bool) (m e r : ℕ) → count P m ≡ 1 → e < m → P e ≡ true → r < m
    → P r ≡ true → r ≡ e
count_one P m e r one le pe lr pr = go (either (eqb r e))
  where
    go : (eqb r e ≡ true) ⊎ (eqb r e ≡ false) → r ≡ e
    go (inl q) = eqb-true r e q
    go (inr q) = absurd (count_none (but P e) m (omega (arith, count-drop P e m pe le)) r lr
        (but_other P e r (eqb-false r e q) ∙ pr))

-- ---- the list of the rows at p other than a
module _ (t : List ℕ) (a p : ℕ) where
  abbrev pub Other : ℕ → Bool
  Other r = touches t r p && not (eqb r a)

  others-none : (k : ℕ) → count Other k ≡ 0 → others t a p k ≡ []
  unfolding others count
  others-none zero h = refl
  others-none (suc k) h = go (others-none k) (Other k) h
    where
      go : (count Other k ≡ 0 → others t a p k ≡ []) → (b : Bool) → tally b + count Other k ≡ 0
          → pick b (others t a p k ++ k ∷ []) (others t a p k) ≡ []
      go ih true h = absurd (omega arith)
      go ih false h = ih (omega arith)

  others_one : (k : ℕ) → count Other k ≡ 1
      → (f : ℕ) × (f < k) × (Other f ≡ true) × (others t a p k ≡ f ∷ [])
  unfolding others count
  others_one zero h = absurd (omega arith)
  others_one (suc k) h = go (others_one k) (Other k) refl h
    where
      go : (count Other k ≡ 1 → (f : ℕ) × (f < k) × (Other f ≡ true) × (others t a p k ≡ f ∷ []))
          → (b : Bool) → Other k ≡ b → tally b + count Other k ≡ 1
          → (f : ℕ) × (f < suc k) × (Other f ≡ true)
          × (pick b (others t a p k ++ k ∷ []) (others t a p k) ≡ f ∷ [])
      go ih true e h = (
        k,
        le_refl (suc k),
        e,
        ap (λ (l : List ℕ). l ++ k ∷ []) (others-none k (omega arith)),
      )
      go ih false e h = let w = ih (omega arith) in (w.0, omega (arith, w.1), w.2, w.3)

  others-two : (k : ℕ) → count Other k ≡ 2 → (f g : ℕ) × (f < g) × (g < k) × (Other f ≡ true)
      × (Other g ≡ true) × (others t a p k ≡ f ∷ g ∷ [])
  unfolding others count
  others-two zero h = absurd (omega arith)
  others-two (suc k) h = go (others-two k) (Other k) refl h
    where
      go : (count Other k ≡ 2 → (f g : ℕ) × (f < g) × (g < k) × (Other f ≡ true) × (Other g ≡ true)
          × (others t a p k ≡ f ∷ g ∷ []))
          → (b : Bool) → Other k ≡ b → tally b + count Other k ≡ 2
          → (f g : ℕ) × (f < g) × (g < suc k) × (Other f ≡ true) × (Other g ≡ true)
          × (pick b (others t a p k ++ k ∷ []) (others t a p k) ≡ f ∷ g ∷ [])
      go ih true e h =
          let w = others_one k (omega arith) in
          (w.0, k, w.1, le_refl (suc k), w.2, e, ap (λ (l : List ℕ). l ++ k ∷ []) w.3)
      go ih false e h = let w = ih (omega arith) in
          (w.0, w.1, w.2, omega (arith, w.3), w.4, w.5, w.6)

-- ---- an inner node and one of its rows: the other two
pub record Pair (n : ℕ) (t : List ℕ) (a p f g : ℕ) : Type 0 where
  pub fg : f < g
  pub f_lt : f < rows n
  pub g_lt : g < rows n
  pub f_p : touches t f p ≡ true
  pub g_p : touches t g p ≡ true
  pub fa : f ≡ a → ⊥
  pub ga : g ≡ a → ⊥
  pub list : others t a p (rows n) ≡ f ∷ g ∷ []
  pub only : (r : ℕ) → r < rows n → (r ≡ a → ⊥) → (r ≡ f → ⊥) → (r ≡ g → ⊥) → touches t r p ≡ true
      → ⊥

pub pair : {n : ℕ} {t : List ℕ} (a p : ℕ) → Valid n t → a < rows n → touches t a p ≡ true → n ≤ p
    → p < nodes n → (f g : ℕ) × Pair n t a p f g
pair {n} {t} a p v ha ta ip lp =
    let P : ℕ → Bool = λ r. touches t r p in
    let two : count (but P a) (rows n) ≡ 2 =
    omega (arith, count-drop P a (rows n) ta ha, v.inner p ip lp) in
    let w = others-two t a p (rows n) two in
    let f = w.0 in
    let g = w.1 in
    let one : count (but (but P a) f) (rows n) ≡ 1 =
    omega (arith, count-drop (but P a) f (rows n) w.4 (omega (arith, w.2, w.3))) in
    let none : count (but (but (but P a) f) g) (rows n) ≡ 0
    = omega (
      arith,
      count-drop (but (but P a) f) g (rows n)
          (but_other (but P a) f g (λ e. omega (arith, w.2)) ∙ w.5) w.3,
    ) in (
      f,
      g,
      record {
        fg = w.2;
        f_lt = omega (arith, w.2, w.3);
        g_lt = w.3;
        f_p = (but_true P a f w.4).0;
        g_p = (but_true P a g w.5).0;
        fa = (but_true P a f w.4).1;
        ga = (but_true P a g w.5).1;
        list = w.6;
        only = λ r l ra rf rg h. count_none (but (but (but P a) f) g) (rows n) none r l
            (but_other (but (but P a) f) g r rg ∙ but_other (but P a) f r rf ∙ but_other P a r ra
            ∙ h);
      },
    )

-- ---- a taxon's row is its only one
pub leaf-only : {n : ℕ} {t : List ℕ} (v e : ℕ) → Valid n t → v < n → e < rows n
    → touches t e v ≡ true → (r : ℕ) → r < rows n → touches t r v ≡ true → r ≡ e
leaf-only {n} {t} v e vt lv le te r lr tr =
    count_one (λ j. touches t j v) (rows n) e r (vt.leaf v lv) le te lr tr

pub leaf-row : {n : ℕ} {t : List ℕ} (v : ℕ) → Valid n t → v < n
    → (r : ℕ) × (r < rows n) × (touches t r v ≡ true)
leaf-row {n} {t} v vt lv = count_find (λ r. touches t r v) (rows n) (omega (arith, vt.leaf v lv))

-- ---- a row whose ends differ is at a node as often as its ends are that node
pub touch-tally : (t : List ℕ) (r v : ℕ) → (lo t r ≡ hi t r → ⊥)
    → tally (touches t r v) ≡ tally (eqb (lo t r) v) + tally (eqb (hi t r) v)
touch-tally t r v d = go (eqb (lo t r) v) (eqb (hi t r) v) refl refl
  where
    go : (p q : Bool) → eqb (lo t r) v ≡ p → eqb (hi t r) v ≡ q → tally (p || q) ≡ tally p + tally q
    go true true a b = absurd (d (eqb-true (lo t r) v a ∙ sym (eqb-true (hi t r) v b)))
    go true false a b = refl
    go false true a b = refl
    go false false a b = refl

pub count_le : (P : ℕ → Bool) (k : ℕ) → count P k ≤ k
unfolding count
count_le P zero = le_refl 0
count_le P (suc k) = omega (arith, count_le P k, tally_one (P k))

-- ---- two tests that agree below k
pub every_same : (f g : ℕ → Bool) (k : ℕ) → ((r : ℕ) → r < k → f r ≡ g r) → every f k ≡ every g k
unfolding every
every_same f g zero h = refl
every_same f g (suc k) h =
    ap₂ ◌&&◌ (every_same f g k (λ r l. h r (omega arith))) (h k (le_refl (suc k)))

-- ---- a test that passes less often
pub count_sub : (P Q : ℕ → Bool) (k : ℕ) → ((r : ℕ) → r < k → P r ≡ true → Q r ≡ true)
    → count P k ≤ count Q k
unfolding count
count_sub P Q zero h = le_refl 0
count_sub P Q (suc k) h =
    omega (
      arith,
      tally_le (P k) (Q k) (h k (le_refl (suc k))),
      count_sub P Q k (λ r l. h r (omega arith)),
    )

pub count_less : (P Q : ℕ → Bool) (k i : ℕ) → ((r : ℕ) → r < k → P r ≡ true → Q r ≡ true) → i < k
    → P i ≡ false → Q i ≡ true → count P k < count Q k
count_less P Q k i h l p q =
    let s : count P k ≤ count (but Q i) k =
    count_sub P (but Q i) k (λ r m x. and_both (Q r) (not (eqb r i)) (h r m x)
    (ap not (ne_eqb r i (λ d. true≢false (sym x ∙ ap P d ∙ p))))) in
    omega (arith, count-drop Q i k q l)

-- the two others, from their list
pub pair_of : {n : ℕ} {t : List ℕ} (a p f g : ℕ) → Valid n t → a < rows n → touches t a p ≡ true
    → n ≤ p → p < nodes n → others t a p (rows n) ≡ f ∷ g ∷ [] → Pair n t a p f g
pair_of {n} {t} a p f g v ha ta ip lp list =
    let w = pair a p v ha ta ip lp in
    let q = sym list ∙ w.2.list in
    let ef : f ≡ w.0 = head-eq_of_cons-eq q in
    let eg : g ≡ w.1 = cc in
    subst (λ (x : ℕ). Pair n t a p x g) (sym ef)
    (subst (λ (y : ℕ). Pair n t a p w.0 y) (sym eg) w.2)
