-- The groups on one side of a row make up that side, so the side is met where
-- one of them is; and the arithmetic of the papers' rule.
-- Assumes nothing.
use mathlib.Core.Path.{◌≡◌, refl, sym, ap, ap₂, ◌∙◌}
use mathlib.Core.Bool.{Bool, true, false, not, ◌&&◌, ◌||◌, or-false}
use mathlib.Core.List.{List, [], ◌∷◌}
use Prim.Native.Nat.{ℕ, zero, suc, ◌+◌, ◌*◌, ◌-◌, ◌^◌, ◌≤◌, ◌<◌}
use native.Mathlib.Omega.{arith}
use lib.Dec.{eqb, ltb}
use lib.ListN.{get_or}
use lib.Bits.{bit_and}
use borrow.Author.Tests.{eqb-true, ne_eqb, ltb-true, ltb-false}
use Rattle.taxa.specs.Sets.{pick, has, some, in_some}
use Rattle.taxa.proofs.Bools.{and_false_r}
use Rattle.taxa.proofs.Sets.{has_pow, has_and, has-none, has_below, ext, some-has, some_zero}
use Rattle.tree.specs.Tree.{rows, touches, far, others, part, Valid}
use Rattle.tree.proofs.Joins.{touch-node}
use Rattle.tree.proofs.RowCounts.{Pair, pair}
use Rattle.tree.proofs.Forks.{leaf-side, node-side}
use Rattle.moves.specs.Groups.{beyond, stayed, met, rule}
use Rattle.moves.proofs.Ways.GroupLists.{in_some_one, met_le, one_met, none-met}
use Rattle.moves.proofs.Ways.Found.{beyond-taxa}

-- each taxon is in one of the groups where it is in s
abbrev pub Covers : ℕ → List ℕ → ℕ → Type 0
Covers n gs s = (i : ℕ) → i < n → in_some gs i ≡ has s i

-- ---- the groups of an end v of row e that stays
pub leaf_covers : {n : ℕ} {t : List ℕ} {e v : ℕ}
    → Valid n t
    → e < rows n
    → touches t e v ≡ true
    → v < n
    → Covers n (2 ^ v ∷ []) (part n t e v)
leaf_covers {n} {t} {e} {v} vt le te lv i l =
    in_some_one i (2 ^ v)
    ∙ has_pow v i
    ∙ sym (leaf-side e v vt lv le te i (omega (arith, vt.big)))

-- the groups of an inner end
abbrev two-groups : ℕ → List ℕ → ℕ → ℕ → List ℕ
two-groups n t e v =
    let fs = others t e v (rows n) in
    beyond n t v (get_or fs 0 0) ∷ beyond n t v (get_or fs 1 0) ∷ []

pub stayed_covers : {n : ℕ} {t : List ℕ} {e : ℕ} (v : ℕ)
    → Valid n t
    → e < rows n
    → touches t e v ≡ true
    → Covers n (stayed n t e v) (part n t e v)
unfolding stayed in_some
stayed_covers {n} {t} {e} v vt le te = go (ltb v n) refl
  where
    two : (f g i : ℕ) → n ≤ v → Pair n t e v f g → i < n
        → (has (beyond n t v f) i || (has (beyond n t v g) i || false)) ≡ has (part n t e v) i
    two f g i iv K l =
        let f_in = has (part n t f (far t f v)) i in
        let g_in = has (part n t g (far t g v)) i in
        let no_Node = ne_eqb v i (λ d. omega arith) in
        let side : has (part n t e v) i ≡ (f_in || g_in)
        = node-side vt le te iv K i (omega (arith, vt.big))
        ∙ ap (λ (x : Bool). f_in || g_in || x) no_Node
        ∙ or-false (f_in || g_in) in
        ap₂ ◌||◌ (beyond-taxa n t v f i l)
        (or-false (has (beyond n t v g) i) ∙ beyond-taxa n t v g i l)
        ∙ sym side

    go : (c : Bool)
        → ltb v n ≡ c
        → Covers n (pick c (2 ^ v ∷ []) (two-groups n t e v)) (part n t e v)
    go true w i l = leaf_covers vt le te (ltb-true v n w) i l
    go false w i l =
        let iv = ltb-false v n w in
        let K = pair e v vt le te iv (touch-node e vt le v te) in
        rw K.2.list (two K.0 K.1 i iv K.2 l)

pub stayed-two : (n : ℕ) (t : List ℕ) (e v y : ℕ) → met y (stayed n t e v) ≤ 2
unfolding stayed
stayed-two n t e v y = go (ltb v n)
  where
    go : (c : Bool) → met y (pick c (2 ^ v ∷ []) (two-groups n t e v)) ≤ 2
    go true = omega (arith, met_le y (2 ^ v ∷ []))
    go false = met_le y (two-groups n t e v)

-- ---- a side is met where one of its groups is
pub side-met : (n y s : ℕ) (gs : List ℕ)
    → y < 2 ^ n
    → Covers n gs s
    → some (bit_and s y) ≡ not (eqb (met y gs) 0)
side-met n y s gs b cov = go (met y gs) refl
  where
    lt : (i : ℕ) → has y i ≡ true → i < n
    lt i yi = has_below n y i b yi

    go : (m : ℕ) → met y gs ≡ m → some (bit_and s y) ≡ not (eqb m 0)
    go zero e =
        ap some (ext (bit_and s y) 0 (λ i. has_and s y i ∙ at i (has y i) refl ∙ sym (has-none i)))
        ∙ some_zero
      where
        at : (i : ℕ) (p : Bool) → has y i ≡ p → (has s i && p) ≡ false
        at i true q = ap (λ (x : Bool). x && true) (sym (cov i (lt i q)) ∙ none-met y gs e i q)
        at i false q = and_false_r (has s i)
    go (suc m) e =
        let w = one_met n y gs b (omega arith) in
        let i = w.taxon in
        let si : has s i ≡ true = sym (cov i (lt i w.in_y)) ∙ w.in_gs in
        some-has (bit_and s y) i (has_and s y i ∙ ap₂ ◌&&◌ si w.in_y)
        ∙ sym (ap not (ne_eqb (suc m) 0 (λ d. omega arith)))

-- ---- the rule
pub rule_comm : (k j : ℕ) → rule k j ≡ rule j k
unfolding rule
rule_comm k j = go (eqb k 0) (eqb j 0)
  where
    go : (p q : Bool)
        → pick (p || q) 0 (2 * (k - 2 + (j - 2))) ≡ pick (q || p) 0 (2 * (j - 2 + (k - 2)))
    go true true = refl
    go true false = refl
    go false true = refl
    go false false = omega arith

pub rule-few : (k j : ℕ) → k ≤ 2 → j ≤ 2 → rule k j ≡ 0
unfolding rule
rule-few k j a b = go (eqb k 0 || eqb j 0)
  where
    go : (p : Bool) → pick p 0 (2 * (k - 2 + (j - 2))) ≡ 0
    go true = refl
    go false = omega arith

-- each side counts where the other is met
pub rule-two : (k j : ℕ)
    → pick (not (eqb j 0)) (2 * (k - 2)) 0 + pick (not (eqb k 0)) (2 * (j - 2)) 0 ≡ rule k j
unfolding rule
rule-two k j = go (eqb k 0) (eqb j 0) refl refl
  where
    go : (p q : Bool)
        → eqb k 0 ≡ p
        → eqb j 0 ≡ q
        → pick (not q) (2 * (k - 2)) 0 + pick (not p) (2 * (j - 2)) 0
        ≡ pick (p || q) 0 (2 * (k - 2 + (j - 2)))
    go true true a b = refl
    go true false a b = omega (arith, eqb-true k 0 a)
    go false true a b = omega (arith, eqb-true j 0 b)
    go false false a b = omega arith

-- a side with two groups at most adds nothing of its own
pub rule_one : (k j : ℕ) → j ≤ 2 → pick (not (eqb j 0)) (2 * (k - 2)) 0 ≡ rule k j
rule_one k j l = go (not (eqb k 0)) (rule-two k j)
  where
    go : (p : Bool)
        → pick (not (eqb j 0)) (2 * (k - 2)) 0 + pick p (2 * (j - 2)) 0 ≡ rule k j
        → pick (not (eqb j 0)) (2 * (k - 2)) 0 ≡ rule k j
    go true e = omega arith
    go false e = omega arith
