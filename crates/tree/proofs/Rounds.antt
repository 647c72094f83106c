-- What the rounds collect: they only add, they come to rest, and they reach
-- exactly the nodes that a chain of rows joins.
-- Assumes nothing.
use mathlib.Core.Path.{◌≡◌, refl, sym, ap, ◌∙◌, subst}
use mathlib.Core.Logic.{◌⊎◌, inl, inr, ◌↔◌}
use mathlib.Core.Bool.{Bool, true, false, ◌||◌, true≢false}
use mathlib.Core.List.{List}
use Prim.Native.Nat.{ℕ, zero, suc, ◌^◌, ◌≤◌, ◌<◌, zero-le}
use native.Mathlib.Nat.{le_refl}
use native.Mathlib.Decide.{le_ind}
use native.Mathlib.Omega.{arith}
use lib.Dec.{eqb}
use lib.Bits.{or_lt}
use lib.Pow.{pow-lt}
use borrow.Author.Tests.{eqb-true, eqb-false, ne_eqb, eq-eqb}
use Rattle.taxa.specs.Sets.{pick, has, add, size, Sub}
use Rattle.taxa.proofs.Bools.{either, or_cases}
use Rattle.taxa.proofs.Sets.{has-add, has_pow, ext_below}
use Rattle.taxa.proofs.Sizes.{size_le, size_sub, size_same, size_pos, sub_refl, sub_trans}
use Rattle.taxa.proofs.Sizes.{sub_antisymm, sub_add, add-has}
use Rattle.tree.specs.Tree.{lo, hi, rows, nodes, spread, round, rounds, part, Chain, stay, up}
use Rattle.tree.specs.Tree.{down}

-- ---- what holds of the start and passes along every row but e holds of all that is collected
abbrev pub Each : (ℕ → Type 0) → ℕ → Type 0
Each P s = (i : ℕ) → has s i ≡ true → P i

spread-each : (P : ℕ → Type 0) (u v s : ℕ) → (P u → P v) → (P v → P u) → Each P s
    → Each P (spread u v s)
spread-each P u v s uv vu each = go (has s u) (has s v) refl refl
  where
    wide : P u → Each P (add (add s u) v)
    wide pu i p = last (or_cases (has (add s u) i) (eqb v i) (sym (has-add (add s u) v i) ∙ p))
      where
        first : (has s i ≡ true) ⊎ (eqb u i ≡ true) → P i
        first (inl q) = each i q
        first (inr q) = subst P (eqb-true u i q) pu

        last : (has (add s u) i ≡ true) ⊎ (eqb v i ≡ true) → P i
        last (inl q) = first (or_cases (has s i) (eqb u i) (sym (has-add s u i) ∙ q))
        last (inr q) = subst P (eqb-true v i q) (uv pu)

    go : (p q : Bool) → has s u ≡ p → has s v ≡ q → Each P (pick (p || q) (add (add s u) v) s)
    go true q hp hq = wide (each u hp)
    go false true hp hq = wide (vu (each v hq))
    go false false hp hq = each

-- P passes along rows below m other than e, both ways
pub record Along (t : List ℕ) (e m : ℕ) (P : ℕ → Type 0) : Type 0 where
  pub there : (r : ℕ) → r < m → (r ≡ e → ⊥) → P (lo t r) → P (hi t r)
  pub back : (r : ℕ) → r < m → (r ≡ e → ⊥) → P (hi t r) → P (lo t r)

module _ {t : List ℕ} {e m : ℕ} {P : ℕ → Type 0} (along : Along t e m P) where
  round-each : (k : ℕ) → k ≤ m → (s : ℕ) → Each P s → Each P (round t e k s)
  unfolding round
  round-each zero h s each = each
  round-each (suc k) h s each = go (round-each k (omega arith) s each) (eqb k e) refl
    where
      go : Each P (round t e k s) → (q : Bool) → eqb k e ≡ q
          → Each P (pick q (round t e k s) (spread (lo t k) (hi t k) (round t e k s)))
      go ih true p = ih
      go ih false p = spread-each P (lo t k) (hi t k) (round t e k s)
          (along.there k h (eqb-false k e p)) (along.back k h (eqb-false k e p)) ih

  rounds-each : (j s : ℕ) → Each P s → Each P (rounds t e m j s)
  unfolding rounds
  rounds-each zero s each = each
  rounds-each (suc j) s each = round-each m (le_refl m) (rounds t e m j s) (rounds-each j s each)

pub part-each : (n : ℕ) {t : List ℕ} (e v : ℕ) {P : ℕ → Type 0} → Along t e (rows n) P → P v
    → Each P (part n t e v)
unfolding part
part-each n e v {P} along pv =
    rounds-each along (nodes n) (2 ^ v) (λ i p. subst P (eqb-true v i (sym (has_pow v i) ∙ p)) pv)

-- ---- the same for a colouring: rows below m other than e join nodes of one colour
abbrev pub Flat : List ℕ → ℕ → ℕ → (ℕ → Bool) → Type 0
Flat t e m c = (r : ℕ) → r < m → (r ≡ e → ⊥) → c (lo t r) ≡ c (hi t r)

pub part_one : (n : ℕ) (t : List ℕ) (e v : ℕ) (c : ℕ → Bool) → Flat t e (rows n) c
    → Each (λ i. c i ≡ c v) (part n t e v)
part_one n t e v c flat =
    part-each n e v
    (record { there = λ r h d p. sym (flat r h d) ∙ p; back = λ r h d p. flat r h d ∙ p }) refl

-- ---- a round only adds
sub_spread : (u v s : ℕ) → Sub s (spread u v s)
sub_spread u v s = go (has s u || has s v)
  where
    go : (c : Bool) → Sub s (pick c (add (add s u) v) s)
    go true = sub_trans s (add s u) (add (add s u) v) (sub_add s u) (sub_add (add s u) v)
    go false = sub_refl s

module _ (t : List ℕ) (e : ℕ) where
  sub_round1 : (k s : ℕ) → Sub (round t e k s) (round t e (suc k) s)
  unfolding round
  sub_round1 k s = go (eqb k e)
    where
      go : (c : Bool) → Sub (round t e k s)
          (pick c (round t e k s) (spread (lo t k) (hi t k) (round t e k s)))
      go true = sub_refl (round t e k s)
      go false = sub_spread (lo t k) (hi t k) (round t e k s)

  sub_round : (j k s : ℕ) → j ≤ k → Sub (round t e j s) (round t e k s)
  sub_round j k s h =
      le_ind (λ (k : ℕ). Sub (round t e j s) (round t e k s)) (sub_refl (round t e j s))
      (λ m l ih. sub_trans (round t e j s) (round t e m s) (round t e (suc m) s) ih
      (sub_round1 m s)) k h

  sub_whole : (k s : ℕ) → Sub s (round t e k s)
  unfolding round
  sub_whole k s = sub_round 0 k s zero-le

  sub_start : (m j s : ℕ) → Sub s (rounds t e m j s)
  unfolding rounds
  sub_start m zero s = sub_refl s
  sub_start m (suc j) s = sub_trans s (rounds t e m j s) (round t e m (rounds t e m j s))
      (sub_start m j s) (sub_whole m (rounds t e m j s))

  -- what a whole round leaves alone, each row of it leaves alone
  still_all : (m s k : ℕ) → round t e m s ≡ s → k ≤ m → round t e k s ≡ s
  still_all m s k still h =
      sub_antisymm (round t e k s) s
      (subst (λ (x : ℕ). Sub (round t e k s) x) still (sub_round k m s h)) (sub_whole k s)

  still_row : (m s r : ℕ) → round t e m s ≡ s → r < m → (r ≡ e → ⊥) → spread (lo t r) (hi t r) s ≡ s
  unfolding round
  still_row m s r still h d =
      let here : round t e r s ≡ s = still_all m s r still (omega arith) in
      let next : round t e (suc r) s ≡ s = still_all m s (suc r) still h in
      let shown : pick (eqb r e) (round t e r s) (spread (lo t r) (hi t r) (round t e r s)) ≡ s =
      next in
      rw (ne_eqb r e d, here) at shown

  still_flat : (m s : ℕ) → round t e m s ≡ s → Flat t e m (has s)
  still_flat m s still r h d =
      go (has s (lo t r)) (has s (hi t r)) refl refl (still_row m s r still h d)
    where
      go : (p q : Bool) → has s (lo t r) ≡ p → has s (hi t r) ≡ q
          → pick (p || q) (add (add s (lo t r)) (hi t r)) s ≡ s → has s (lo t r) ≡ has s (hi t r)
      go true true hp hq w = hp ∙ sym hq
      go false false hp hq w = hp ∙ sym hq
      go true false hp hq w = absurd
          (true≢false (sym (ap (λ (x : ℕ). has x (hi t r)) (sym w)
          ∙ add-has (add s (lo t r)) (hi t r)) ∙ hq))
      go false true hp hq w = absurd
          (true≢false (sym (ap (λ (x : ℕ). has x (lo t r)) (sym w) ∙ both) ∙ hp))
        where
          both : has (add (add s (lo t r)) (hi t r)) (lo t r) ≡ true
          both = has-add (add s (lo t r)) (hi t r) (lo t r)
              ∙ ap (λ (b : Bool). b || eqb (hi t r) (lo t r)) (add-has s (lo t r))

-- ---- the rounds come to rest: each adds a member, or they are done
-- the ends of the m rows are nodes below k
abbrev pub Ends : List ℕ → ℕ → ℕ → Type 0
Ends t m k = (r : ℕ) → r < m → (lo t r < k) × (hi t r < k)

add_lt : (k s i : ℕ) → s < 2 ^ k → i < k → add s i < 2 ^ k
unfolding add
add_lt k s i h l = or_lt k s (2 ^ i) h (pow-lt l)

module _ (t : List ℕ) (e m k : ℕ) (ends : Ends t m k) where
  round_lt : (j s : ℕ) → j ≤ m → s < 2 ^ k → round t e j s < 2 ^ k
  unfolding round
  round_lt zero s l h = h
  round_lt (suc j) s l h = go (round_lt j s (omega arith) h) (eqb j e)
      (has (round t e j s) (lo t j) || has (round t e j s) (hi t j))
    where
      go : round t e j s < 2 ^ k → (c d : Bool)
          → pick c (round t e j s) (pick d (add (add (round t e j s) (lo t j)) (hi t j))
          (round t e j s)) < 2 ^ k
      go ih true d = ih
      go ih false true = add_lt k (add (round t e j s) (lo t j)) (hi t j)
          (add_lt k (round t e j s) (lo t j) ih (ends j l).0) (ends j l).1
      go ih false false = ih

  rounds_lt : (j s : ℕ) → s < 2 ^ k → rounds t e m j s < 2 ^ k
  unfolding rounds
  rounds_lt zero s h = h
  rounds_lt (suc j) s h = round_lt m (rounds t e m j s) (le_refl m) (rounds_lt j s h)

  done_or : (s : ℕ) → s < 2 ^ k → 0 < size k s → (j : ℕ)
      → (round t e m (rounds t e m j s) ≡ rounds t e m j s) ⊎ (j < size k (rounds t e m j s))
  unfolding rounds
  done_or s b h zero = inr h
  done_or s b h (suc j) = go (done_or s b h j)
    where
      a : ℕ
      a = rounds t e m j s

      more : j < size k a → (eqb (round t e m a) a ≡ true) ⊎ (eqb (round t e m a) a ≡ false)
          → (round t e m (round t e m a) ≡ round t e m a) ⊎ (suc j < size k (round t e m a))
      more l (inl q) = inl (ap (round t e m) (eqb-true (round t e m a) a q))
      more l (inr q) = inr (grown (size_sub k a (round t e m a) (sub_whole t e m a)) differ)
        where
          differ : size k (round t e m a) ≤ size k a → ⊥
          differ w = eqb-false (round t e m a) a q
              (sym (ext_below k a (round t e m a) (rounds_lt j s b)
              (round_lt m a (le_refl m) (rounds_lt j s b))
              (size_same k a (round t e m a) (sub_whole t e m a) w)))

          grown : size k a ≤ size k (round t e m a) → (size k (round t e m a) ≤ size k a → ⊥)
              → suc j < size k (round t e m a)
          grown w d = omega arith

      go : (round t e m a ≡ a) ⊎ (j < size k a) → (round t e m (round t e m a) ≡ round t e m a)
          ⊎ (suc j < size k (round t e m a))
      go (inl q) = inl (ap (round t e m) q)
      go (inr l) = more l (either (eqb (round t e m a) a))

  rounds_still : (s : ℕ) → s < 2 ^ k → 0 < size k s
      → round t e m (rounds t e m k s) ≡ rounds t e m k s
  rounds_still s b h = go (done_or s b h k)
    where
      go : (round t e m (rounds t e m k s) ≡ rounds t e m k s) ⊎ (k < size k (rounds t e m k s))
          → round t e m (rounds t e m k s) ≡ rounds t e m k s
      go (inl q) = q
      go (inr l) = absurd (omega (arith, size_le k (rounds t e m k s)))

-- ---- what is reached from a node holds it, and only row e leaves it
pub part_start : (n : ℕ) (t : List ℕ) (e v : ℕ) → has (part n t e v) v ≡ true
unfolding part Sub
part_start n t e v = sub_start t e (rows n) (nodes n) (2 ^ v) v (has_pow v v ∙ eq-eqb v v refl)

pub part_flat : (n : ℕ) (t : List ℕ) (e v : ℕ) → Ends t (rows n) (nodes n) → v < nodes n
    → Flat t e (rows n) (has (part n t e v))
unfolding part
part_flat n t e v ends h =
    still_flat t e (rows n) (rounds t e (rows n) (nodes n) (2 ^ v))
    (rounds_still t e (rows n) (nodes n) ends (2 ^ v) (pow-lt h)
    (size_pos (nodes n) (2 ^ v) v h (has_pow v v ∙ eq-eqb v v refl)))

-- ---- the rounds reach exactly the nodes that a chain of rows joins
chain_in : {n : ℕ} {t : List ℕ} {e u : ℕ} → Ends t (rows n) (nodes n) → u < nodes n → (w : ℕ)
    → Chain n t e u w → has (part n t e u) w ≡ true
chain_in {n} {t} {e} {u} ends h w stay = part_start n t e u
chain_in {n} {t} {e} {u} ends h w (up {v = v} r l d a b c) =
    ap (has (part n t e u)) (sym b) ∙ sym (part_flat n t e u ends h r l d)
    ∙ ap (has (part n t e u)) a ∙ chain_in ends h v c
chain_in {n} {t} {e} {u} ends h w (down {w = x} r l d a b c) =
    ap (has (part n t e u)) (sym a) ∙ part_flat n t e u ends h r l d ∙ ap (has (part n t e u)) b
    ∙ chain_in ends h x c

pub reach_chain : (n : ℕ) (t : List ℕ) (e u w : ℕ) → Ends t (rows n) (nodes n) → u < nodes n
    → (has (part n t e u) w ≡ true) ↔ Chain n t e u w
reach_chain n t e u w ends h = (
  part-each n {t = t} e u {P = λ i. Chain n t e u i}
      (record { there = λ r l d c. up r l d refl refl c; back = λ r l d c. down r l d refl refl c })
      stay w,
  chain_in ends h w,
)
