-- What the places of the nodes hold after a row came to a node. Assumes nothing.
use mathlib.Core.Path.{◌≡◌, ◌∙◌}
use mathlib.Core.List.{List}
use Prim.Native.Nat.{ℕ, ◌+◌, ◌*◌, ◌<◌}
use native.Mathlib.Omega.{arith}
use lib.Bits.{bit_xor}
use lib.ListN.{length, get_or, set, length-set}
use lib.Seq.{get_or-set_same, get_or-set_other}
use Rattle.node_rows.specs.Between.{up, first, second}
use Rattle.inward.specs.Between.{node}
use Rattle.inward.specs.Search.{came_first, last_row, came_second}

-- b holds what a holds at nodes other than w, and the same first k nodes of the
-- order
pub record Beside (a b : List ℕ) (w k : ℕ) : Type 0 where
  pub len : length b ≡ length a
  pub ups : (u : ℕ) → (u ≡ w → ⊥) → up b u ≡ up a u
  pub firsts : (u : ℕ) → (u ≡ w → ⊥) → first b u ≡ first a u
  pub seconds : (u : ℕ) → (u ≡ w → ⊥) → second b u ≡ second a u
  pub places : (j : ℕ) → j < k → node b j ≡ node a j

-- b is a after x is written at p and then y at q
record Twice (a b : List ℕ) (p q x y : ℕ) : Type 0 where
  len : length b ≡ length a
  at_p : get_or b p 0 ≡ x
  at_q : get_or b q 0 ≡ y
  other : (s : ℕ) → (s ≡ p → ⊥) → (s ≡ q → ⊥) → get_or b s 0 ≡ get_or a s 0

twice : {a : List ℕ} {p q x y : ℕ} → p < length a → q < length a → (p ≡ q → ⊥)
    → Twice a (set (set a p x) q y) p q x y
twice {a} {p} {q} {x} {y} lp lq pq = record {
  len = length-set (set a p x) q y ∙ length-set a p x;
  at_p = get_or-set_other (set a p x) q p y 0 pq ∙ get_or-set_same a p x 0 lp;
  at_q = get_or-set_same (set a p x) q y 0 (omega (arith, length-set a p x));
  other = λ s d e. get_or-set_other (set a p x) q s y 0 e ∙ get_or-set_other a p s x 0 d;
}

-- ---- b is a after row r came to node w as the first
pub record AfterFirst (a b : List ℕ) (w r k : ℕ) : Type 0 where
  pub up_w : up b w ≡ bit_xor (up a w) r
  pub first_w : first b w ≡ r
  pub seconds : (u : ℕ) → second b u ≡ second a u
  pub beside : Beside a b w k

pub after_first : {a : List ℕ} {w : ℕ} (r k : ℕ) → 4 * w + 3 < length a
    → AfterFirst a (came_first a w r) w r k
after_first {a} {w} r k room = record {
  up_w = T.at_q;
  first_w = T.at_p;
  seconds = λ u. T.other (4 * u + 2) (λ d. omega arith) (λ d. omega arith);
  beside = record {
    len = T.len;
    ups = λ u ne. T.other (4 * u) (λ d. omega arith) (λ d. ne (omega arith));
    firsts = λ u ne. T.other (4 * u + 1) (λ d. ne (omega arith)) (λ d. omega arith);
    seconds = λ u ne. T.other (4 * u + 2) (λ d. omega arith) (λ d. omega arith);
    places = λ j l. T.other (4 * j + 3) (λ d. omega arith) (λ d. omega arith);
  };
}
  where
    T : Twice a (came_first a w r) (4 * w + 1) (4 * w) r (bit_xor (up a w) r)
    T = twice (omega arith) (omega arith) (λ d. omega arith)

-- ---- b is a after it came as the second, and w is node k of the order
pub record AfterSecond (a b : List ℕ) (w r k : ℕ) : Type 0 where
  pub up_w : up b w ≡ last_row a w r
  pub first_w : first b w ≡ first a w
  pub second_w : second b w ≡ r
  pub node_k : node b k ≡ w
  pub beside : Beside a b w k

pub after-second : {a : List ℕ} {w k : ℕ} (r : ℕ) → 4 * w + 3 < length a → 4 * k + 3 < length a
    → AfterSecond a (came_second a w r k) w r k
after-second {a} {w} {k} r room room-k = record {
  up_w = last (4 * w) (λ d. omega arith) ∙ T.at_q;
  first_w = other (4 * w + 1) (λ d. omega arith) (λ d. omega arith) (λ d. omega arith);
  second_w = last (4 * w + 2) (λ d. omega arith) ∙ T.at_p;
  node_k = get_or-set_same a₂ (4 * k + 3) w 0 (omega (arith, T.len));
  beside = record {
    len = length-set a₂ (4 * k + 3) w ∙ T.len;
    ups = λ u ne. other (4 * u) (λ d. omega arith) (λ d. ne (omega arith)) (λ d. omega arith);
    firsts = λ u ne. other (4 * u + 1) (λ d. omega arith) (λ d. omega arith) (λ d. omega arith);
    seconds = λ u ne. other (4 * u + 2) (λ d. ne (omega arith)) (λ d. omega arith)
        (λ d. omega arith);
    places = λ j l. other (4 * j + 3) (λ d. omega arith) (λ d. omega arith) (λ d. omega arith);
  };
}
  where
    a₂ : List ℕ
    a₂ = set (set a (4 * w + 2) r) (4 * w) (last_row a w r)

    T : Twice a a₂ (4 * w + 2) (4 * w) r (last_row a w r)
    T = twice (omega arith) (omega arith) (λ d. omega arith)

    last : (s : ℕ) → (s ≡ 4 * k + 3 → ⊥) → get_or (came_second a w r k) s 0 ≡ get_or a₂ s 0
    last s = get_or-set_other a₂ (4 * k + 3) s w 0

    other : (s : ℕ) → (s ≡ 4 * w + 2 → ⊥) → (s ≡ 4 * w → ⊥) → (s ≡ 4 * k + 3 → ⊥)
        → get_or (came_second a w r k) s 0 ≡ get_or a s 0
    other s c d e = last s e ∙ T.other s c d
