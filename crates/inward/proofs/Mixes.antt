-- Numbers mixed by exclusive or into a free place, and taken out again. Assumes
-- nothing.
use mathlib.Core.Path.{◌≡◌, refl, sym, ap, ◌∙◌}
use mathlib.Core.Logic.{inl, inr}
use mathlib.Core.Bool.{Bool, true, false}
use Prim.Native.Nat.{ℕ, zero, suc, ◌+◌, ◌<◌}
use native.Mathlib.Nat.{le_refl}
use native.Mathlib.Omega.{arith}
use lib.Arith.{lt_of_le-ne}
use lib.Bits.{bit_xor, xor_comm, xor_self, xor_zero_r}
use lib.Dec.{eqb}
use borrow.Author.Tests.{eqb-true, eqb-false}
use Rattle.taxa.specs.Sets.{pick, tally, has}
use Rattle.taxa.proofs.Bools as bools
use Rattle.taxa.proofs.Bools.{Either, either}
use Rattle.taxa.proofs.Sets.{has_xor, ext}
use Rattle.tree.specs.Tree.{count}
use Rattle.tree.proofs.RowCounts.{but, but_other}
use Rattle.node_rows.specs.Between.{free}
use Rattle.inward.specs.Search.{mix_of, mix2, mix3}

-- ---- exclusive or
xor_assoc : (a b c : ℕ) → bit_xor (bit_xor a b) c ≡ bit_xor a (bit_xor b c)
xor_assoc a b c = ext (bit_xor (bit_xor a b) c) (bit_xor a (bit_xor b c)) (λ i.
    rw (has_xor (bit_xor a b) c i, has_xor a b i, has_xor a (bit_xor b c) i, has_xor b c i)
    (sym (bools.xor_assoc (has a i) (has b i) (has c i))))

-- what is mixed in first and what second
xor_swap : (a b c : ℕ) → bit_xor (bit_xor a b) c ≡ bit_xor (bit_xor a c) b
xor_swap a b c = xor_assoc a b c ∙ ap (bit_xor a) (xor_comm b c) ∙ sym (xor_assoc a c b)

-- mixed in twice is not mixed in
xor_twice : (a b : ℕ) → bit_xor (bit_xor a b) b ≡ a
xor_twice a b = xor_assoc a b b ∙ ap (bit_xor a) (xor_self b) ∙ xor_zero_r a

-- ---- three numbers, mixed: their order does not count
pub mix_swap : (x y z : ℕ) → mix3 x y z ≡ mix3 y x z
mix_swap x y z = ap (λ (w : ℕ). bit_xor w z) (xor_swap free x y)

pub mix_turn : (x y z : ℕ) → mix3 x y z ≡ mix3 z x y
mix_turn x y z =
    xor_swap (bit_xor free x) y z ∙ ap (λ (w : ℕ). bit_xor w y) (xor_swap free x z)

-- the first of them taken out again
pub mix_first : (x y z : ℕ) → bit_xor (mix3 x y z) x ≡ mix2 y z
mix_first x y z = ap (λ (w : ℕ). bit_xor w x) (sym (mix_turn y z x)) ∙ xor_twice (mix2 y z) x

-- ---- the last one that is left in a place: of one, and of two the other
pub mix_one : (r : ℕ) → bit_xor (bit_xor free r) free ≡ r
mix_one r = ap (λ (w : ℕ). bit_xor w free) (xor_comm free r) ∙ xor_twice r free

pub mix_third : (y z : ℕ) → bit_xor (bit_xor (mix2 y z) z) free ≡ y
mix_third y z = ap (λ (w : ℕ). bit_xor w free) (xor_twice (bit_xor free y) z) ∙ mix_one y

pub mix_second : (y z : ℕ) → bit_xor (bit_xor (mix2 y z) y) free ≡ z
mix_second y z = ap (λ (w : ℕ). bit_xor (bit_xor w y) free) (xor_swap free y z) ∙ mix_third z y

-- ---- the numbers that pass a test, mixed
mix_same : (P Q : ℕ → Bool) (k : ℕ) → ((r : ℕ) → r < k → P r ≡ Q r) → mix_of P k ≡ mix_of Q k
unfolding mix_of
mix_same P Q zero h = refl
mix_same P Q (suc k) h =
    rw (h k (le_refl (suc k)), mix_same P Q k (λ r l. h r (omega arith)))

-- one that passes can be mixed in last
pub mix_drop : (P : ℕ → Bool) (e k : ℕ) → P e ≡ true → e < k
    → mix_of P k ≡ bit_xor (mix_of (but P e) k) e
unfolding mix_of
mix_drop P e zero p h = absurd (omega arith)
mix_drop P e (suc k) p h = go (λ l. mix_drop P e k p l) (either (eqb k e))
  where
    go : (e < k → mix_of P k ≡ bit_xor (mix_of (but P e) k) e) → Either (eqb k e)
        → pick (P k) (bit_xor (mix_of P k) k) (mix_of P k)
        ≡ bit_xor (pick (but P e k) (bit_xor (mix_of (but P e) k) k) (mix_of (but P e) k)) e
    go ih (inl w) =
        let d = eqb-true k e w in
        rw (
          ap P d ∙ p,
          w,
          mix_same P (but P e) k (λ r l.
              sym (but_other P e r (λ q. omega arith))),
          d,
        )
    go ih (inr w) = rw (but_other P e k (eqb-false k e w)) (at (P k))
      where
        before : mix_of P k ≡ bit_xor (mix_of (but P e) k) e
        before = ih (lt_of_le-ne (omega arith) (λ d. eqb-false k e w (sym d)))

        at : (b : Bool) → pick b (bit_xor (mix_of P k) k) (mix_of P k)
            ≡ bit_xor (pick b (bit_xor (mix_of (but P e) k) k) (mix_of (but P e) k)) e
        at true = ap (λ (x : ℕ). bit_xor x k) before ∙ xor_swap (mix_of (but P e) k) e k
        at false = before

-- none passes, and the place is free
pub mix_none : (P : ℕ → Bool) (k : ℕ) → count P k ≡ 0 → mix_of P k ≡ free
unfolding mix_of count
mix_none P zero h = refl
mix_none P (suc k) h = go (mix_none P k) (P k) h
  where
    go : (count P k ≡ 0 → mix_of P k ≡ free) → (b : Bool) → tally b + count P k ≡ 0
        → pick b (bit_xor (mix_of P k) k) (mix_of P k) ≡ free
    go ih true h = absurd (omega arith)
    go ih false h = ih (omega arith)
