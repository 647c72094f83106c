-- The first number of a list that another lacks, number by number of the two
-- from places i and j on. Assumes nothing.
use mathlib.Core.Path.{◌≡◌, sym, ◌∙◌}
use mathlib.Core.List.{List}
use mathlib.Core.Bool.{true, false}
use Prim.Native.Nat.{ℕ, ◌+◌, ◌≤◌, ◌<◌}
use native.Mathlib.Omega.{arith}
use native.Mathlib.Numerals.{add-one}
use lib.ListN.{length, drop, get_or, drop_of_length-le}
use lib.Seq.{drop-cons}
use borrow.Author.Tests.{eq-eqb, ne_eqb}
use Rattle.tree.specs.Lists.{mem, first_lack}

-- ---- the search of x on b: it is not among the first j numbers
mem-here : (x : ℕ) (b : List ℕ) (j : ℕ) → j < length b → get_or b j 0 ≡ x → mem x (drop j b) ≡ true
unfolding mem
mem-here x b j h e = rw (drop-cons b j 0 h, eq-eqb x (get_or b j 0) (sym e))

pub record Sought (x : ℕ) (b : List ℕ) (j : ℕ) : Type 0 where
  pub upto : j ≤ length b
  pub rest : mem x b ≡ mem x (drop j b)

module _ {x : ℕ} {b : List ℕ} {j : ℕ} (S : Sought x b j) where
  pub sought_end : length b ≤ j → mem x b ≡ false
  unfolding mem
  sought_end h = S.rest ∙ rw (drop_of_length-le b h)

  module _ (h : j < length b) where
    pub sought_here : get_or b j 0 ≡ x → mem x b ≡ true
    sought_here e = S.rest ∙ mem-here x b j h e

    pub sought_more : (get_or b j 0 ≡ x → ⊥) → Sought x b (j + 1)
    unfolding mem
    sought_more d = record {
      upto = omega arith;
      rest = S.rest ∙ rw (add-one, drop-cons b j 0 h, ne_eqb x (get_or b j 0) (λ q. d (sym q)));
    }

-- ---- the first of a that b lacks: it is not among the first i numbers
pub record Held (a b : List ℕ) (i : ℕ) : Type 0 where
  pub upto : i ≤ length a
  pub rest : first_lack a b ≡ first_lack (drop i a) b

module _ {a b : List ℕ} {i : ℕ} (H : Held a b i) where
  pub held_end : length a ≤ i → 0 ≡ first_lack a b
  unfolding first_lack
  held_end h = sym (H.rest ∙ rw (drop_of_length-le a h))

  module _ (h : i < length a) where
    pub held_lack : mem (get_or a i 0) b ≡ false → get_or a i 0 ≡ first_lack a b
    unfolding first_lack
    held_lack e = sym (H.rest ∙ rw (drop-cons a i 0 h, e))

    pub held_more : mem (get_or a i 0) b ≡ true → Held a b (i + 1)
    unfolding first_lack
    held_more e =
        record { upto = omega arith; rest = H.rest ∙ rw (add-one, drop-cons a i 0 h, e) }
