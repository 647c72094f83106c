-- The union of two sets, and that of the sets on a list. Assumes nothing.
use mathlib.Core.Path.{◌≡◌, sym, ap, ◌∙◌}
use mathlib.Core.Bool.{Bool, true, ◌&&◌, ◌||◌, or-false, or_assoc}
use mathlib.Core.List.{List, [], ◌∷◌}
use Prim.Native.Nat.{ℕ, ◌^◌, ◌<◌}
use lib.Bits.{bit_or, or_lt}
use lib.Dec.{ltb}
use borrow.Author.Tests.{ltb-true, lt-ltb}
use Rattle.taxa.specs.Sets.{has, Sub, joined, union, in_some}
use Rattle.taxa.proofs.Bools.{and_left, and_right, and_both, or_left, or_right, bool_eq}
use Rattle.taxa.proofs.Sets.{has_or, has-none, sub_lt}

sub_or_l : (a b : ℕ) → Sub a (bit_or a b)
unfolding Sub
sub_or_l a b i h = rw has_or (or_left (has a i) (has b i) h)

sub_or_r : (a b : ℕ) → Sub b (bit_or a b)
unfolding Sub
sub_or_r a b i h = rw has_or (or_right (has a i) (has b i) h)

-- A union names none but the n taxa exactly where both of its sets do.
pub within_or : (n a b : ℕ) → ltb (bit_or a b) (2 ^ n) ≡ (ltb a (2 ^ n) && ltb b (2 ^ n))
within_or n a b = bool_eq (ltb (bit_or a b) (2 ^ n)) (ltb a (2 ^ n) && ltb b (2 ^ n)) apart together
  where
    apart : ltb (bit_or a b) (2 ^ n) ≡ true → (ltb a (2 ^ n) && ltb b (2 ^ n)) ≡ true
    apart h =
        let l : bit_or a b < 2 ^ n = ltb-true (bit_or a b) (2 ^ n) h in
        and_both (ltb a (2 ^ n)) (ltb b (2 ^ n))
        (lt-ltb a (2 ^ n) (sub_lt n a (bit_or a b) (sub_or_l a b) l))
        (lt-ltb b (2 ^ n) (sub_lt n b (bit_or a b) (sub_or_r a b) l))

    together : (ltb a (2 ^ n) && ltb b (2 ^ n)) ≡ true → ltb (bit_or a b) (2 ^ n) ≡ true
    together h =
        lt-ltb (bit_or a b) (2 ^ n)
        (or_lt n a b (ltb-true a (2 ^ n) (and_left (ltb a (2 ^ n)) (ltb b (2 ^ n)) h))
        (ltb-true b (2 ^ n) (and_right (ltb a (2 ^ n)) (ltb b (2 ^ n)) h)))

-- ---- the sets on a list

-- The members of what is joined.
has-joined : (s : ℕ) (ys : List ℕ) (i : ℕ) → has (joined s ys) i ≡ (has s i || in_some ys i)
unfolding in_some
has-joined s [] i = sym (or-false (has s i))
has-joined s (y ∷ ys) i = has-joined (bit_or s y) ys i
    ∙ ap (λ (b : Bool). b || in_some ys i) (has_or s y i)
    ∙ or_assoc (has s i) (has y i) (in_some ys i)

-- A union has the members of the sets on the list, and no others.
pub has-union : (ys : List ℕ) (i : ℕ) → has (union ys) i ≡ in_some ys i
has-union ys i = has-joined 0 ys i ∙ ap (λ (b : Bool). b || in_some ys i) (has-none i)
