-- A list of partitions judged by its union, test by test. Assumes nothing.
use mathlib.Core.Path.{◌≡◌, refl, sym, ap, ◌∙◌}
use mathlib.Core.Logic.{◌⊎◌, inl, inr}
use mathlib.Core.Bool.{Bool, true, false, not, ◌&&◌, and-true, and_assoc}
use mathlib.Core.List.{List, [], ◌∷◌}
use Prim.Native.Nat.{ℕ, ◌^◌, ◌≤◌, ◌<◌}
use native.Mathlib.Omega.{arith}
use lib.Bits.{bit_or}
use lib.Dec.{eqb, ltb, leb}
use lib.ListN.{length}
use lib.Pow.{pow_pos}
use borrow.Author.Tests.{lt-ltb, ltb-true, le-leb, lt-leb, leb-true, eqb-true, eq-eqb}
use Rattle.calls.specs.declared.Refusal.{Refusal}
use Rattle.calls.specs.Calls.{Check, ◌else◌, Said, gives, refuses, judged, Pass}
use Rattle.calls.proofs.CheckLaws.{judged-next, judged_fail}
use Rattle.taxa.specs.Most.{most, most_partitions}
use Rattle.taxa.specs.Sets.{pick, has, full, less, joined, union, in_some}
use Rattle.taxa.proofs.Bools.{either, not_both, and_left, and_right, and_both, bool_eq}
use Rattle.taxa.proofs.Sets.{has-none, has_ones, has-less, none_zero}
use Rattle.taxa.proofs.Unions.{within_or, has-union}
use Rattle.tree.specs.Tree.{every}
use Rattle.tree.specs.Refusals.{each, all_seen, partitions_checks}
use Rattle.tree.proofs.RowCounts.{every-all, all-every, every_same}
use Rattle.door.specs.Between.{counted, count_right, parts_said}

module _ (n : ℕ) where
  -- ---- the union of a list

  -- It names none but the n taxa exactly where each set on the list does.
  within-joined : (s : ℕ) (ys : List ℕ)
      → ltb (joined s ys) (2 ^ n) ≡ (ltb s (2 ^ n) && each (λ y. ltb y (2 ^ n)) ys)
  unfolding each
  within-joined s [] = sym (and-true (ltb s (2 ^ n)))
  within-joined s (y ∷ ys) =
      let rest : Bool = each (λ z. ltb z (2 ^ n)) ys in
      within-joined (bit_or s y) ys ∙ ap (λ (b : Bool). b && rest) (within_or n s y)
      ∙ and_assoc (ltb s (2 ^ n)) (ltb y (2 ^ n)) rest

  pub within-union : (ys : List ℕ) → ltb (union ys) (2 ^ n) ≡ each (λ y. ltb y (2 ^ n)) ys
  within-union ys = within-joined 0 ys
      ∙ ap (λ (b : Bool). b && each (λ y. ltb y (2 ^ n)) ys) (lt-ltb 0 (2 ^ n) (pow_pos n))

  -- It has each of the n taxa exactly where each is in some set on the list.
  pub seen-union : (ys : List ℕ) → every (has (union ys)) n ≡ all_seen n ys
  seen-union ys = every_same (has (union ys)) (in_some ys) n (λ i l. has-union ys i)

  -- ---- a set that has each of the n taxa

  -- Where no taxon is left without it, it has each; and the other way round.
  pub covers_is : (y : ℕ) → eqb (less (full n) y) 0 ≡ every (has y) n
  covers_is y = bool_eq (eqb (less (full n) y) 0) (every (has y) n) there back
    where
      left : ℕ
      left = less (full n) y

      there : eqb (less (full n) y) 0 ≡ true → every (has y) n ≡ true
      there h = all-every (has y) n (λ i l. go i l (either (has y i)))
        where
          go : (i : ℕ) → i < n → (has y i ≡ true) ⊎ (has y i ≡ false) → has y i ≡ true
          go i l (inl w) = w
          go i l (inr w) =
              absurd (not_both (has left i)
              (has-less (full n) y i ∙ and_both (has (full n) i) (not (has y i))
              (has_ones n i ∙ lt-ltb i n l) (ap not w))
              (ap (λ (z : ℕ). has z i) (eqb-true left 0 h) ∙ has-none i))

      back : every (has y) n ≡ true → eqb (less (full n) y) 0 ≡ true
      back h = eq-eqb left 0 (none_zero left none)
        where
          none : (i : ℕ) → has left i ≡ true → ⊥
          none i w =
              let both : (has (full n) i && not (has y i)) ≡ true =
              sym (has-less (full n) y i) ∙ w in
              let l : i < n = ltb-true i n
              (sym (has_ones n i) ∙ and_left (has (full n) i) (not (has y i)) both) in
              not_both (not (has y i)) (and_right (has (full n) i) (not (has y i)) both)
              (ap not (every-all (has y) n h i l))

-- ---- how many partitions there are
module _ (count : ℕ) where
  pub count_none : count ≡ 0 → false ≡ count_right count
  count_none h = rw (lt-leb 1 count (omega (arith, h)))

  pub count-some : (count ≡ 0 → ⊥) → leb count most_partitions ≡ count_right count
  count-some d = rw (le-leb 1 count (omega (arith, d)))

-- ---- what the tests of partitions say

-- Where n is no number of taxa they say nothing.
module _ (n : ℕ) where
  pub counted-low : n < 4 → false ≡ counted n
  counted-low h = rw (lt-leb 4 n h)

  pub counted_high : 4 ≤ n → leb n most ≡ counted n
  counted_high h = rw (le-leb 4 n h)

  pub counted_range : counted n ≡ true → (4 ≤ n) × (n ≤ most)
  counted_range h = (
    leb-true 4 n (and_left (leb 4 n) (leb n most) h),
    leb-true n most (and_right (leb 4 n) (leb n most) h),
  )

  module _ (cs : List Check) where
    pub parts_none : counted n ≡ false → gives tt ≡ parts_said n cs
    parts_none h = rw h

    parts_said_lem : counted n ≡ true → judged cs tt ≡ parts_said n cs
    parts_said_lem h = rw h

-- No partitions, no checks of them.
pub no_parts : (n : ℕ) → gives tt ≡ parts_said n []
unfolding judged
no_parts n = go (counted n)
  where
    go : (b : Bool) → gives (tt {0}) ≡ pick b (gives tt) (gives tt)
    go true = refl
    go false = refl

-- A list.
module _ (n : ℕ) (ys : List ℕ) where
  abbrev each_within : Bool
  each_within = each (λ y. ltb y (2 ^ n)) ys

  abbrev list_said : Said (Unit {0})
  list_said = parts_said n (partitions_checks n ys)

  list_6 : counted n ≡ true → (count_right (length ys) && each_within) ≡ false
      → refuses Refusal.Partition ≡ list_said
  unfolding judged
  list_6 c h = rw (c, h)

  pub count_6 : counted n ≡ true → count_right (length ys) ≡ false
      → refuses Refusal.Partition ≡ list_said
  count_6 c h = list_6 c (ap (λ (b : Bool). b && each_within) h)

-- A list that has as many partitions as it may, all being its union.
pub record United (n : ℕ) (ys : List ℕ) (all : ℕ) : Type 0 where
  pub number : counted n ≡ true
  pub right : count_right (length ys) ≡ true
  pub is : all ≡ union ys

module _ {n : ℕ} {ys : List ℕ} {all : ℕ} (u : United n ys all) where
  by_union : (count_right (length ys) && each_within n ys) ≡ ltb all (2 ^ n)
  by_union = ap (λ (b : Bool). b && each_within n ys) u.right
      ∙ sym (ap (λ (z : ℕ). ltb z (2 ^ n)) u.is ∙ within-union n ys)

  pub union_6 : ltb all (2 ^ n) ≡ false → refuses Refusal.Partition ≡ list_said n ys
  union_6 w = list_6 n ys u.number (by_union ∙ w)

  module _ (w : ltb all (2 ^ n) ≡ true) where
    past_6 : judged ((every (has all) n else Refusal.Unseen) ∷ []) tt ≡ list_said n ys
    past_6 =
        sym (judged-next (count_right (length ys) && each_within n ys) Refusal.Partition
        ((all_seen n ys else Refusal.Unseen) ∷ []) tt (by_union ∙ w)
        ∙ ap (λ (b : Bool). judged ((b else Refusal.Unseen) ∷ []) tt)
        (sym (ap (λ (z : ℕ). every (has z) n) u.is ∙ seen-union n ys)))
        ∙ parts_said_lem n (partitions_checks n ys) u.number

    pub union_right : every (has all) n ≡ true → gives tt ≡ list_said n ys
    unfolding judged
    union_right h = sym (judged-next (every (has all) n) Refusal.Unseen [] tt h) ∙ past_6

    pub union_16 : every (has all) n ≡ false → refuses Refusal.Unseen ≡ list_said n ys
    union_16 h = sym (judged_fail (every (has all) n) Refusal.Unseen [] tt h) ∙ past_6

module _ (n : ℕ) (ys : List ℕ) where
  -- Of a list that is right: it is not too long, and each of its partitions
  -- is right.
  pub few_of : Pass (partitions_checks n ys) → length ys ≤ most_partitions
  few_of p =
      let count = leb 1 (length ys) in
      let few = leb (length ys) most_partitions in
      leb-true (length ys) most_partitions
      (and_right count few (and_left (count && few) (each_within n ys) p.0))

  pub each_of : Pass (partitions_checks n ys) → each (λ y. ltb y (2 ^ n)) ys ≡ true
  each_of p = and_right (count_right (length ys)) (each_within n ys) p.0

-- what the check is to use
pub ruleset list_laws = (count_6, union_6, union_right, union_16)

pub ruleset union_laws = (seen-union)
