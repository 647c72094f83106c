-- Laws for listing the splits from the sides. Assumes nothing.
use mathlib.Core.Path.{◌≡◌, refl, sym, ap, ap₂, ◌∙◌, subst}
use mathlib.Core.Bool.{Bool, true, false, not}
use mathlib.Core.List.{List, [], ◌∷◌}
use Prim.Native.Nat.{ℕ, zero, suc, ◌+◌, ◌^◌, ◌≤◌, ◌<◌, zero-le}
use native.Mathlib.Nat.{le_refl}
use native.Mathlib.Decide.{le_ind}
use native.Mathlib.Numerals.{add-one}
use native.Mathlib.Omega.{arith}
use lib.Dec.{eqb, ltb}
use lib.ListN.{length, get_or, take, take-append-drop}
use lib.Seq.{length-take-le}
use borrow.Author.Tests.{eq-eqb, ne_eqb}
use Rattle.calls.specs.Calls.{at_start}
use Rattle.calls.specs.Between.{Wrote}
use Rattle.calls.proofs.StartLaws.{start_again, wrote-length, wrote_end, wrote-take}
use Rattle.taxa.specs.Most.{most}
use Rattle.taxa.specs.Sets.{pick, some, lowest}
use Rattle.taxa.proofs.Bools.{bool_eq}
use Rattle.taxa.proofs.Sets.{some_zero, lowest-wide, lowest_lt}
use Rattle.tree.specs.Tree.{rows}
use Rattle.tree.specs.Lists.{insert}
use Rattle.tree.specs.Splits.{side, meets, flips, split, splits_to, splits_by, splits}
use Rattle.tree.proofs.SplitLaws.{some-meets, meets-some, nothing-split}
use Rattle.sides.specs.Between.{Sides}
use Rattle.split_lists.specs.Between.{added, splits_of}

-- ---- the list from the sides is the list of the tree
module _ {n y : ℕ} {t ss : List ℕ} (bound : y < 2 ^ n) (S : Sides n t ss) where
  splits_to_lem : (k : ℕ) → k ≤ rows n → splits_of n y ss k ≡ splits_to flips n t y k
  unfolding splits_of splits_to added
  splits_to_lem zero h = refl
  splits_to_lem (suc k) h =
      rw (
        S.right k h,
        splits_to_lem k (omega arith),
        bool_eq (some (split n y (side n t k))) (meets y (side n t k))
            (some-meets n y (side n t k) bound) (meets-some n y (side n t k)),
      )

  pub splits-all : splits_of n y ss (rows n) ≡ splits n t y
  unfolding splits_by
  splits-all = splits_to_lem (rows n) (le_refl (rows n))

-- over an empty partition the list is empty
pub splits-none : (n : ℕ) (ss : List ℕ) (k : ℕ) → splits_of n 0 ss k ≡ []
unfolding splits_of added
splits-none n ss zero = refl
splits-none n ss (suc k) =
    ap₂ (λ (b : Bool) (l : List ℕ). pick b (insert (split n 0 (get_or ss k 0)) l) l)
    (ap some (nothing-split n (get_or ss k 0)) ∙ some_zero) (splits-none n ss k)

-- ---- the lowest taxon of a partition that has one
pub low_lt : {n y low : ℕ} → n ≤ most → y < 2 ^ n → (y ≡ 0 → ⊥) → low ≡ lowest most y → low < most
unfolding some
low_lt {n} {y} few bound d h =
    let p : some y ≡ true = ap not (ne_eqb y 0 d) in
    omega (arith, lowest-wide n most y few bound p, lowest_lt n y bound p)

-- ---- lengths
length-insert : (x : ℕ) (l : List ℕ) → length l ≤ length (insert x l)
unfolding insert
length-insert x [] = zero-le
length-insert x (y ∷ ys) = go (length-insert x ys) (ltb x y) (eqb x y)
  where
    go : length ys ≤ length (insert x ys) → (p q : Bool)
        → suc (length ys) ≤ length (pick p (x ∷ y ∷ ys) (pick q (y ∷ ys) (y ∷ insert x ys)))
    go ih true q = omega arith
    go ih false true = omega arith
    go ih false false = omega arith

length-added : (x : ℕ) (l : List ℕ) → length l ≤ length (added x l)
unfolding added
length-added x l = go (some x)
  where
    go : (b : Bool) → length l ≤ length (pick b (insert x l) l)
    go true = length-insert x l
    go false = le_refl (length l)

length_more : (n y : ℕ) (ss : List ℕ) (j k : ℕ) → j ≤ k
    → length (splits_of n y ss j) ≤ length (splits_of n y ss k)
unfolding splits_of
length_more n y ss j k h =
    le_ind (λ (k : ℕ). length (splits_of n y ss j) ≤ length (splits_of n y ss k))
    (le_refl (length (splits_of n y ss j)))
    (λ m l ih. omega (arith, ih, length-added (split n y (get_or ss m 0)) (splits_of n y ss m))) k h

-- ---- the loop: the first i sides are listed at the start of what was lent
pub record Listed (n y : ℕ) (ss out₀ : List ℕ) (len i : ℕ) (out : List ℕ) : Type 0 where
  pub room : length (splits_of n y ss (rows n)) ≤ length out₀
  pub upto : i ≤ rows n
  pub wrote : Wrote length (splits_of n y ss i) out₀ len out

pub listed_none : {n y : ℕ} {ss out : List ℕ} → length (splits_of n y ss (rows n)) ≤ length out
    → Listed n y ss out 0 0 out
unfolding splits_of
listed_none h =
    record { room = h; upto = omega arith; wrote = record { count = refl; memory = refl } }

module _ {n y : ℕ} {ss out₀ : List ℕ} {len i : ℕ} {out : List ℕ}
    (L : Listed n y ss out₀ len i out) where
  pub listed_length : length out ≡ length out₀
  listed_length =
      wrote-length L.wrote (omega (arith, length_more n y ss i (rows n) L.upto, L.room))

  pub listed_fits : len ≤ length out
  listed_fits = wrote_end L.wrote

  pub listed_all : rows n ≤ i → Wrote length (splits_of n y ss (rows n)) out₀ len out
  listed_all h =
      let done : i ≡ rows n = omega (arith, L.upto) in
      subst (λ (k : ℕ). Wrote length (splits_of n y ss k) out₀ len out) done L.wrote

  module _ {x : ℕ} (more : i < rows n) (ex : x ≡ split n y (get_or ss i 0)) where
    one_more : added x (take len out) ≡ splits_of n y ss (i + 1)
    unfolding splits_of
    one_more = rw (add-one i, ex, wrote-take L.wrote)

    pub listed_room : length (added x (take len out)) ≤ length out
    listed_room = omega (
      arith,
      ap length one_more,
      length_more n y ss (i + 1) (rows n) (omega arith),
      L.room,
      listed_length,
    )

    pub listed_more : {r : ℕ} {out' : List ℕ} → Wrote length (added x (take len out)) out r out'
        → Listed n y ss out₀ r (i + 1) out'
    listed_more M =
        let grows = length_more n y ss i (i + 1) (omega arith) in
        record {
          room = L.room;
          upto = omega arith;
          wrote = record {
            count = M.count ∙ ap length one_more;
            memory = M.memory ∙ ap₂ at_start one_more L.wrote.memory
                ∙ start_again (splits_of n y ss i) (splits_of n y ss (i + 1)) out₀ grows;
          };
        }

-- ---- one number
added_zero : {x : ℕ} → x ≡ 0 → (l : List ℕ) → added x l ≡ l
unfolding added some
added_zero {x} h l = rw (eq-eqb x 0 h)

pub added-insert : {x : ℕ} → (x ≡ 0 → ⊥) → (l : List ℕ) → added x l ≡ insert x l
unfolding added some
added-insert {x} h l = rw (ne_eqb x 0 h)

pub listed_kept : {x len : ℕ} {out : List ℕ} → x ≡ 0 → len ≤ length out
    → Wrote length (added x (take len out)) out len out
listed_kept {x} {len} {out} h l =
    let few : length (take len out) ≡ len = length-take-le len out l in
    rw (added_zero h (take len out))
    (record { count = sym few; memory = rw few (sym (take-append-drop len out)) })
