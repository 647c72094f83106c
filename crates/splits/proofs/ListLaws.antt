-- How many splits there are, and two lists of them compared. Assumes nothing.
use mathlib.Core.Path.{◌≡◌, sym, ap, ◌∙◌, subst}
use mathlib.Core.Bool.{Bool, true, false}
use mathlib.Core.List.{List, [], ◌∷◌}
use Prim.Native.Nat.{ℕ, zero, suc, ◌^◌, ◌≤◌, ◌<◌}
use native.Mathlib.Nat.{le_refl}
use native.Mathlib.Omega.{arith}
use lib.Dec.{eqb, ltb}
use lib.ListN.{length, take, replicate, length-replicate}
use borrow.Author.Tests.{ltb-true}
use Rattle.calls.specs.Calls.{Said, gives}
use Rattle.calls.specs.Between.{Wrote}
use Rattle.calls.proofs.StartLaws.{wrote-take}
use Rattle.taxa.specs.Most.{most}
use Rattle.taxa.specs.Sets.{pick, size}
use Rattle.taxa.proofs.Sets.{has_below}
use Rattle.taxa.proofs.Sizes.{size-wide}
use Rattle.tree.specs.Tree.{rows}
use Rattle.tree.specs.Refusals.{Accepted}
use Rattle.tree.specs.Lists.{insert, Asc}
use Rattle.tree.specs.Splits.{side, meets, flips, split, splits_to, splits_by, splits, members}
use Rattle.tree.specs.Splits.{dist_by, missing}
use Rattle.tree.proofs.SplitLaws.{splits_asc}
use Rattle.tree.proofs.Members.{members-count}
use Rattle.splits.specs.Between.{SplitList, lists_apart, Listed}
use Rattle.splits.specs.Promises.{trees_apart}

insert-length : (x : ℕ) (l : List ℕ) → length (insert x l) ≤ suc (length l)
unfolding insert
insert-length x [] = le_refl 1
insert-length x (y ∷ ys) = go (insert-length x ys) (ltb x y) (eqb x y)
  where
    go : length (insert x ys) ≤ suc (length ys) → (p q : Bool)
        → length (pick p (x ∷ y ∷ ys) (pick q (y ∷ ys) (y ∷ insert x ys))) ≤ suc (suc (length ys))
    go ih true q = omega arith
    go ih false true = omega arith
    go ih false false = omega arith

-- ---- how much room is needed: the tree is one, and y names none but its taxa
pub record Within (n : ℕ) (t : List ℕ) (y : ℕ) : Type 0 where
  pub good : Accepted n t
  pub bound : ltb y (2 ^ n) ≡ true

pub needed : {n : ℕ} {t : List ℕ} {y : ℕ} → Within n t y
    → length (splits n t y) ≡ members (size most y)
needed {n} {t} {y} o =
    let bound = ltb-true y (2 ^ n) o.bound in
    members-count y o.good.valid bound
    ∙ ap members (sym (size-wide n most y o.good.few (λ i. has_below n y i bound)))

-- no more splits than rows
splits_to_few : (n : ℕ) (t : List ℕ) (y k : ℕ) → length (splits_to flips n t y k) ≤ k
unfolding splits_to
splits_to_few n t y zero = le_refl 0
splits_to_few n t y (suc k) = go (splits_to_few n t y k) (meets y (side n t k))
  where
    go : length (splits_to flips n t y k) ≤ k → (b : Bool)
        → length (pick b (insert (split n y (side n t k)) (splits_to flips n t y k))
        (splits_to flips n t y k)) ≤ suc k
    go ih true = omega (arith, insert-length (split n y (side n t k)) (splits_to flips n t y k))
    go ih false = omega arith

module _ {n : ℕ} {t : List ℕ} (good : Accepted n t) (y : ℕ) where
  splits-few : length (splits n t y) ≤ rows most
  unfolding splits_by
  splits-few = omega (arith, splits_to_few n t y (rows n), good.few)

  -- an array of as many numbers as a tree has rows has room for them
  pub splits-room : length (splits n t y) ≤ length {A = ℕ} (replicate (rows most) 0)
  splits-room = omega (arith, splits-few, length-replicate {A = ℕ} (rows most) 0)

-- ---- the list of a tree's splits
module _ {n : ℕ} {t : List ℕ} {y : ℕ} where
  -- it is what is written at the start of a lent list
  pub written_listed : Accepted n t → y < 2 ^ n → {m : List ℕ} {r : ℕ} {m' : List ℕ}
      → Wrote length (splits n t y) m r m' → Listed n t y (take r m')
  written_listed good bound w = record { good = good; bound = bound; list = wrote-take w }

  -- it ascends, and is no longer than a tree's rows
  pub listed_list : {a : List ℕ} → Listed n t y a → SplitList a
  listed_list l = record {
    ascends = subst Asc (sym l.list) (splits_asc n t y);
    few = omega (arith, ap length l.list, splits-few l.good y);
  }

-- the comparison of the lists of two trees is that of the trees
pub listed_apart : {n : ℕ} {t u : List ℕ} {y : ℕ} {a b : List ℕ} → Listed n t y a → Listed n u y b
    → ◌≡◌ {A = Said (ℕ × ℕ)} (gives (lists_apart a b)) (gives (trees_apart n t u y))
unfolding dist_by missing
listed_apart k l = rw (k.list, l.list)
