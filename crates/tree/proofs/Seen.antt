-- Lists in which each of the n taxa is in some partition. Assumes nothing.
use mathlib.Core.Path.{◌≡◌}
use mathlib.Core.Logic.{◌⊎◌, inl, inr}
use mathlib.Core.Bool.{true, ◌||◌, false≢true}
use mathlib.Core.List.{List, [], ◌∷◌, ◌++◌}
use Prim.Native.Nat.{ℕ, ◌<◌}
use Rattle.taxa.specs.Sets.{has, in_some, Sub}
use Rattle.taxa.proofs.Bools.{or_left, or_right, or_cases}
use Rattle.tree.specs.Splits.{Gains}
use Rattle.calls.specs.Calls.{Check, gives, judged}
use Rattle.tree.specs.Refusals.{tree_checks, all_seen, partitions_checks}
use Rattle.calls.proofs.CheckLaws.{gives_pass, pass_after}
use Rattle.tree.proofs.RowCounts.{every-all, all-every}

-- Each taxon is in some partition of such a list.
pub seen_in : (n : ℕ) (ys : List ℕ) → all_seen n ys ≡ true → (i : ℕ) → i < n → in_some ys i ≡ true
seen_in n ys h i l = every-all (in_some ys) n h i l

-- So it is where checks that go through those of a list give their answer.
pub given-seen : {A : Type 0} (n : ℕ) (t ys : List ℕ) (cs : List Check) (a b : A)
    → judged (tree_checks n t ++ partitions_checks n ys ++ cs) a ≡ gives b → (i : ℕ) → i < n
    → in_some ys i ≡ true
given-seen n t ys cs a b h i l =
    let p = gives_pass (tree_checks n t ++ partitions_checks n ys ++ cs) a b h in
    seen_in n ys (pass_after (tree_checks n t) (partitions_checks n ys ++ cs) p).1.0 i l

-- What is in some partition stays so where each of them gains members.
in_gains : (n : ℕ) (ys zs : List ℕ) → Gains n ys zs → (i : ℕ) → in_some ys i ≡ true
    → in_some zs i ≡ true
unfolding in_some Sub
in_gains n [] [] g i h = h
in_gains n [] (z ∷ zs) g i h = absurd g
in_gains n (y ∷ ys) [] g i h = absurd g
in_gains n (y ∷ ys) (z ∷ zs) g i h =
    go (in_gains n ys zs g.2 i) (or_cases (has y i) (in_some ys i) h)
  where
    go : (in_some ys i ≡ true → in_some zs i ≡ true) → (has y i ≡ true) ⊎ (in_some ys i ≡ true)
        → (has z i || in_some zs i) ≡ true
    go ih (inl w) = or_left (has z i) (in_some zs i) (g.0 i w)
    go ih (inr w) = or_right (has z i) (in_some zs i) (ih w)

pub seen_gains : (n : ℕ) (ys zs : List ℕ) → Gains n ys zs → all_seen n ys ≡ true
    → all_seen n zs ≡ true
seen_gains n ys zs g h = all-every (in_some zs) n (λ i l. in_gains n ys zs g i (seen_in n ys h i l))

-- So it does where the list gains a partition.
in_more : (ys : List ℕ) (y i : ℕ) → in_some ys i ≡ true → in_some (ys ++ y ∷ []) i ≡ true
unfolding in_some
in_more [] y i h = absurd (false≢true h)
in_more (x ∷ ys) y i h = go (in_more ys y i) (or_cases (has x i) (in_some ys i) h)
  where
    go : (in_some ys i ≡ true → in_some (ys ++ y ∷ []) i ≡ true)
        → (has x i ≡ true) ⊎ (in_some ys i ≡ true) → (has x i || in_some (ys ++ y ∷ []) i) ≡ true
    go ih (inl w) = or_left (has x i) (in_some (ys ++ y ∷ []) i) w
    go ih (inr w) = or_right (has x i) (in_some (ys ++ y ∷ []) i) (ih w)

pub seen_more : (n : ℕ) (ys : List ℕ) (y : ℕ) → all_seen n ys ≡ true
    → all_seen n (ys ++ y ∷ []) ≡ true
seen_more n ys y h = all-every (in_some (ys ++ y ∷ [])) n
    (λ i l. in_more ys y i (seen_in n ys h i l))
