-- Groups are counted one by one, a number for each partition on a list is
-- written in order, and the numbers are the distances of two trees. Assumes
-- nothing.
use mathlib.Core.Path.{◌≡◌, refl, sym, ap, ap₂, ◌∙◌}
use mathlib.Core.Bool.{Bool, true, false, not, ◌&&◌, ◌||◌, cond}
use mathlib.Core.List.{List, [], ◌∷◌, ◌++◌}
use Prim.Native.Nat.{ℕ, suc, ◌+◌, ◌^◌, ◌<◌, ◌≤◌}
use native.Mathlib.Omega.{arith}
use lib.Bits.{bit_and}
use lib.Dec.{eqb, ltb}
use lib.ListN.{length, take, get_or, set}
use lib.Seq.{length-take-le, take-length}
use borrow.Author.Tests.{ltb-true, eqb-true, eq-eqb}
use Rattle.std.specs.Prelude.{map}
use Rattle.std.specs.List.{count_by, list_any, list_all}
use Rattle.std.proofs.lemmas.Bool.Decides.{nat_tests}
use Rattle.std.proofs.lemmas.List.Recursion.{is_count_by}
use Rattle.std.proofs.lemmas.List.{length-map, map_more}
use Rattle.calls.specs.Calls.{at_start}
use Rattle.calls.proofs.StartLaws.{start_put, wrote-length}
use Rattle.taxa.specs.Sets.{tally, some}
use Rattle.taxa.proofs.Sizes.{tally_one}
use Rattle.taxa.proofs.Bools.{and_left, and_right, and_both, bool_eq}
use Rattle.tree.specs.Splits.{dist, distances_by, distances, unchanged}
use Rattle.tree.specs.Refusals.{each}
use Rattle.moves.specs.Groups.{met}
use Rattle.moves.proofs.Ways.GroupLists.{met_le}
use Rattle.group_rule.specs.Between.{all_meet, Judges}
use Rattle.group_rule.specs.Zeros.{zeros}

-- ---- how many groups meet y, and whether one does or all do
abbrev pub meeting : ℕ → ℕ → Bool
meeting y g = some (bit_and g y)

one_more : (b : Bool) (m : ℕ) → tally b + m ≡ cond b (1 + m) m
one_more true m = refl
one_more false m = omega arith

one_of : (b r : Bool) (m : ℕ) → r ≡ not (eqb m 0) → (b || r) ≡ not (eqb (tally b + m) 0)
one_of true r m h = grind (arith, nat_tests)
one_of false r m h = grind (arith, nat_tests)

all_of : (b r : Bool) (m k : ℕ) → m ≤ k → r ≡ eqb m k → (b && r) ≡ eqb (tally b + m) (suc k)
all_of true r m k l h = grind (arith, nat_tests)
all_of false r m k l h = grind (arith, nat_tests)

pub count_meeting : (y : ℕ) (gs : List ℕ) → count_by (meeting y) gs ≡ met y gs
unfolding met
count_meeting y gs =
    sym (is_count_by (met y) (meeting y) refl (λ g gs. one_more (meeting y g) (met y gs)) gs)

pub any_meeting : (y : ℕ) (gs : List ℕ) → list_any (meeting y) gs ≡ not (eqb (met y gs) 0)
unfolding met
any_meeting y [] = refl
any_meeting y (g ∷ gs) = one_of (meeting y g) _ _ (any_meeting y gs)

pub all_meeting : (y : ℕ) (gs : List ℕ) → list_all (meeting y) gs ≡ all_meet y gs
unfolding met
all_meeting y [] = refl
all_meeting y (g ∷ gs) = all_of (meeting y g) _ _ _ (met_le y gs) (all_meeting y gs)

-- of two and two groups all four are met exactly where both pairs are
pub four_met : (y : ℕ) (gs hs : List ℕ) → (length gs ≡ 2) × (length hs ≡ 2)
    → eqb (met y gs + met y hs) 4 ≡ (eqb (met y gs) (length gs) && eqb (met y hs) (length hs))
four_met y gs hs two =
    let few = met_le y gs in
    let few' = met_le y hs in
    bool_eq (eqb (met y gs + met y hs) 4)
    (eqb (met y gs) (length gs) && eqb (met y hs) (length hs))
    (λ h.
    let e = eqb-true (met y gs + met y hs) 4 h in
    and_both (eqb (met y gs) (length gs)) (eqb (met y hs) (length hs))
    (eq-eqb (met y gs) (length gs) (omega arith)) (eq-eqb (met y hs) (length hs) (omega arith)))
    (λ h.
    let p = eqb-true (met y gs) (length gs) (and_left (eqb (met y gs) (length gs)) _ h) in
    let q = eqb-true (met y hs) (length hs) (and_right (eqb (met y gs) (length gs)) _ h) in
    eq-eqb (met y gs + met y hs) 4 (omega arith))

-- ---- one number more
zeros_more : (xs : List ℕ) (x : ℕ) → zeros (xs ++ x ∷ []) ≡ zeros xs + tally (eqb x 0)
unfolding zeros
zeros_more [] x = omega arith
zeros_more (z ∷ xs) x = omega (arith, zeros_more xs x)

-- how many are 0 is no more than all
pub zeros_le : (xs : List ℕ) → zeros xs ≤ length xs
unfolding zeros
zeros_le [] = omega arith
zeros_le (x ∷ xs) = omega (arith, zeros_le xs, tally_one (eqb x 0))

-- the first i of ys are judged
pub record Judged (f : ℕ → ℕ) (ys o : List ℕ) (i r : ℕ) (out : List ℕ) : Type 0 where
  pub within : i ≤ length ys
  pub so_far : Judges f (take i ys) o r out
  pub room : length ys ≤ length o

pub judged-none : {ys o : List ℕ} (f : ℕ → ℕ) → length ys ≤ length o → Judged f ys o 0 0 o
unfolding zeros
judged-none f room = record {
  within = omega arith;
  so_far = record { count = refl; memory = refl };
  room = room;
}

module _ {f : ℕ → ℕ} {ys o : List ℕ} {i r : ℕ} {out : List ℕ} (J : Judged f ys o i r out) where
  size : length (map f (take i ys)) ≡ i
  size = length-map (take i ys) f ∙ length-take-le i ys J.within

  pub judged-few : r ≤ i
  judged-few = omega (arith, J.so_far.count, zeros_le (map f (take i ys)), size)

  pub judged_end : length ys ≤ i → Judges f ys o r out
  judged_end m = let e : i ≡ length ys = omega arith in rw (e, take-length) at J.so_far

  pub judged-length : length out ≡ length o
  judged-length = wrote-length J.so_far (omega (arith, size))

  pub judged-next : i < length ys → {d : ℕ} → d ≡ f (get_or ys i 0)
      → Judged f ys o (i + 1) (r + tally (eqb d 0)) (set out i d)
  judged-next l {d} e =
      let ds = map f (take i ys) in
      let more : map f (take (i + 1) ys) ≡ ds ++ d ∷ [] =
      map_more f ys i 0 l ∙ ap (λ (x : ℕ). ds ++ x ∷ []) (sym e) in
      record {
        within = omega arith;
        so_far = record {
          count = rw (more, zeros_more, J.so_far.count);
          memory = ap₂ (λ (w : List ℕ) (k : ℕ). set w k d) J.so_far.memory (sym size)
              ∙ start_put ds o d (omega (arith, size, J.room))
              ∙ ap (λ (w : List ℕ). at_start w o) (sym more);
        };
        room = J.room;
      }

-- ---- the numbers are distances
pub mapped-distances : (f : ℕ → ℕ) (n : ℕ) (t u ys : List ℕ) → each (λ y. ltb y (2 ^ n)) ys ≡ true
    → ((y : ℕ) → y < 2 ^ n → f y ≡ dist n t u y) → map f ys ≡ distances n t u ys
unfolding distances_by each
mapped-distances f n t u [] h k = refl
mapped-distances f n t u (y ∷ ys) h k =
    rw (
      k y (ltb-true y (2 ^ n) (and_left (ltb y (2 ^ n)) (each (λ z. ltb z (2 ^ n)) ys) h)),
      mapped-distances f n t u ys (and_right (ltb y (2 ^ n)) (each (λ z. ltb z (2 ^ n)) ys) h) k,
    )

pub zeros-unchanged : (n : ℕ) (t u ys : List ℕ) → zeros (distances n t u ys) ≡ unchanged n t u ys
unfolding zeros distances_by unchanged
zeros-unchanged n t u [] = refl
zeros-unchanged n t u (y ∷ ys) = rw (zeros-unchanged n t u ys)

pub distances-length : (n : ℕ) (t u ys : List ℕ) → length (distances n t u ys) ≡ length ys
unfolding distances_by
distances-length n t u [] = refl
distances-length n t u (y ∷ ys) = ap suc (distances-length n t u ys)
