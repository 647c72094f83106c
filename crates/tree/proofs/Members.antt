-- How many splits a valid table has over a set of m taxa: none for m below 2,
-- one for 2, and 2m-3 from 3 on.
-- The set is built up taxon by taxon. Each taxon from the third on adds two
-- splits: its own, and one more lift of the one split that has two.
-- Assumes nothing.
use mathlib.Core.Path.{◌≡◌, refl, sym, ap, ap₂, ◌∙◌}
use mathlib.Core.Logic.{◌⊎◌, inl, inr}
use mathlib.Core.Bool.{Bool, true, false, ◌&&◌, ◌||◌, true≢false, false≢true, or-false, and-true}
use mathlib.Core.List.{List, [], ◌∷◌}
use Prim.Native.Nat.{ℕ, zero, suc, ◌+◌, ◌*◌, ◌-◌, ◌^◌, ◌%◌, ◌≤◌, ◌<◌}
use native.Mathlib.Nat.{le_refl, mod-lt, mod-eq_of_lt, lt_of_lt_of_le}
use native.Mathlib.Omega.{arith}
use lib.Dec.{eqb, ltb}
use lib.ListN.{length}
use lib.Pow.{pow_pos, pow_mono}
use borrow.Author.Tests.{eqb-true, eqb-false, ne_eqb, eq-eqb, ltb-true, ltb-false, lt-ltb, le-ltb}
use Rattle.taxa.specs.Sets.{has, some, tally, size}
use Rattle.taxa.proofs.Bools.{either, and_left, and_right, or_cases, or_left, or_neither}
use Rattle.taxa.proofs.Bools.{and_false_r}
use Rattle.taxa.proofs.Sets.{has_mod, ext, some_zero}
use Rattle.taxa.proofs.Sizes.{size_pos}
use Rattle.tree.specs.Tree.{Valid}
use Rattle.tree.specs.Lists.{mem, lacks}
use Rattle.tree.specs.Splits.{side, split, splits, members}
use Rattle.tree.proofs.Lists.{Distinct, asc_distinct, lacks_le', lacks_nil, lacks-none}
use Rattle.tree.proofs.Lists.{none-lacks}
use Rattle.tree.proofs.Choices.{meets_mono}
use Rattle.tree.proofs.SplitLaws.{num, meets-some, some-meets, kept_in, KeptRow, kept_out}
use Rattle.tree.proofs.SplitLaws.{splits_asc}
use Rattle.tree.proofs.ListCounts.{Left, lacks_cons, lacks_inj}
use Rattle.tree.proofs.Growth.{Grown, Twice, both_sides, sub, own, own_in, own_cut, cut}
use Rattle.tree.proofs.Growth.{again, down, two_lifts, meet_one}
use Rattle.tree.proofs.DoubleLift.{found}

-- the number in one formula, where subtraction stops at 0
pub members-is : (m : ℕ) → members m ≡ 2 * m - 3
members-is zero = refl
members-is (suc zero) = refl
members-is (suc (suc zero)) = refl
members-is (suc (suc (suc m))) = refl

-- ---- members of a set by its size
-- a member below k
find : (k s : ℕ) → 0 < size k s → (i : ℕ) × (i < k) × (has s i ≡ true)
unfolding size
find zero s h = absurd (omega arith)
find (suc k) s h = go (find k s) (has s k) refl h
  where
    go : (0 < size k s → (i : ℕ) × (i < k) × (has s i ≡ true)) → (b : Bool) → has s k ≡ b
        → 0 < tally b + size k s → (i : ℕ) × (i < suc k) × (has s i ≡ true)
    go ih true e h = (k, le_refl (suc k), e)
    go ih false e h = let w = ih (omega arith) in (w.0, omega (arith, w.1), w.2)

-- two different members of s below k
record Two (k s : ℕ) : Type 0 where
  a : ℕ
  b : ℕ
  a_lt : a < k
  b_lt : b < k
  in_a : has s a ≡ true
  in_b : has s b ≡ true
  ab : a ≡ b → ⊥

find_two : (k s : ℕ) → 1 < size k s → Two k s
unfolding size
find_two zero s h = absurd (omega arith)
find_two (suc k) s h = go (find_two k s) (has s k) refl h
  where
    go : (1 < size k s → Two k s) → (b : Bool) → has s k ≡ b → 1 < tally b + size k s
        → Two (suc k) s
    go ih true e h =
        let w = find k s (omega arith) in
        record {
          a = k;
          b = w.0;
          a_lt = le_refl (suc k);
          b_lt = omega (arith, w.1);
          in_a = e;
          in_b = w.2;
          ab = λ d. omega (arith, w.1);
        }
    go ih false e h =
        let w = ih (omega arith) in
        record {
          a = w.a;
          b = w.b;
          a_lt = omega (arith, w.a_lt);
          b_lt = omega (arith, w.b_lt);
          in_a = w.in_a;
          in_b = w.in_b;
          ab = w.ab;
        }

-- ---- a set with one taxon at most has no splits
few-none : (n : ℕ) (t : List ℕ) (y : ℕ) → y < 2 ^ n
    → ((i j : ℕ) → has y i ≡ true → has y j ≡ true → i ≡ j) → length (splits n t y) ≡ 0
few-none n t y b one = sym (lacks_nil (splits n t y))
    ∙ lacks-none (splits n t y) [] (λ z h. absurd (bad z h))
  where
    bad : (z : ℕ) → mem z (splits n t y) ≡ true → ⊥
    bad z h =
        let w = kept_out n t y b z h in
        let s = side n t w.row in
        let k : some (split n y s) ≡ true = ap some (sym w.is) ∙ w.kept in
        let i = both_sides n y s b k true in
        let j = both_sides n y s b k false in
        true≢false (sym i.2 ∙ ap (has s) (one i.0 j.0 i.1 j.1) ∙ j.2)

-- ---- one taxon more
module _ {n : ℕ} {t : List ℕ} {Y Y' x : ℕ} (G : Grown n t Y Y' x) where
  dis : Distinct (splits n t Y')
  dis = asc_distinct (splits n t Y') (splits_asc n t Y')

  mine : ℕ
  mine = own n t Y Y' x G

  -- the first split, where there was none: x's own
  grow_one : (a : ℕ) → has Y a ≡ true → length (splits n t Y) ≡ 0 → length (splits n t Y') ≡ 1
  unfolding mem mine
  grow_one a ya e =
      let c : suc (lacks (splits n t Y') (mine ∷ [])) ≡ lacks (splits n t Y') []
      = lacks_cons mine (splits n t Y') [] dis (own_in n t Y Y' x G a ya) refl in
      let o : lacks (splits n t Y') (mine ∷ []) ≡ 0 =
      lacks-none (splits n t Y') (mine ∷ []) (λ z h. go z h (either (eqb z mine))) in
      omega (arith, lacks_nil (splits n t Y'))
    where
      go : (z : ℕ) → mem z (splits n t Y') ≡ true → (eqb z mine ≡ true) ⊎ (eqb z mine ≡ false)
          → (eqb z mine || false) ≡ true
      go z h (inl q) = or_left (eqb z mine) false q
      go z h (inr q) = absurd (false≢true
          (none-lacks (splits n t Y) [] (lacks_nil (splits n t Y) ∙ e) (split n Y z)
          (down n t Y Y' x G z h (eqb-false z mine q))))

  -- z₁ and x's own are two splits more, where z₀ and z₁ are two lifts of one
  -- split
  module _ (a : ℕ) (ya : has Y a ≡ true) {z₀ z₁ : ℕ} (T : Twice n t Y Y' z₀ z₁) where
    besides : List ℕ
    besides = mine ∷ z₁ ∷ []

    -- what is left over Y is not x's own
    not_mine : (z : ℕ) → some (split n Y z) ≡ true → z ≡ mine → ⊥
    unfolding mine
    not_mine z h d = true≢false (sym h ∙ ap some (ap (split n Y) d ∙ own_cut n t Y Y' x G)
        ∙ some_zero)

    kept₁ : some (split n Y z₁) ≡ true
    kept₁ = ap some (sym T.same) ∙ T.kept

    -- the two exceptions, in and out
    free_of : (z : ℕ) → (z ≡ mine → ⊥) → (z ≡ z₁ → ⊥) → mem z besides ≡ false
    unfolding mem besides
    free_of z p q = ap₂ (λ (u v : Bool). u || (v || false)) (ne_eqb z mine p) (ne_eqb z z₁ q)

    of_free : (z : ℕ) → mem z besides ≡ false → (z ≡ mine → ⊥) × (z ≡ z₁ → ⊥)
    unfolding mem besides
    of_free z h =
        let w = or_neither (eqb z mine) (eqb z z₁ || false) h in
        (eqb-false z mine w.0, eqb-false z z₁ (or_neither (eqb z z₁) false w.1).0)

    -- each split over Y has a lift
    lift : (w : ℕ) → mem w (splits n t Y) ≡ true → (z : ℕ) × (mem z (splits n t Y') ≡ true)
        × (mem z besides ≡ false) × (split n Y z ≡ w)
    lift w h = go (either (eqb z z₁))
      where
        r : KeptRow n t Y w
        r = kept_out n t Y G.bound w h

        z : ℕ
        z = num n t Y' r.row

        back : split n Y z ≡ w
        back = cut n t Y Y' x G (side n t r.row) ∙ sym r.is

        kept : some (split n Y z) ≡ true
        kept = ap some back ∙ r.kept

        go : (eqb z z₁ ≡ true) ⊎ (eqb z z₁ ≡ false) → (z : ℕ) × (mem z (splits n t Y') ≡ true)
            × (mem z besides ≡ false) × (split n Y z ≡ w)
        go (inl q) = (
          z₀,
          T.in₀,
          free_of z₀ (not_mine z₀ T.kept) T.apart,
          T.same ∙ ap (split n Y) (sym (eqb-true z z₁ q)) ∙ back,
        )
        go (inr q) = (
          z,
          kept_in n t Y' G.bound' z r.row r.lt up refl,
          free_of z (not_mine z kept) (eqb-false z z₁ q),
          back,
        )
          where
            up : some z ≡ true
            up = meets-some n Y' (side n t r.row)
                (meets_mono Y Y' (side n t r.row) (sub n t Y Y' x G)
                (some-meets n Y (side n t r.row) G.bound (ap some (sym r.is) ∙ r.kept)))

    -- and no two besides
    one_lift : (z z' : ℕ) → Left (splits n t Y') besides z → Left (splits n t Y') besides z'
        → split n Y z ≡ split n Y z' → z ≡ z'
    unfolding mine
    one_lift z z' l l' e = go (either (eqb z z'))
      where
        o : (z ≡ mine → ⊥) × (z ≡ z₁ → ⊥)
        o = of_free z l.free

        o' : (z' ≡ mine → ⊥) × (z' ≡ z₁ → ⊥)
        o' = of_free z' l'.free

        go : (eqb z z' ≡ true) ⊎ (eqb z z' ≡ false) → z ≡ z'
        go (inl q) = eqb-true z z' q
        go (inr q) =
            let U : Twice n t Y Y' z z' = record {
              in₀ = l.there;
              in₁ = l'.there;
              same = e;
              kept = (kept_out n t Y G.bound (split n Y z)
                  (down n t Y Y' x G z l.there o.0)).kept;
              apart = eqb-false z z' q;
            } in
            let one : split n Y z₁ ≡ split n Y z =
            sym T.same ∙ meet_one n t Y Y' x G T U in
            let a₁ = again n t Y Y' x G z₁ T.in₁ in
            let a = again n t Y Y' x G z l.there in
            let a' = again n t Y Y' x G z' l'.there in
            sym a ∙ two_lifts n t Y Y' x G z₁ z z' one (one ∙ e) (λ d. o.1 (sym a ∙ sym d ∙ a₁))
            (λ d. o'.1 (sym a' ∙ sym d ∙ a₁)) ∙ a'

    -- so the splits besides the two are as many as those over Y
    grow_more : length (splits n t Y') ≡ length (splits n t Y) + 2
    unfolding mem mine besides
    grow_more =
        let S = splits n t Y in
        let S' = splits n t Y' in
        let c₁ : suc (lacks S' (z₁ ∷ [])) ≡ lacks S' [] = lacks_cons z₁ S' [] dis T.in₁ refl in
        let c₂ : suc (lacks S' besides) ≡ lacks S' (z₁ ∷ [])
        = lacks_cons mine S' (z₁ ∷ []) dis (own_in n t Y Y' x G a ya)
        (ap (λ (u : Bool). u || false) (ne_eqb mine z₁ (λ d. not_mine z₁ kept₁ (sym d)))) in
        let some_way : lacks S [] ≤ lacks S' besides =
        lacks_le' (split n Y) S [] S' besides (asc_distinct S (splits_asc n t Y))
        (λ w h f. lift w h) in
        let one_way : lacks S' besides ≤ lacks S []
        = lacks_inj (split n Y) S' besides S dis
        (λ z l. down n t Y Y' x G z l.there (of_free z l.free).0) one_lift in
        omega (arith, lacks_nil S, lacks_nil S')

  -- with two taxa before, x adds two splits
  grow_two : (a b : ℕ) → has Y a ≡ true → has Y b ≡ true → (a ≡ b → ⊥)
      → length (splits n t Y') ≡ length (splits n t Y) + 2
  grow_two a b ya yb ab =
      let w = found G a b ya yb ab in
      grow_more a ya w.2

-- ---- taxon by taxon
ltb_step : (i k : ℕ) → (k ≡ i → ⊥) → ltb i (suc k) ≡ ltb i k
ltb_step i k d = go (either (ltb i k))
  where
    go : (ltb i k ≡ true) ⊎ (ltb i k ≡ false) → ltb i (suc k) ≡ ltb i k
    go (inl q) = lt-ltb i (suc k) (omega (arith, ltb-true i k q)) ∙ sym q
    go (inr q) = le-ltb i (suc k) (lib.Arith.lt_of_le-ne (ltb-false i k q) d) ∙ sym q

module _ {n : ℕ} {t : List ℕ} (y : ℕ) (vt : Valid n t) where
  -- the members of y below k
  low : ℕ → ℕ
  low k = y % 2 ^ k

  low_lt : (k : ℕ) → k ≤ n → low k < 2 ^ n
  unfolding low
  low_lt k h = lt_of_lt_of_le (mod-lt y (pow_pos k)) (pow_mono h)

  has-low : (k i : ℕ) → has (low k) i ≡ (ltb i k && has y i)
  unfolding low
  has-low k i = has_mod k y i

  low_in : (k i : ℕ) → i < k → has y i ≡ true → has (low k) i ≡ true
  low_in k i l p = has-low k i ∙ ap₂ ◌&&◌ (lt-ltb i k l) p

  low-out : (k i : ℕ) → has (low k) i ≡ true → (i < k) × (has y i ≡ true)
  low-out k i p =
      let q = sym (has-low k i) ∙ p in
      (ltb-true i k (and_left (ltb i k) (has y i) q), and_right (ltb i k) (has y i) q)

  -- one place more is the taxon there, where it is a member
  low_step : (k i : ℕ) → has (low (suc k)) i ≡ (has (low k) i || has y k && eqb k i)
  low_step k i = has-low (suc k) i ∙ go (either (eqb k i))
      ∙ sym (ap (λ (u : Bool). u || has y k && eqb k i) (has-low k i))
    where
      go : (eqb k i ≡ true) ⊎ (eqb k i ≡ false)
          → (ltb i (suc k) && has y i) ≡ (ltb i k && has y i || has y k && eqb k i)
      go (inl q) =
          let d : i ≡ k = sym (eqb-true k i q) in
          let u : ltb k (suc k) ≡ true = lt-ltb k (suc k) (le_refl (suc k)) in
          let v : ltb k k ≡ false = le-ltb k k (le_refl k) in
          let r : eqb k k ≡ true = eq-eqb k k refl in
          rw (d, u, v, r) (sym (and-true (has y k)))
      go (inr q) =
          let u : (has y k && eqb k i) ≡ false =
          ap (λ (b : Bool). has y k && b) q ∙ and_false_r (has y k) in
          ap (λ (b : Bool). b && has y i) (ltb_step i k (eqb-false k i q))
          ∙ sym (ap (λ (b : Bool). ltb i k && has y i || b) u ∙ or-false (ltb i k && has y i))

  -- place k adds its taxon, or nothing
  grown_low : (k : ℕ) → k < n → has y k ≡ true → Grown n t (low k) (low (suc k)) k
  grown_low k h p = record {
    valid = vt;
    bound = low_lt k (omega arith);
    bound' = low_lt (suc k) h;
    lt = h;
    new = has-low k k ∙ ap (λ (b : Bool). b && has y k) (le-ltb k k (le_refl k));
    grown = λ i. low_step k i ∙ ap (λ (b : Bool). has (low k) i || b && eqb k i) p;
  }

  same_low : (k : ℕ) → has y k ≡ false → low (suc k) ≡ low k
  same_low k p = ext (low (suc k)) (low k)
      (λ i. low_step k i ∙ ap (λ (b : Bool). has (low k) i || b && eqb k i) p
      ∙ or-false (has (low k) i))

  -- the number of splits over the members below k
  stage : (k : ℕ) → k ≤ n → length (splits n t (low k)) ≡ 2 * size k y - 3
  unfolding size
  stage zero h = few-none n t (low 0) (low_lt 0 h)
      (λ i j p q. absurd (omega (arith, (low-out 0 i p).0)))
  stage (suc k) h = go (stage k (omega arith)) (has y k) refl
    where
      go : length (splits n t (low k)) ≡ 2 * size k y - 3 → (b : Bool) → has y k ≡ b
          → length (splits n t (low (suc k))) ≡ 2 * (tally b + size k y) - 3
      go ih false e = ap (λ (s : ℕ). length (splits n t s)) (same_low k e) ∙ ih ∙ omega arith
      go ih true e = at (size k y) refl ih
        where
          G : Grown n t (low k) (low (suc k)) k
          G = grown_low k h e

          at : (m : ℕ) → size k y ≡ m → length (splits n t (low k)) ≡ 2 * m - 3
              → length (splits n t (low (suc k))) ≡ 2 * (1 + m) - 3
          at zero w l = few-none n t (low (suc k)) (low_lt (suc k) h) (λ i j p q. sym (new i p)
              ∙ new j q)
            where
              new : (i : ℕ) → has (low (suc k)) i ≡ true → k ≡ i
              new i p = last (or_cases (has (low k) i) (eqb k i) (sym (G.grown i) ∙ p))
                where
                  last : (has (low k) i ≡ true) ⊎ (eqb k i ≡ true) → k ≡ i
                  last (inl q) = let u = low-out k i q in
                      absurd (omega (arith, size_pos k y i u.0 u.1))
                  last (inr q) = eqb-true k i q
          at (suc zero) w l =
              let u = find k y (omega arith) in
              grow_one G u.0 (low_in k u.0 u.1 u.2) l
          at (suc (suc m)) w l =
              let u = find_two k y (omega arith) in
              grow_two G u.a u.b
              (low_in k u.a u.a_lt u.in_a) (low_in k u.b u.b_lt u.in_b)
              u.ab
              ∙ omega arith

-- ---- the number of splits
pub members-count : {n : ℕ} {t : List ℕ} (y : ℕ) → Valid n t → y < 2 ^ n
    → length (splits n t y) ≡ members (size n y)
unfolding low
members-count {n} {t} y vt b =
    ap (λ (s : ℕ). length (splits n t s)) (sym (mod-eq_of_lt b)) ∙ stage y vt n (le_refl n)
    ∙ sym (members-is (size n y))
