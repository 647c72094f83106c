-- A set of taxa and the same with one taxon x more: what the splits over the
-- larger set say of those over the smaller.
-- All but x's own split cut down to splits. One split at most is cut down from
-- two. Assumes nothing.
use mathlib.Core.Path.{◌≡◌, refl, sym, ap, ap₂, ◌∙◌}
use mathlib.Core.Logic.{◌⊎◌, inl, inr}
use mathlib.Core.Bool.{Bool, true, false, not, ◌&&◌, ◌||◌, true≢false}
use mathlib.Core.List.{List}
use Prim.Native.Nat.{ℕ, ◌^◌, ◌<◌}
use native.Mathlib.Omega.{arith}
use lib.Dec.{eqb}
use lib.Bits.{bit_and, and_zero_l}
use borrow.Author.Tests.{eqb-true, ne_eqb, eq-eqb, not-true}
use Rattle.taxa.specs.Sets.{has, less, some, lowest, Sub}
use Rattle.taxa.proofs.Bools.{either, and_left, and_right, and_both, or_cases, or_left, or_right}
use Rattle.taxa.proofs.Bools.{◌⊕◌, xor_twice, xor_same, xor_move, xor_not}
use Rattle.taxa.proofs.Sets.{has_and, has-less, has_pow, has-none, has_below, sub_inside, sub_less}
use Rattle.taxa.proofs.Sets.{sub_lt, some-has, some_zero, some_false, some-lowest}
use Rattle.taxa.proofs.Sizes.{sub_refl}
use Rattle.tree.specs.Tree.{Valid}
use Rattle.tree.specs.Lists.{mem}
use Rattle.tree.specs.Splits.{side, meets, split, splits}
use Rattle.tree.proofs.Colourings.{row-parts, valid-table, never_cross}
use Rattle.tree.proofs.Choices.{Like}
use Rattle.tree.proofs.SplitLaws.{side-has, num_of, split_eq, split_same, split-split}
use Rattle.tree.proofs.SplitLaws.{no_split, some-meets, meets-some, kept_in, KeptRow}
use Rattle.tree.proofs.SplitLaws.{kept_out}
use Rattle.tree.proofs.RowCounts.{leaf-row}
use Rattle.tree.proofs.Forks.{leaf-parts}

-- ---- tests
xor_inj : (d p q : Bool) → (d ⊕ p) ≡ (d ⊕ q) → p ≡ q
xor_inj d p q h = sym (xor_twice d p) ∙ ap (λ (b : Bool). d ⊕ b) h ∙ xor_twice d q

xor_or : (p d : Bool) → (p ≡ (d ⊕ false)) ⊎ (p ≡ (d ⊕ true))
xor_or true true = inl refl
xor_or true false = inr refl
xor_or false true = inr refl
xor_or false false = inl refl

eq_or : (p q : Bool) → (p ≡ q) ⊎ (p ≡ not q)
eq_or true true = inl refl
eq_or true false = inr refl
eq_or false true = inr refl
eq_or false false = inl refl

other : (p q : Bool) → (p ≡ q → ⊥) → p ≡ not q
other true true h = absurd (h refl)
other true false h = refl
other false true h = refl
other false false h = absurd (h refl)

-- where two opposite corners are empty, the one test settles the other
opposite : (p q a b : Bool) → (a ≡ p → b ≡ q → ⊥) → (a ≡ not p → b ≡ not q → ⊥)
    → a ≡ (p ⊕ not q ⊕ b)
opposite p q a b h l = xor_move a b (p ⊕ not q) (go (eq_or a p))
  where
    go : (a ≡ p) ⊎ (a ≡ not p) → (a ⊕ b) ≡ (p ⊕ not q)
    go (inl e) = ap₂ ◌⊕◌ e (other b q (h e))
    go (inr e) = xor_not a b p (not q) e (other b (not q) (l e))

-- ---- splits over any set
-- the empty set makes no split
split-none : (n y : ℕ) → y < 2 ^ n → split n y 0 ≡ 0
unfolding meets
split-none n y bound = no_split n y 0 bound
    (ap (λ (b : Bool). b && some (less y 0)) (ap some (and_zero_l y) ∙ some_zero))

-- a member of y that is not in s
pub missing : (n y s : ℕ) → y < 2 ^ n → some (less y s) ≡ true
    → (i : ℕ) × (has y i ≡ true) × (has s i ≡ false)
missing n y s b h =
    let l = lowest n (less y s) in
    let u : (has y l && not (has s l)) ≡ true = sym (has-less y s l)
    ∙ some-lowest n (less y s) (sub_lt n (less y s) y (sub_less y s) b) h in (
      l,
      and_left (has y l) (not (has s l)) u,
      not-true (has s l) (and_right (has y l) (not (has s l)) u),
    )

-- a set that is kept over y has members of y on each side
pub both_sides : (n y s : ℕ) → y < 2 ^ n → some (split n y s) ≡ true → (p : Bool)
    → (i : ℕ) × (has y i ≡ true) × (has s i ≡ p)
unfolding meets
both_sides n y s b h p = go p
  where
    m : (some (bit_and s y) && some (less y s)) ≡ true
    m = some-meets n y s b h

    go : (p : Bool) → (i : ℕ) × (has y i ≡ true) × (has s i ≡ p)
    go true =
        let l = lowest n (bit_and s y) in
        let u : (has s l && has y l) ≡ true = sym (has_and s y l)
        ∙ some-lowest n (bit_and s y) (sub_lt n (bit_and s y) y (sub_inside y s) b)
        (and_left (some (bit_and s y)) (some (less y s)) m) in
        (l, and_right (has s l) (has y l) u, and_left (has s l) (has y l) u)
    go false = missing n y s b (and_right (some (bit_and s y)) (some (less y s)) m)

-- and the other way round: a member on each side
pub kept_by : (n y s i j : ℕ) → has y i ≡ true → has y j ≡ true → has s i ≡ true → has s j ≡ false
    → some (split n y s) ≡ true
unfolding meets
kept_by n y s i j yi yj si sj = meets-some n y s (and_both (some (bit_and s y)) (some (less y s))
    (some-has (bit_and s y) i (has_and s y i ∙ ap₂ ◌&&◌ si yi))
    (some-has (less y s) j (has-less y s j ∙ ap₂ (λ (p q : Bool). p && not q) yj sj)))

-- ---- a taxon's own split: x against all others
-- where it is kept, it is on the list of every tree, by the row of the taxon
pub leaf_in : {n : ℕ} {t : List ℕ} (y x : ℕ) → Valid n t → y < 2 ^ n → x < n
    → some (split n y (2 ^ x)) ≡ true
    → mem (split n y (2 ^ x)) (splits n t y) ≡ true
leaf_in {n} {t} y x valid bound lt kept =
    let w = leaf-row x valid lt in
    let own = leaf-parts w.0 x valid lt w.1 w.2 in
    kept_in n t y bound (split n y (2 ^ x)) w.0 w.1 kept
    (sym (num_of valid.big (valid-table valid) y w.0 (2 ^ x) bound w.1 own))

-- ---- Y and the taxon x, which is not in Y, make Y'
pub record Grown (n : ℕ) (t : List ℕ) (Y Y' x : ℕ) : Type 0 where
  pub valid : Valid n t
  pub bound : Y < 2 ^ n
  pub bound' : Y' < 2 ^ n
  pub lt : x < n
  pub new : has Y x ≡ false
  pub grown : (i : ℕ) → has Y' i ≡ (has Y i || eqb x i)

-- two splits over Y' that cut down to one and the same over Y
pub record Twice (n : ℕ) (t : List ℕ) (Y Y' z₀ z₁ : ℕ) : Type 0 where
  pub in₀ : mem z₀ (splits n t Y') ≡ true
  pub in₁ : mem z₁ (splits n t Y') ≡ true
  pub same : split n Y z₀ ≡ split n Y z₁
  pub kept : some (split n Y z₀) ≡ true
  pub apart : z₀ ≡ z₁ → ⊥

module _ (n : ℕ) (t : List ℕ) (Y Y' x : ℕ) (G : Grown n t Y Y' x) where
  -- what Y has, and x, is in Y'
  pub in_old : (i : ℕ) → has Y i ≡ true → has Y' i ≡ true
  in_old i p = G.grown i ∙ or_left (has Y i) (eqb x i) p

  pub sub : Sub Y Y'
  unfolding Sub
  sub = in_old

  pub in_new : has Y' x ≡ true
  in_new = G.grown x ∙ or_right (has Y x) (eqb x x) (eq-eqb x x refl)

  -- a member of Y is not x
  pub not_new : (i : ℕ) → has Y i ≡ true → eqb x i ≡ false
  not_new i p = ne_eqb x i (λ d. true≢false (sym p ∙ ap (has Y) (sym d) ∙ G.new))

  -- a split over Y' is settled by what it is over Y, and by x
  pub grow_eq : (s s' : ℕ) (d : Bool) → ((i : ℕ) → has Y i ≡ true → has s i ≡ (d ⊕ has s' i))
      → has s x ≡ (d ⊕ has s' x) → split n Y' s ≡ split n Y' s'
  grow_eq s s' d h hx = split_eq n Y' s s' G.bound' d
      (λ i p. go i (or_cases (has Y i) (eqb x i) (sym (G.grown i) ∙ p)))
    where
      go : (i : ℕ) → (has Y i ≡ true) ⊎ (eqb x i ≡ true) → has s i ≡ (d ⊕ has s' i)
      go i (inl q) = h i q
      go i (inr q) = rw (← eqb-true x i q) hx

  -- a split over Y' cut down to Y is the split over Y
  pub cut : (s : ℕ) → split n Y (split n Y' s) ≡ split n Y s
  cut s = split-split n Y Y' sub G.bound s

  -- a split over Y' is its own split
  pub again : (z : ℕ) → mem z (splits n t Y') ≡ true → split n Y' z ≡ z
  again z h =
      let w = kept_out n t Y' G.bound' z h in
      ap (split n Y') w.is ∙ split-split n Y' Y' (sub_refl Y') G.bound' (side n t w.row)
      ∙ sym w.is

  -- ---- x's own split: x against all others
  abbrev pub own : ℕ
  own = split n Y' (2 ^ x)

  -- it is kept where Y has a member, and nothing of it is left over Y
  pub own_in : (a : ℕ) → has Y a ≡ true → mem own (splits n t Y') ≡ true
  own_in a p =
      leaf_in Y' x G.valid G.bound' G.lt
      (kept_by n Y' (2 ^ x) x a in_new (in_old a p) (has_pow x x ∙ eq-eqb x x refl)
      (has_pow x a ∙ not_new a p))

  pub own_cut : split n Y own ≡ 0
  own_cut = cut (2 ^ x) ∙ split_eq n Y (2 ^ x) 0 G.bound false (λ i p. has_pow x i ∙ not_new i p
      ∙ sym (has-none i)) ∙ split-none n Y G.bound

  -- a split over Y' other than x's own cuts down to a split over Y
  pub down : (z : ℕ) → mem z (splits n t Y') ≡ true → (z ≡ own → ⊥)
      → mem (split n Y z) (splits n t Y) ≡ true
  down z h d = go (either (some (split n Y z)))
    where
      w : KeptRow n t Y' z
      w = kept_out n t Y' G.bound' z h

      go : (some (split n Y z) ≡ true) ⊎ (some (split n Y z) ≡ false)
          → mem (split n Y z) (splits n t Y) ≡ true
      go (inl p) = kept_in n t Y G.bound (split n Y z) w.row w.lt p
          (ap (split n Y) w.is ∙ cut (side n t w.row))
      go (inr p) = absurd (at (xor_or (has z x) c.0))
        where
          c : (b : Bool) × Like Y b z 0
          c = split_same n Y z 0 (some_false (split n Y z) p ∙ sym (split-none n Y G.bound))

          at : (has z x ≡ (c.0 ⊕ false)) ⊎ (has z x ≡ (c.0 ⊕ true)) → ⊥
          at (inl q) = true≢false (sym w.kept ∙ ap some (sym (again z h)
              ∙ grow_eq z 0 c.0 c.1 (q ∙ ap (λ (b : Bool). c.0 ⊕ b) (sym (has-none x)))
              ∙ split-none n Y' G.bound') ∙ some_zero)
          at (inr q) = d (sym (again z h) ∙ grow_eq z (2 ^ x) c.0
              (λ i u. c.1 i u ∙ ap (λ (b : Bool). c.0 ⊕ b)
              (has-none i ∙ sym (has_pow x i ∙ not_new i u)))
              (q ∙ ap (λ (b : Bool). c.0 ⊕ b) (sym (has_pow x x ∙ eq-eqb x x refl))))

  -- ---- one split has two lifts at most: they differ at x
  lifts : (s s' : ℕ) → split n Y s ≡ split n Y s' → (split n Y' s ≡ split n Y' s' → ⊥)
      → (d : Bool) × ((i : ℕ) → has Y i ≡ true → has s i ≡ (d ⊕ has s' i))
      × (has s x ≡ not (d ⊕ has s' x))
  lifts s s' e ne =
      let c = split_same n Y s s' e in
      (c.0, c.1, other (has s x) (c.0 ⊕ has s' x) (λ q. ne (grow_eq s s' c.0 c.1 q)))

  -- of three lifts of one split, two that are not the first are equal
  pub two_lifts : (s s₁ s₂ : ℕ) → split n Y s ≡ split n Y s₁ → split n Y s ≡ split n Y s₂
      → (split n Y' s ≡ split n Y' s₁ → ⊥) → (split n Y' s ≡ split n Y' s₂ → ⊥)
      → split n Y' s₁ ≡ split n Y' s₂
  two_lifts s s₁ s₂ e₁ e₂ ne₁ ne₂ =
      let a = lifts s s₁ e₁ ne₁ in
      let b = lifts s s₂ e₂ ne₂ in
      grow_eq s₁ s₂ (a.0 ⊕ b.0)
      (λ i p. xor_same a.0 (has s₁ i) b.0 (has s₂ i) (sym (a.1 i p) ∙ b.1 i p))
      (xor_same a.0 (has s₁ x) b.0 (has s₂ x)
      (xor_inj true (a.0 ⊕ has s₁ x) (b.0 ⊕ has s₂ x) (sym a.2 ∙ b.2)))

  -- ---- two splits of one tree never cross: one corner is empty
  corner : (z u : ℕ) → mem z (splits n t Y') ≡ true → mem u (splits n t Y') ≡ true
      → (p q : Bool) × ((i : ℕ) → has Y' i ≡ true → has z i ≡ p → has u i ≡ q → ⊥)
  corner z u hz hu =
      let a = kept_out n t Y' G.bound' z hz in
      let b = kept_out n t Y' G.bound' u hu in
      let tab = valid-table G.valid in
      let k = never_cross G.valid a.lt b.lt
      (row-parts G.valid.big tab a.row a.lt)
      (row-parts G.valid.big tab b.row b.lt) in
      let da = split_same n Y' z (side n t a.row) (again z hz ∙ a.is) in
      let db = split_same n Y' u (side n t b.row) (again u hu ∙ b.is) in (
        da.0 ⊕ k.0,
        db.0 ⊕ k.1,
        λ i y p q.
            let l : i < n = has_below n Y' i G.bound' y in
            k.2 i (omega (arith, G.valid.big))
            (sym (side-has n t a.row i l)
            ∙ xor_inj da.0 (has (side n t a.row) i) k.0 (sym (da.1 i y) ∙ p))
            (sym (side-has n t b.row i l)
            ∙ xor_inj db.0 (has (side n t b.row) i) k.1 (sym (db.1 i y) ∙ q)),
      )

  -- ---- of all splits over Y one at most has two lifts

  -- of two lifts of one split each has x on another side
  seats : {z₀ z₁ : ℕ} → Twice n t Y Y' z₀ z₁ → (p : Bool)
      → (z : ℕ) × (d : Bool) × (mem z (splits n t Y') ≡ true)
      × ((i : ℕ) → has Y i ≡ true → has z₀ i ≡ (d ⊕ has z i)) × ((d ⊕ has z x) ≡ p)
  seats {z₀} {z₁} T p = go (eq_or (has z₀ x) p)
    where
      go : (has z₀ x ≡ p) ⊎ (has z₀ x ≡ not p)
          → (z : ℕ) × (d : Bool) × (mem z (splits n t Y') ≡ true)
          × ((i : ℕ) → has Y i ≡ true → has z₀ i ≡ (d ⊕ has z i)) × ((d ⊕ has z x) ≡ p)
      go (inl e) = (z₀, false, T.in₀, λ i y. refl, e)
      go (inr e) =
          let w = lifts z₀ z₁ T.same
          (λ q. T.apart (sym (again z₀ T.in₀) ∙ q ∙ again z₁ T.in₁)) in
          (z₁, w.0, T.in₁, w.1, xor_inj true (w.0 ⊕ has z₁ x) p (sym w.2 ∙ e))

  -- no member of Y has the colour p in z and q in u
  abbrev Free : ℕ → ℕ → Bool → Bool → Type 0
  Free z u p q = (i : ℕ) → has Y i ≡ true → has z i ≡ p → has u i ≡ q → ⊥

  -- for each seat of x there is another corner that is empty
  free-at : {z₀ z₁ u₀ u₁ : ℕ} → Twice n t Y Y' z₀ z₁ → Twice n t Y Y' u₀ u₁ → (p q : Bool)
      → (p' q' : Bool) × (p' ≡ p → q' ≡ q → ⊥) × Free z₀ u₀ p' q'
  free-at T U p q =
      let a = seats T p in
      let b = seats U q in
      let k = corner a.0 b.0 a.2 b.2 in (
        a.1 ⊕ k.0,
        b.1 ⊕ k.1,
        λ e f. k.2 x in_new (xor_inj a.1 (has a.0 x) k.0 (a.4 ∙ sym e))
            (xor_inj b.1 (has b.0 x) k.1 (b.4 ∙ sym f)),
        λ i y e f. k.2 i (in_old i y) (xor_inj a.1 (has a.0 i) k.0 (sym (a.3 i y) ∙ e))
            (xor_inj b.1 (has b.0 i) k.1 (sym (b.3 i y) ∙ f)),
      )

  -- two empty corners leave the same split
  pinned : (z u : ℕ) (p q p' q' : Bool) → some (split n Y z) ≡ true → some (split n Y u) ≡ true
      → (p' ≡ p → q' ≡ q → ⊥) → Free z u p q → Free z u p' q'
      → split n Y z ≡ split n Y u
  pinned z u p q p' q' kz ku ne F F' = go (eq_or p' p) (eq_or q' q)
    where
      go : (p' ≡ p) ⊎ (p' ≡ not p) → (q' ≡ q) ⊎ (q' ≡ not q) → split n Y z ≡ split n Y u
      go (inl e) (inl f) = absurd (ne e f)
      go (inl e) (inr f) = absurd (at (eq_or (has u w.0) q))
        where
          w : (i : ℕ) × (has Y i ≡ true) × (has z i ≡ p)
          w = both_sides n Y z G.bound kz p

          at : (has u w.0 ≡ q) ⊎ (has u w.0 ≡ not q) → ⊥
          at (inl g) = F w.0 w.1 w.2 g
          at (inr g) = F' w.0 w.1 (w.2 ∙ sym e) (g ∙ sym f)
      go (inr e) (inl f) = absurd (at (eq_or (has z w.0) p))
        where
          w : (i : ℕ) × (has Y i ≡ true) × (has u i ≡ q)
          w = both_sides n Y u G.bound ku q

          at : (has z w.0 ≡ p) ⊎ (has z w.0 ≡ not p) → ⊥
          at (inl g) = F w.0 w.1 g w.2
          at (inr g) = F' w.0 w.1 (g ∙ sym e) (w.2 ∙ sym f)
      go (inr e) (inr f) =
          split_eq n Y z u G.bound (p ⊕ not q)
          (λ i y. opposite p q (has z i) (has u i) (F i y)
          (λ a b. F' i y (a ∙ sym e) (b ∙ sym f)))

  -- two splits with two lifts each are one and the same
  pub meet_one : {z₀ z₁ u₀ u₁ : ℕ} → Twice n t Y Y' z₀ z₁ → Twice n t Y Y' u₀ u₁
      → split n Y z₀ ≡ split n Y u₀
  meet_one {z₀} {z₁} {u₀} T U =
      let a = free-at T U true true in
      let b = free-at T U a.0 a.1 in
      pinned z₀ u₀ a.0 a.1 b.0 b.1 T.kept U.kept b.2 a.3 b.3
