-- Laws of ascending lists, and of what one lacks of another. Assumes nothing.
use mathlib.Core.Path.{◌≡◌, refl, sym, ap, ap₂, ◌∙◌}
use mathlib.Core.Logic.{◌⊎◌, inl, inr}
use mathlib.Core.Bool.{Bool, true, false, ◌||◌, true≢false, false≢true, or-true, or_assoc}
use mathlib.Core.List.{List, [], ◌∷◌, ◌++◌}
use Prim.Native.Nat.{ℕ, suc, ◌+◌, ◌≤◌, ◌<◌, zero-le}
use native.Mathlib.Nat.{le_refl}
use native.Mathlib.Omega.{arith}
use lib.Dec.{eqb, ltb}
use lib.ListN.{length, length-append}
use borrow.Author.Tests.{ltb-true, ltb-false, eqb-true, eqb-false, ne_eqb, eq-eqb}
use Rattle.taxa.specs.Sets.{pick}
use Rattle.taxa.proofs.Bools.{either, or_cases, or_left, or_right}
use Rattle.tree.specs.Lists.{insert, mem, Over, Asc, lacks, first_lack}

or_again : (p q : Bool) → (p || q) ≡ (p || (p || q))
or_again true q = refl
or_again false q = refl

or_swap : (p q r : Bool) → (p || (q || r)) ≡ (q || (p || r))
or_swap true true r = refl
or_swap true false r = refl
or_swap false true r = refl
or_swap false false r = refl

pub mem-insert : (x z : ℕ) (l : List ℕ) → mem z (insert x l) ≡ (eqb z x || mem z l)
unfolding mem insert
mem-insert x z [] = refl
mem-insert x z (y ∷ ys) = go (mem-insert x z ys) (ltb x y) (eqb x y) refl
  where
    go : mem z (insert x ys) ≡ (eqb z x || mem z ys) → (p q : Bool) → eqb x y ≡ q
        → mem z (pick p (x ∷ y ∷ ys) (pick q (y ∷ ys) (y ∷ insert x ys)))
        ≡ (eqb z x || (eqb z y || mem z ys))
    go ih true q e = refl
    go ih false true e = rw (eqb-true x y e) (or_again (eqb z y) (mem z ys))
    go ih false false e = rw ih (or_swap (eqb z y) (eqb z x) (mem z ys))

pub asc_insert : (x : ℕ) (l : List ℕ) → Asc l → Asc (insert x l)
unfolding insert mem
asc_insert x [] h = (λ z p. absurd (false≢true p), tt)
asc_insert x (y ∷ ys) h = go (asc_insert x ys h.1) (ltb x y) (eqb x y) refl refl
  where
    over : x < y → Over x (y ∷ ys)
    over l z p = at (or_cases (eqb z y) (mem z ys) p)
      where
        at : (eqb z y ≡ true) ⊎ (mem z ys ≡ true) → x < z
        at (inl q) = omega (arith, eqb-true z y q)
        at (inr q) = omega (arith, h.0 z q)

    under : y < x → Over y (insert x ys)
    under l z p = at (or_cases (eqb z x) (mem z ys) (sym (mem-insert x z ys) ∙ p))
      where
        at : (eqb z x ≡ true) ⊎ (mem z ys ≡ true) → y < z
        at (inl q) = omega (arith, eqb-true z x q)
        at (inr q) = h.0 z q

    go : Asc (insert x ys) → (p q : Bool) → ltb x y ≡ p → eqb x y ≡ q
        → Asc (pick p (x ∷ y ∷ ys) (pick q (y ∷ ys) (y ∷ insert x ys)))
    go ih true q hp hq = (over (ltb-true x y hp), h)
    go ih false true hp hq = h
    go ih false false hp hq = (under (above (ltb-false x y hp) (eqb-false x y hq)), ih)
      where
        above : y ≤ x → (x ≡ y → ⊥) → y < x
        above a b = lib.Arith.lt_of_le-ne a (λ e. b (sym e))

-- l without z
pub remove : ℕ → List ℕ → List ℕ
remove z [] = []
remove z (y ∷ ys) = pick (eqb z y) (remove z ys) (y ∷ remove z ys)

pub mem_remove : (z x : ℕ) (l : List ℕ) → (z ≡ x → ⊥) → mem x l ≡ true → mem x (remove z l) ≡ true
unfolding mem remove
mem_remove z x [] d h = h
mem_remove z x (y ∷ ys) d h =
    go (mem_remove z x ys d) (eqb z y) refl (or_cases (eqb x y) (mem x ys) h)
  where
    go : (mem x ys ≡ true → mem x (remove z ys) ≡ true) → (p : Bool) → eqb z y ≡ p
        → (eqb x y ≡ true) ⊎ (mem x ys ≡ true)
        → mem x (pick p (remove z ys) (y ∷ remove z ys)) ≡ true
    go ih true e (inl q) = absurd (d (eqb-true z y e ∙ sym (eqb-true x y q)))
    go ih true e (inr q) = ih q
    go ih false e (inl q) = ap (λ (b : Bool). b || mem x (remove z ys)) q
    go ih false e (inr q) = ap (λ (b : Bool). eqb x y || b) (ih q) ∙ or-true (eqb x y)

pub lacks_remove : (z : ℕ) (l ws : List ℕ) → lacks (remove z l) ws ≤ lacks l ws
unfolding lacks remove
lacks_remove z [] ws = le_refl 0
lacks_remove z (y ∷ ys) ws = go (lacks_remove z ys ws) (eqb z y) (mem y ws) refl
  where
    go : lacks (remove z ys) ws ≤ lacks ys ws → (p q : Bool) → mem y ws ≡ q
        → lacks (pick p (remove z ys) (y ∷ remove z ys)) ws ≤ pick q (lacks ys ws)
        (suc (lacks ys ws))
    go ih true true e = ih
    go ih true false e = omega arith
    go ih false true e = rw e ih
    go ih false false e = rw e (omega arith)

pub lacks_remove_lt : (z : ℕ) (l ws : List ℕ) → mem z l ≡ true → mem z ws ≡ false
    → lacks (remove z l) ws < lacks l ws
unfolding lacks remove mem
lacks_remove_lt z [] ws h w = absurd (false≢true h)
lacks_remove_lt z (y ∷ ys) ws h w = go (λ k. lacks_remove_lt z ys ws k w) (eqb z y) (mem y ws) refl
    refl (or_cases (eqb z y) (mem z ys) h)
  where
    go : (mem z ys ≡ true → lacks (remove z ys) ws < lacks ys ws) → (p q : Bool) → eqb z y ≡ p
        → mem y ws ≡ q
        → (eqb z y ≡ true) ⊎ (mem z ys ≡ true)
        → lacks (pick p (remove z ys) (y ∷ remove z ys)) ws < pick q (lacks ys ws)
        (suc (lacks ys ws))
    go ih true true e f k = absurd
        (true≢false (sym f ∙ ap (λ (x : ℕ). mem x ws) (sym (eqb-true z y e)) ∙ w))
    go ih true false e f k = omega (arith, lacks_remove z ys ws)
    go ih false q e f (inl k) = absurd (true≢false (sym k ∙ e))
    go ih false true e f (inr k) = rw f (ih k)
    go ih false false e f (inr k) = rw f (omega (arith, ih k))

-- no member twice
abbrev pub Distinct : List ℕ → Type 0
Distinct [] = Unit {0}
Distinct (x ∷ xs) = (mem x xs ≡ false) × Distinct xs

pub asc_distinct : (xs : List ℕ) → Asc xs → Distinct xs
asc_distinct [] h = tt
asc_distinct (x ∷ xs) h = (go (mem x xs) refl, asc_distinct xs h.1)
  where
    go : (b : Bool) → mem x xs ≡ b → b ≡ false
    go true e = let l = h.0 x e in absurd (omega arith)
    go false e = refl

-- what xs lacks of ys is no more than what zs lacks of ws, where f takes some
-- of the latter to each of the former
pub lacks_le' : (f : ℕ → ℕ) (xs ys zs ws : List ℕ) → Distinct xs
    → ((x : ℕ) → mem x xs ≡ true → mem x ys ≡ false
    → (z : ℕ) × (mem z zs ≡ true) × (mem z ws ≡ false) × (f z ≡ x))
    → lacks xs ys ≤ lacks zs ws
unfolding lacks mem
lacks_le' f [] ys zs ws dis h = zero-le
lacks_le' f (x ∷ xs) ys zs ws dis h =
    go (λ zs' k. lacks_le' f xs ys zs' ws dis.1 k) (mem x ys) refl
  where
    tail : (x' : ℕ) → mem x' xs ≡ true → mem x' (x ∷ xs) ≡ true
    tail x' p = ap (λ (b : Bool). eqb x' x || b) p ∙ or-true (eqb x' x)

    go : ((zs' : List ℕ)
        → ((x' : ℕ) → mem x' xs ≡ true → mem x' ys ≡ false
        → (z : ℕ) × (mem z zs' ≡ true) × (mem z ws ≡ false) × (f z ≡ x'))
        → lacks xs ys ≤ lacks zs' ws)
        → (q : Bool) → mem x ys ≡ q → pick q (lacks xs ys) (suc (lacks xs ys)) ≤ lacks zs ws
    go ih true e = ih zs (λ x' p q. h x' (tail x' p) q)
    go ih false e =
        let k = h x (ap (λ (b : Bool). b || mem x xs) (eq-eqb x x refl)) e in
        let more : lacks xs ys ≤ lacks (remove k.0 zs) ws = ih (remove k.0 zs) (λ x' p q.
        let k' = h x' (tail x' p) q in (
          k'.0,
          mem_remove k.0 k'.0 zs (λ d. apart x' p (sym k.3 ∙ ap f d ∙ k'.3))
              k'.1,
          k'.2,
          k'.3,
        )) in
        omega (arith, lacks_remove_lt k.0 zs ws k.1 k.2)
      where
        apart : (x' : ℕ) → mem x' xs ≡ true → x ≡ x' → ⊥
        apart x' p e = true≢false (sym p ∙ ap (λ (z : ℕ). mem z xs) (sym e) ∙ dis.0)

pub lacks_le : (f : ℕ → ℕ) (xs ys zs ws : List ℕ) → Asc xs
    → ((x : ℕ) → mem x xs ≡ true → mem x ys ≡ false
    → (z : ℕ) × (mem z zs ≡ true) × (mem z ws ≡ false) × (f z ≡ x))
    → lacks xs ys ≤ lacks zs ws
lacks_le f xs ys zs ws asc h = lacks_le' f xs ys zs ws (asc_distinct xs asc) h

pub lacks_nil : (xs : List ℕ) → lacks xs [] ≡ length xs
unfolding lacks mem
lacks_nil [] = refl
lacks_nil (x ∷ xs) = ap suc (lacks_nil xs)

-- what xs lacks of ys is listed by zs
pub lacks-list : (xs ys zs : List ℕ) → Asc xs → Distinct zs
    → ((x : ℕ) → mem x xs ≡ true → mem x ys ≡ false → mem x zs ≡ true)
    → ((x : ℕ) → mem x zs ≡ true → (mem x xs ≡ true) × (mem x ys ≡ false)) → lacks xs ys ≡ length zs
unfolding mem
lacks-list xs ys zs asc dis into onto =
    let up : lacks xs ys ≤ lacks zs [] =
    lacks_le (λ x. x) xs ys zs [] asc (λ x p q. (x, into x p q, refl, refl)) in
    let down : lacks zs [] ≤ lacks xs ys =
    lacks_le' (λ x. x) zs [] xs ys dis (λ x p q. let w = onto x p in (x, w.0, w.1, refl)) in
    omega (arith, lacks_nil zs)

-- ---- the members of xs that ys lacks, in order
pub lost : List ℕ → List ℕ → List ℕ
lost [] ys = []
lost (x ∷ xs) ys = pick (mem x ys) (lost xs ys) (x ∷ lost xs ys)

lost_length : (xs ys : List ℕ) → length (lost xs ys) ≡ lacks xs ys
unfolding lost lacks
lost_length [] ys = refl
lost_length (x ∷ xs) ys = go (lost_length xs ys) (mem x ys)
  where
    go : length (lost xs ys) ≡ lacks xs ys → (b : Bool)
        → length (pick b (lost xs ys) (x ∷ lost xs ys)) ≡ pick b (lacks xs ys) (suc (lacks xs ys))
    go ih true = ih
    go ih false = ap suc ih

lost_in : (xs ys : List ℕ) (z : ℕ) → mem z xs ≡ true → mem z ys ≡ false → mem z (lost xs ys) ≡ true
unfolding lost mem
lost_in [] ys z h l = h
lost_in (x ∷ xs) ys z h l =
    go (λ h'. lost_in xs ys z h' l) (mem x ys) refl (or_cases (eqb z x) (mem z xs) h)
  where
    go : (mem z xs ≡ true → mem z (lost xs ys) ≡ true) → (b : Bool) → mem x ys ≡ b
        → (eqb z x ≡ true) ⊎ (mem z xs ≡ true) → mem z (pick b (lost xs ys) (x ∷ lost xs ys)) ≡ true
    go ih true e (inl q) = absurd
        (true≢false (sym e ∙ ap (λ (v : ℕ). mem v ys) (sym (eqb-true z x q)) ∙ l))
    go ih true e (inr q) = ih q
    go ih false e (inl q) = ap (λ (b : Bool). b || mem z (lost xs ys)) q
    go ih false e (inr q) = ap (λ (b : Bool). eqb z x || b) (ih q) ∙ or-true (eqb z x)

lost_out : (xs ys : List ℕ) (z : ℕ) → mem z (lost xs ys) ≡ true
    → (mem z xs ≡ true) × (mem z ys ≡ false)
unfolding lost mem
lost_out [] ys z h = absurd (false≢true h)
lost_out (x ∷ xs) ys z h = go (lost_out xs ys z) (mem x ys) refl h
  where
    up : (mem z xs ≡ true) × (mem z ys ≡ false)
        → ((eqb z x || mem z xs) ≡ true) × (mem z ys ≡ false)
    up w = (ap (λ (b : Bool). eqb z x || b) w.0 ∙ or-true (eqb z x), w.1)

    at : (mem z (lost xs ys) ≡ true → (mem z xs ≡ true) × (mem z ys ≡ false)) → mem x ys ≡ false
        → (eqb z x ≡ true) ⊎ (mem z (lost xs ys) ≡ true)
        → ((eqb z x || mem z xs) ≡ true) × (mem z ys ≡ false)
    at ih e (inl q) = (
      ap (λ (b : Bool). b || mem z xs) q,
      ap (λ (v : ℕ). mem v ys) (eqb-true z x q)
          ∙ e,
    )
    at ih e (inr q) = up (ih q)

    go : (mem z (lost xs ys) ≡ true → (mem z xs ≡ true) × (mem z ys ≡ false)) → (b : Bool)
        → mem x ys ≡ b
        → mem z (pick b (lost xs ys) (x ∷ lost xs ys)) ≡ true
        → ((eqb z x || mem z xs) ≡ true) × (mem z ys ≡ false)
    go ih true e h = up (ih h)
    go ih false e h = at ih e (or_cases (eqb z x) (mem z (lost xs ys)) h)

not_mem : (z : ℕ) (l : List ℕ) → (mem z l ≡ true → ⊥) → mem z l ≡ false
not_mem z l h = go (either (mem z l))
  where
    go : (mem z l ≡ true) ⊎ (mem z l ≡ false) → mem z l ≡ false
    go (inl q) = absurd (h q)
    go (inr q) = q

lost_distinct : (xs ys : List ℕ) → Distinct xs → Distinct (lost xs ys)
unfolding lost
lost_distinct [] ys d = tt
lost_distinct (x ∷ xs) ys d = go (lost_distinct xs ys d.1) (mem x ys)
  where
    go : Distinct (lost xs ys) → (b : Bool) → Distinct (pick b (lost xs ys) (x ∷ lost xs ys))
    go ih true = ih
    go ih false = (
      not_mem x (lost xs ys) (λ q. true≢false (sym (lost_out xs ys x q).0 ∙ d.0)),
      ih,
    )

pub mem-append : (z : ℕ) (ls bs : List ℕ) → mem z (ls ++ bs) ≡ (mem z ls || mem z bs)
unfolding mem
mem-append z [] bs = refl
mem-append z (l ∷ ls) bs = ap (λ (b : Bool). eqb z l || b) (mem-append z ls bs)
    ∙ sym (or_assoc (eqb z l) (mem z ls) (mem z bs))

distinct_append : (ls bs : List ℕ) → Distinct ls → Distinct bs
    → ((z : ℕ) → mem z ls ≡ true → mem z bs ≡ true → ⊥) → Distinct (ls ++ bs)
unfolding mem
distinct_append [] bs d e h = e
distinct_append (l ∷ ls) bs d e h = (
  not_mem l (ls ++ bs) (λ q. at (or_cases (mem l ls) (mem l bs) (sym (mem-append l ls bs) ∙ q))),
  distinct_append ls bs d.1 e
      (λ z p q. h z (ap (λ (b : Bool). eqb z l || b) p ∙ or-true (eqb z l)) q),
)
  where
    at : (mem l ls ≡ true) ⊎ (mem l bs ≡ true) → ⊥
    at (inl q) = true≢false (sym q ∙ d.0)
    at (inr q) = h l (ap (λ (b : Bool). b || mem l ls) (eq-eqb l l refl)) q

-- where nothing lost comes back, and what is lost second was there at first,
-- the two numbers add
pub lacks-add : (xs ys zs : List ℕ) → Asc xs → Asc ys
    → ((x : ℕ) → mem x xs ≡ true → mem x ys ≡ false → mem x zs ≡ true → ⊥)
    → ((x : ℕ) → mem x ys ≡ true → mem x zs ≡ false → mem x xs ≡ true)
    → lacks xs zs ≡ lacks xs ys + lacks ys zs
lacks-add xs ys zs ax ay gone there =
    lacks-list xs zs (lost xs ys ++ lost ys zs) ax
    (distinct_append (lost xs ys) (lost ys zs) (lost_distinct xs ys (asc_distinct xs ax))
    (lost_distinct ys zs (asc_distinct ys ay))
    (λ z p q. true≢false (sym (lost_out ys zs z q).0 ∙ (lost_out xs ys z p).1)))
    into onto
    ∙ length-append (lost xs ys) (lost ys zs) ∙ ap₂ ◌+◌ (lost_length xs ys) (lost_length ys zs)
  where
    into : (x : ℕ) → mem x xs ≡ true → mem x zs ≡ false → mem x (lost xs ys ++ lost ys zs) ≡ true
    into x p q = mem-append x (lost xs ys) (lost ys zs) ∙ go (either (mem x ys))
      where
        go : (mem x ys ≡ true) ⊎ (mem x ys ≡ false)
            → (mem x (lost xs ys) || mem x (lost ys zs)) ≡ true
        go (inl e) = ap (λ (b : Bool). mem x (lost xs ys) || b) (lost_in ys zs x e q)
            ∙ or-true (mem x (lost xs ys))
        go (inr e) = ap (λ (b : Bool). b || mem x (lost ys zs)) (lost_in xs ys x p e)

    onto : (x : ℕ) → mem x (lost xs ys ++ lost ys zs) ≡ true
        → (mem x xs ≡ true) × (mem x zs ≡ false)
    onto x p = go (or_cases (mem x (lost xs ys)) (mem x (lost ys zs))
        (sym (mem-append x (lost xs ys) (lost ys zs)) ∙ p))
      where
        go : (mem x (lost xs ys) ≡ true) ⊎ (mem x (lost ys zs) ≡ true)
            → (mem x xs ≡ true) × (mem x zs ≡ false)
        go (inl q) = let w = lost_out xs ys x q in (w.0, not_mem x zs (gone x w.0 w.1))
        go (inr q) = let w = lost_out ys zs x q in (there x w.0 w.1, w.1)

-- ---- an ascending list is settled by its members
pub asc_eq : (xs ys : List ℕ) → Asc xs → Asc ys → ((z : ℕ) → mem z xs ≡ mem z ys) → xs ≡ ys
unfolding mem
asc_eq [] [] a b h = refl
asc_eq [] (y ∷ ys) a b h =
    absurd (false≢true (h y ∙ or_left (eqb y y) (mem y ys) (eq-eqb y y refl)))
asc_eq (x ∷ xs) [] a b h =
    absurd (true≢false (sym (or_left (eqb x x) (mem x xs) (eq-eqb x x refl)) ∙ h x))
asc_eq (x ∷ xs) (y ∷ ys) a b h =
    go (or_cases (eqb x y) (mem x ys) (sym (h x) ∙ or_left (eqb x x) (mem x xs) (eq-eqb x x refl)))
    (or_cases (eqb y x) (mem y xs) (h y ∙ or_left (eqb y y) (mem y ys) (eq-eqb y y refl)))
    (asc_eq xs ys a.1 b.1)
  where
    tails : x ≡ y → (z : ℕ) → mem z xs ≡ mem z ys
    tails e z = at (either (mem z xs)) (either (mem z ys))
      where
        at : (mem z xs ≡ true) ⊎ (mem z xs ≡ false) → (mem z ys ≡ true) ⊎ (mem z ys ≡ false)
            → mem z xs ≡ mem z ys
        at (inl p) (inl q) = p ∙ sym q
        at (inr p) (inr q) = p ∙ sym q
        at (inl p) (inr q) =
            let l : x < z = a.0 z p in
            absurd (true≢false (sym (or_right (eqb z x) (mem z xs) p) ∙ h z
            ∙ ap₂ ◌||◌ (ne_eqb z y (λ w. omega arith)) q))
        at (inr p) (inl q) =
            let l : y < z = b.0 z q in
            absurd (true≢false (sym (or_right (eqb z y) (mem z ys) q) ∙ sym (h z)
            ∙ ap₂ ◌||◌ (ne_eqb z x (λ w. omega arith)) p))

    go : (eqb x y ≡ true) ⊎ (mem x ys ≡ true) → (eqb y x ≡ true) ⊎ (mem y xs ≡ true)
        → (((z : ℕ) → mem z xs ≡ mem z ys) → xs ≡ ys) → x ∷ xs ≡ y ∷ ys
    go (inl p) q ih = ap₂ ◌∷◌ (eqb-true x y p) (ih (tails (eqb-true x y p)))
    go (inr p) (inl q) ih = ap₂ ◌∷◌ (sym (eqb-true y x q)) (ih (tails (sym (eqb-true y x q))))
    go (inr p) (inr q) ih = absurd (omega (arith, b.0 x p, a.0 y q))

-- ---- nothing is lacking where every member is there, and one number where all but it are
pub lacks-none : (xs ys : List ℕ) → ((x : ℕ) → mem x xs ≡ true → mem x ys ≡ true) → lacks xs ys ≡ 0
unfolding lacks mem
lacks-none [] ys h = refl
lacks-none (x ∷ xs) ys h =
    rw (h x (or_left (eqb x x) (mem x xs) (eq-eqb x x refl)))
    (lacks-none xs ys (λ z p. h z (or_right (eqb z x) (mem z xs) p)))

pub lacks_one : (x : ℕ) (xs ys : List ℕ) → Asc xs → mem x xs ≡ true → mem x ys ≡ false
    → ((z : ℕ) → mem z xs ≡ true → (z ≡ x → ⊥) → mem z ys ≡ true) → lacks xs ys ≡ 1
unfolding lacks mem
lacks_one x [] ys asc h l k = absurd (false≢true h)
lacks_one x (w ∷ xs) ys asc h l k =
    go (λ h'. lacks_one x xs ys asc.1 h' l (λ z p. k z (tail z p))) (either (eqb x w))
    (or_cases (eqb x w) (mem x xs) h)
  where
    tail : (z : ℕ) → mem z xs ≡ true → (eqb z w || mem z xs) ≡ true
    tail z p = or_right (eqb z w) (mem z xs) p

    head : (eqb w w || mem w xs) ≡ true
    head = or_left (eqb w w) (mem w xs) (eq-eqb w w refl)

    go : (mem x xs ≡ true → lacks xs ys ≡ 1) → (eqb x w ≡ true) ⊎ (eqb x w ≡ false)
        → (eqb x w ≡ true) ⊎ (mem x xs ≡ true)
        → pick (mem w ys) (lacks xs ys) (suc (lacks xs ys)) ≡ 1
    go ih (inl e) m =
        let out : mem w ys ≡ false = ap (λ (z : ℕ). mem z ys) (sym (eqb-true x w e)) ∙ l in
        let none : lacks xs ys ≡ 0 =
        lacks-none xs ys (λ z p. k z (tail z p)
        (λ q. omega (arith, asc.0 z p, eqb-true x w e))) in
        rw (out, none)
    go ih (inr e) (inl m) = absurd (true≢false (sym m ∙ e))
    go ih (inr e) (inr m) =
        let inn : mem w ys ≡ true = k w head (λ q. eqb-false x w e (sym q)) in
        rw inn (ih m)

pub none-lacks : (xs ys : List ℕ) → lacks xs ys ≡ 0 → (z : ℕ) → mem z xs ≡ true → mem z ys ≡ true
unfolding lacks mem
none-lacks [] ys h z p = absurd (false≢true p)
none-lacks (x ∷ xs) ys h z p =
    go (none-lacks xs ys) (mem x ys) refl h (or_cases (eqb z x) (mem z xs) p)
  where
    go : (lacks xs ys ≡ 0 → (z : ℕ) → mem z xs ≡ true → mem z ys ≡ true) → (b : Bool) → mem x ys ≡ b
        → pick b (lacks xs ys) (suc (lacks xs ys)) ≡ 0
        → (eqb z x ≡ true) ⊎ (mem z xs ≡ true) → mem z ys ≡ true
    go ih true e h (inl q) = ap (λ (v : ℕ). mem v ys) (eqb-true z x q) ∙ e
    go ih true e h (inr q) = ih h z q
    go ih false e h k = absurd (omega arith)

-- ---- the first that is lacking: it is a member and lacking, and no smaller member is; 0 where nothing is lacking
pub record First (xs ys : List ℕ) (z : ℕ) : Type 0 where
  pub there : mem z xs ≡ true
  pub lacking : mem z ys ≡ false
  pub least : (x : ℕ) → mem x xs ≡ true → mem x ys ≡ false → z ≤ x

pub first_lack_lem : (xs ys : List ℕ) → Asc xs → ((lacks xs ys ≡ 0) × (first_lack xs ys ≡ 0))
    ⊎ First xs ys (first_lack xs ys)
unfolding lacks first_lack mem
first_lack_lem [] ys a = inl (refl, refl)
first_lack_lem (x ∷ xs) ys a = go (first_lack_lem xs ys a.1) (mem x ys) refl
  where
    go : ((lacks xs ys ≡ 0) × (first_lack xs ys ≡ 0)) ⊎ First xs ys (first_lack xs ys) → (b : Bool)
        → mem x ys ≡ b
        → ((pick b (lacks xs ys) (suc (lacks xs ys)) ≡ 0) × (pick b (first_lack xs ys) x ≡ 0))
        ⊎ First (x ∷ xs) ys (pick b (first_lack xs ys) x)
    go (inl h) true e = inl h
    go (inr f) true e = inr (record {
      there = or_right (eqb (first_lack xs ys) x) (mem (first_lack xs ys) xs) f.there;
      lacking = f.lacking;
      least = λ z p q. at z q (or_cases (eqb z x) (mem z xs) p);
    })
      where
        at : (z : ℕ) → mem z ys ≡ false → (eqb z x ≡ true) ⊎ (mem z xs ≡ true) → first_lack xs ys ≤ z
        at z q (inl w) = absurd (true≢false (sym e ∙ ap (λ (v : ℕ). mem v ys) (sym (eqb-true z x w))
            ∙ q))
        at z q (inr w) = f.least z w q
    go w false e = inr (record {
      there = or_left (eqb x x) (mem x xs) (eq-eqb x x refl);
      lacking = e;
      least = λ z p q. at z (or_cases (eqb z x) (mem z xs) p);
    })
      where
        at : (z : ℕ) → (eqb z x ≡ true) ⊎ (mem z xs ≡ true) → x ≤ z
        at z (inl w) = omega (arith, eqb-true z x w)
        at z (inr w) = omega (arith, a.0 z w)

pub lacks-most : (xs ys : List ℕ) → lacks xs ys ≤ length xs
unfolding lacks
lacks-most [] ys = le_refl 0
lacks-most (x ∷ xs) ys = go (lacks-most xs ys) (mem x ys)
  where
    go : lacks xs ys ≤ length xs → (b : Bool)
        → pick b (lacks xs ys) (suc (lacks xs ys)) ≤ suc (length xs)
    go ih true = omega arith
    go ih false = omega arith
