-- The table that a tree's text stands for is valid: the rows that it writes,
-- member by member. Assumes nothing.
use mathlib.Core.Path.{◌≡◌, refl, sym, ap, ◌∙◌, subst}
use mathlib.Core.Logic.{◌⊎◌, inl, inr}
use mathlib.Core.List.{List}
use Prim.Native.Nat.{ℕ, suc, ◌+◌, ◌*◌, ◌≤◌, ◌<◌}
use native.Mathlib.Omega.{arith}
use lib.Dec.{eqb}
use lib.ListN.{length}
use borrow.Author.Tests.{lt-ltb, le-ltb, eq-eqb}
use Rattle.taxa.specs.Sets.{tally}
use Rattle.tree.specs.Tree.{rows, nodes, Valid}
use Rattle.newick_grammar.specs.Newick.{Member, taxon, group, Outermost, two, three, times}
use Rattle.newick_grammar.specs.Newick.{times_in}
use Rattle.newick_grammar.specs.Newick.{EachOnce}
use Rattle.newick_grammar.specs.Numbers.{groups, node, join, with_rows, blank, table, smaller}
use Rattle.newick_grammar.specs.Numbers.{larger}
use Rattle.newick_grammar.proofs.Labels.{Below, two_total, three_total}
use Rattle.newick_grammar.proofs.Low.{low, low-some, low-next}
use Rattle.newick_grammar.proofs.Rooted.{rooted_valid}
use Rattle.newick_grammar.proofs.Writes.{Writes, none, put, joins, firsts, seconds, Fit}
use Rattle.newick_grammar.proofs.Writes.{length-written, Whole, whole_rooted}

-- ---- the rows of a member, before those of w
unfoldable within : Member → ℕ → Writes → Writes
within (taxon d) k w = w
within (group l r) k w =
    let j = k + groups l in
    let p = j + groups r in
    put (node r j) p (put (node l k) p (within r j (within l k w)))

-- written, they are the rows that withRows writes
within_joins : (m : Member) (k : ℕ) (w : Writes) (t : List ℕ)
    → joins (within m k w) t ≡ with_rows m k (joins w t)
unfolding within with_rows joins
within_joins (taxon d) k w t = refl
within_joins (group l r) k w t =
    let j = k + groups l in
    let p = j + groups r in
    ap (λ (x : List ℕ). join (node r j) p (join (node l k) p x))
    (within_joins r j (within l k w) t ∙ ap (with_rows r j) (within_joins l k w t))

-- a member's nodes, itself included, are its labels and its groups' numbers
within-firsts : (m : Member) (k : ℕ) (w : Writes) (v : ℕ)
    → firsts v (within m k w) + tally (eqb (node m k) v) + low k v ≡ times v m + low (k + groups m)
    v + firsts v w
unfolding within firsts node groups times
within-firsts (taxon d) k w v =
    let e : low (k + 0) v ≡ low k v = ap (λ (x : ℕ). low x v) (omega arith) in
    omega arith
within-firsts (group l r) k w v =
    let j = k + groups l in
    let last : low (k + suc (groups l + groups r)) v ≡ low (suc (j + groups r)) v
    = ap (λ (x : ℕ). low x v) (omega arith) in
    let same : tally (eqb (k + (groups l + groups r)) v) ≡ tally (eqb (j + groups r) v)
    = ap (λ (x : ℕ). tally (eqb x v)) (omega arith) in
    omega (
      arith,
      last,
      same,
      low-next (j + groups r) v,
      within-firsts r j (within l k w) v,
      within-firsts l k w v,
    )

-- each of its groups' nodes is above two rows
within-seconds : (m : Member) (k : ℕ) (w : Writes) (p : ℕ)
    → seconds p (within m k w) + 2 * low k p ≡ 2 * low (k + groups m) p + seconds p w
unfolding within seconds groups
within-seconds (taxon d) k w p =
    let e : low (k + 0) p ≡ low k p = ap (λ (x : ℕ). low x p) (omega arith) in
    omega arith
within-seconds (group l r) k w p =
    let j = k + groups l in
    let last : low (k + suc (groups l + groups r)) p ≡ low (suc (j + groups r)) p
    = ap (λ (x : ℕ). low x p) (omega arith) in
    omega (
      arith,
      last,
      low-next (j + groups r) p,
      within-seconds r j (within l k w) p,
      within-seconds l k w p,
    )

-- its own node comes before any that closes after it
pub node_lt : (n : ℕ) (m : Member) (k : ℕ) → Below n m → n ≤ k
    → node m k < k + groups m
unfolding node groups times
node_lt n (taxon d) k b h =
    let here : 0 < times d (taxon d) = rw (eq-eqb d d refl) (omega arith) in
    omega (arith, b d here)
node_lt n (group l r) k b h = omega arith

-- every row of a member goes to a larger node, which is no taxon
within_fit : (n m : ℕ) (a : Member) (k : ℕ) (w : Writes) → Below n a → n ≤ k
    → k + groups a ≤ m
    → Fit n m w → Fit n m (within a k w)
unfolding within Fit groups times
within_fit n m (taxon d) k w b h l f = f
within_fit n m (group a c) k w b h l f =
    let j = k + groups a in
    let left : Below n a = λ x p. b x (omega (arith, p)) in
    let right : Below n c = λ x p. b x (omega (arith, p)) in
    let f₁ = within_fit n m a k w left h (omega arith) f in
    let f₂ = within_fit n m c j (within a k w) right (omega arith) (omega arith) f₁ in
    let f₃ : Fit n m (put (node a k) (j + groups c) (within c j (within a k w)))
    = (omega (arith, node_lt n a k left h), omega arith, omega arith, f₂) in
    (node_lt n c j right (omega arith), omega arith, omega arith, f₃)

-- ---- the rows of a tree, in the order in which its table writes them
unfoldable listed : ℕ → Outermost → Writes
listed n (two a b) =
    let j = n + groups a in
    let x = node a n in
    let y = node b j in
    put (smaller x y) (larger x y) (within b j (within a n none))
listed n (three a b c) =
    let j = n + groups a in
    let k = j + groups b in
    let p = k + groups c in
    put (node c k) p (put (node b j) p
    (put (node a n) p (within c k (within b j (within a n none)))))

-- they are the rows that the table has
list-table : (n : ℕ) (o : Outermost) → table n o ≡ joins (listed n o) (blank n)
unfolding table listed joins
list-table n (two a b) =
    let j = n + groups a in
    let x = node a n in
    let y = node b j in
    let w = within a n none in
    let same : joins (within b j w) (blank n) ≡ with_rows b j (with_rows a n (blank n))
    = within_joins b j w (blank n) ∙ ap (with_rows b j) (within_joins a n none (blank n)) in
    ap (join (smaller x y) (larger x y)) (sym same)
list-table n (three a b c) =
    let j = n + groups a in
    let k = j + groups b in
    let p = k + groups c in
    let w = within a n none in
    let x = within b j w in
    let same : joins (within c k x) (blank n) ≡ with_rows c k (with_rows b j (with_rows a n (blank n)))
    = within_joins c k x (blank n)
    ∙ ap (with_rows c k) (within_joins b j w (blank n)
    ∙ ap (with_rows b j) (within_joins a n none (blank n))) in
    ap (λ (u : List ℕ). join (node c k) p (join (node b j) p (join (node a n) p u))) (sym same)

-- the table has its length whatever the tree
pub table-length : (n : ℕ) (o : Outermost) → length (table n o) ≡ 2 * rows n
table-length n o = ap length (list-table n o) ∙ length-written n (listed n o)

-- ---- the rows make up a whole table
-- the larger of two outermost members is the last node
pub last-larger : (n : ℕ) (a b : Member) → 4 ≤ n → Below n a → Below n b
    → groups a + groups b + 2 ≡ n
    → ((node a n < node b (n + groups a)) × (node b (n + groups a) ≡ rows n))
    ⊎ ((node b (n + groups a) < node a n) × (node a n ≡ rows n))
unfolding node groups times
last-larger n a (group l r) big ba bb s =
    inl (omega (arith, node_lt n a n ba (omega arith)), omega arith)
last-larger n (group l r) (taxon d) big ba bb s =
    inr (omega (arith, node_lt n (taxon d) n bb (omega arith)), omega arith)
last-larger n (taxon c) (taxon d) big ba bb s = absurd (omega arith)

-- two members joined by a row from the one with node x to the last
two-whole : (n : ℕ) (a b : Member) (x : ℕ) → 4 ≤ n → Below n a → Below n b
    → EachOnce n (two a b) → x < rows n
    → ((v : ℕ) → tally (eqb x v) + tally (eqb (rows n) v)
    ≡ tally (eqb (node a n) v) + tally (eqb (node b (n + groups a)) v))
    → Whole n (put x (rows n) (within b (n + groups a) (within a n none)))
unfolding firsts seconds Fit times_in
two-whole n a b x big ba bb each l ends =
    let j = n + groups a in
    let w = within a n none in
    let s = two_total n a b each in
    let end : j + groups b ≡ suc (rows n) = omega arith in
    let all : (v : ℕ) → low (j + groups b) v ≡ low (rows n) v + tally (eqb (rows n) v)
    = λ v. ap (λ (k : ℕ). low k v) end ∙ low-next (rows n) v in
    let f = within_fit n (nodes n) a n none ba (omega arith) (omega arith) tt in
    let g = within_fit n (nodes n) b j w bb (omega arith) (omega arith) f in
    record {
      fit = (l, omega arith, omega arith, g);
      once = λ v. omega (
        arith,
        each v,
        ends v,
        all v,
        within-firsts b j w v,
        within-firsts a n none v,
      );
      twice = λ p. omega (arith, all p, within-seconds b j w p, within-seconds a n none p);
    }

-- three members, each joined to the last node
three-whole : (n : ℕ) (a b c : Member) → 4 ≤ n → Below n a → Below n b
    → Below n c → EachOnce n (three a b c)
    → Whole n (listed n (three a b c))
unfolding firsts seconds Fit times_in listed
three-whole n a b c big ba bb bc each =
    let j = n + groups a in
    let k = j + groups b in
    let w = within a n none in
    let x = within b j w in
    let s = three_total n a b c each in
    let end : k + groups c ≡ rows n = omega arith in
    let all : (v : ℕ) → low (k + groups c) v ≡ low (rows n) v = λ v. ap (λ (i : ℕ). low i v) end in
    let top : (v : ℕ) → tally (eqb (k + groups c) v) ≡ tally (eqb (rows n) v)
    = λ v. ap (λ (i : ℕ). tally (eqb i v)) end in
    let f = within_fit n (nodes n) a n none ba (omega arith) (omega arith) tt in
    let g = within_fit n (nodes n) b j w bb (omega arith) (omega arith) f in
    let h = within_fit n (nodes n) c k x bc (omega arith) (omega arith) g in
    let la = node_lt n a n ba (omega arith) in
    let lb = node_lt n b j bb (omega arith) in
    let lc = node_lt n c k bc (omega arith) in
    record {
      fit = (
        lc,
        omega arith,
        omega arith,
        (omega arith, omega arith, omega arith, (omega arith, omega arith, omega arith, h)),
      );
      once = λ v. omega (
        arith,
        each v,
        all v,
        within-firsts c k x v,
        within-firsts b j w v,
        within-firsts a n none v,
      );
      twice = λ p. omega (
        arith,
        all p,
        top p,
        within-seconds c k x p,
        within-seconds b j w p,
        within-seconds a n none p,
      );
    }

-- the rows of a tree make up a whole table
list-whole : (n : ℕ) (o : Outermost) → 4 ≤ n → EachOnce n o
    → Whole n (listed n o)
unfolding times_in listed
list-whole n (two a b) big each = go (last-larger n a b big ba bb (two_total n a b each))
  where
    j : ℕ
    j = n + groups a

    x : ℕ
    x = node a n

    y : ℕ
    y = node b j

    w : Writes
    w = within b j (within a n none)

    ba : Below n a
    ba v p = low-some n v (times v a) p (omega (arith, each v))

    bb : Below n b
    bb v p = low-some n v (times v b) p (omega (arith, each v))

    go : ((x < y) × (y ≡ rows n)) ⊎ ((y < x) × (x ≡ rows n))
        → Whole n (put (smaller x y) (larger x y) w)
    go (inl (l, e)) =
        let h : Whole n (put x (rows n) w)
        = two-whole n a b x big ba bb each (omega arith)
        (λ v. ap (λ (i : ℕ). tally (eqb x v) + tally (eqb i v)) (sym e)) in
        rw (lt-ltb x y l) (subst (λ (i : ℕ). Whole n (put x i w)) (sym e) h)
    go (inr (l, e)) =
        let ends : (v : ℕ) → tally (eqb (rows n) v) ≡ tally (eqb x v) =
        λ v. ap (λ (i : ℕ). tally (eqb i v)) (sym e) in
        let h : Whole n (put y (rows n) w) =
        two-whole n a b y big ba bb each (omega arith) (λ v. omega (arith, ends v)) in
        rw (le-ltb x y (omega arith)) (subst (λ (i : ℕ). Whole n (put y i w)) (sym e) h)
list-whole n (three a b c) big each =
    three-whole n a b c big
    (λ v p. low-some n v (times v a) p (omega (arith, each v)))
    (λ v p. low-some n v (times v b) p (omega (arith, each v)))
    (λ v p. low-some n v (times v c) p (omega (arith, each v)))
    each

-- a tree's table is valid
pub table-valid : (n : ℕ) (o : Outermost) → 4 ≤ n → EachOnce n o
    → Valid n (table n o)
table-valid n o big each =
    subst (Valid n) (sym (list-table n o)) (rooted_valid big
    (whole_rooted big (list-whole n o big each)))
