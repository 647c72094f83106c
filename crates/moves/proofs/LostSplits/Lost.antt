-- The splits that one list has and the other lacks along a chain: one for each
-- group that is met and has two met behind it. No table here.
-- Assumes nothing.
use mathlib.Core.Path.{◌≡◌, refl, sym, ap, ap₂, ◌∙◌, subst}
use mathlib.Core.Logic.{◌⊎◌, inl, inr}
use mathlib.Core.Bool.{Bool, true, false, not, ◌&&◌, ◌||◌, true≢false, false≢true, or-true}
use mathlib.Core.List.{List, [], ◌∷◌, ◌++◌, append_assoc}
use Prim.Native.Nat.{ℕ, ◌+◌, ◌-◌, ◌≤◌}
use native.Mathlib.Omega.{arith}
use lib.Dec.{eqb, leb}
use lib.ListN.{length}
use lib.Bits.{bit_and}
use borrow.Author.Tests.{eqb-true, leb-true, leb-false}
use Rattle.taxa.specs.Sets.{pick, has, some, tally, in_some}
use Rattle.taxa.proofs.Bools.{Either, either, or_cases, or_neither, ◌⊕◌}
use Rattle.tree.specs.Lists.{mem, lacks}
use Rattle.tree.specs.Splits.{split}
use Rattle.tree.proofs.Lists.{Distinct, lacks-none}
use Rattle.tree.proofs.SplitLaws.{split_eq, split-pairs}
use Rattle.tree.proofs.Growth.{kept_by}
use Rattle.moves.specs.Groups.{met}
use Rattle.moves.proofs.Ways.Meeting.{Miss, Met, some-met}
use Rattle.moves.proofs.Rows.Splits.{Corners}
use Rattle.moves.proofs.Ways.GroupLists.{in_some-append, in_some_left, in_some-right}
use Rattle.moves.proofs.Ways.GroupLists.{in_some_mid, snoc, FirstMet, first-met, MetIn}
use Rattle.moves.proofs.Ways.GroupLists.{one_met}
use Rattle.moves.proofs.LostSplits.Chain.{with_w, has_with, with_in, with_any}
use Rattle.moves.proofs.LostSplits.Chain.{with_out, sep', WithFirst, Chain}

-- ---- what xs has and ys lacks: ls being the first groups, one split for each
-- group after them that is met and has two met behind it
unfoldable pub lost : ℕ → ℕ → ℕ → List ℕ → List ℕ → List ℕ
lost n y w ls [] = []
lost n y w ls (g ∷ gs) =
    let ls' = ls ++ g ∷ [] in
    let after = lost n y w ls' gs in
    pick (some (bit_and g y) && leb 2 (met y gs)) (split n y (with_w w ls') ∷ after) after

pub lost_length : (n y w : ℕ) (gs ls : List ℕ) → length (lost n y w ls gs) ≡ met y gs - 2
unfolding lost met
lost_length n y w [] ls = refl
lost_length n y w (g ∷ gs) ls =
    go (split n y (with_w w ls')) (lost n y w ls' gs) (lost_length n y w gs ls')
    (some (bit_and g y)) (leb 2 (met y gs)) refl
  where
    ls' : List ℕ
    ls' = ls ++ g ∷ []

    go : (x : ℕ) (l : List ℕ) → length l ≡ met y gs - 2 → (p q : Bool) → leb 2 (met y gs) ≡ q
        → length (pick (p && q) (x ∷ l) l) ≡ tally p + met y gs - 2
    go x l ih true true e = omega (arith, leb-true 2 (met y gs) e)
    go x l ih true false e = omega (arith, leb-false 2 (met y gs) e)
    go x l ih false q e = ih ∙ omega arith

module _ {n y w : ℕ} {gs xs ys : List ℕ} (k : Chain n y w gs xs ys) where
  -- where w is missed, both have the same
  pub chain_same : Miss y w → lacks xs ys ≡ 0
  chain_same m = lacks-none xs ys (λ x h. go x h (k.from x h))
    where
      go : (x : ℕ) → mem x xs ≡ true → (mem x ys ≡ true) ⊎ WithFirst n y w gs x → mem x ys ≡ true
      go x h (inl q) = q
      go x h (inr v) =
          subst (λ (i : ℕ). mem i ys ≡ true) (sym same)
          (k.cut' ls bs v.cut (ap some (sym same) ∙ k.kept x h))
        where
          ls : List ℕ
          ls = v.front

          bs : List ℕ
          bs = v.back

          bools : (p q : Bool) → (p || q) ≡ true → (p ≡ true → q ≡ false) → p ≡ not q
          bools true q e f = sym (ap not (f refl))
          bools false true e f = refl
          bools false false e f = absurd (false≢true e)

          -- without w, a member is in the groups alone
          only : (cs : List ℕ) (i : ℕ) → has y i ≡ true → has (with_w w cs) i ≡ in_some cs i
          only cs i yi = has_with w cs i ∙ ap (λ (b : Bool). b || in_some cs i) (m i yi)

          in_one : (i : ℕ) → has y i ≡ true → (in_some ls i || in_some bs i) ≡ true
          in_one i yi =
              sym (in_some-append i ls bs)
              ∙ ap (λ (l : List ℕ). in_some l i) (sym v.cut)
              ∙ k.rest i yi
              ∙ ap not (m i yi)

          at : (i : ℕ) → has y i ≡ true → has (with_w w ls) i ≡ not (has (with_w w bs) i)
          at i yi =
              only ls i yi
              ∙ bools (in_some ls i) (in_some bs i) (in_one i yi) (k.sep ls bs v.cut i yi)
              ∙ sym (ap not (only bs i yi))

          same : x ≡ split n y (with_w w bs)
          same = v.is ∙ split_eq n y (with_w w ls) (with_w w bs) k.bound true at

  -- x is the split of w with the groups `front`, behind which two are met; the
  -- taxon j of y is in them and not in ls
  pub record Lost (x : ℕ) (ls : List ℕ) : Type 0 where
    pub front : List ℕ
    pub back : List ℕ
    pub cut : gs ≡ front ++ back
    pub is : x ≡ split n y (with_w w front)
    pub two : 2 ≤ met y back
    pub j : ℕ
    pub yj : has y j ≡ true
    pub j_out : in_some ls j ≡ false
    pub j_in : in_some front j ≡ true

  -- what is on the list is such a split
  pub lost_in : (rest ls : List ℕ) → gs ≡ ls ++ rest
      → (x : ℕ) → mem x (lost n y w ls rest) ≡ true → Lost x ls
  unfolding lost mem in_some
  lost_in [] ls e x h = absurd (false≢true h)
  lost_in (g ∷ rest) ls e x h =
      go (λ h'. lost_in rest ls' (e ∙ snoc ls rest g) x h') (some (bit_and g y))
      (leb 2 (met y rest)) refl refl h
    where
      ls' : List ℕ
      ls' = ls ++ g ∷ []

      x' : ℕ
      x' = split n y (with_w w ls')

      after : List ℕ
      after = lost n y w ls' rest

      shrink : (j : ℕ) → in_some ls' j ≡ false → in_some ls j ≡ false
      shrink j q =
          (or_neither (in_some ls j) (in_some (g ∷ []) j) (sym (in_some-append j ls (g ∷ [])) ∙ q)).0

      up : Lost x ls' → Lost x ls
      up v = record {
        front = v.front;
        back = v.back;
        cut = v.cut;
        is = v.is;
        two = v.two;
        j = v.j;
        yj = v.yj;
        j_out = shrink v.j v.j_out;
        j_in = v.j_in;
      }

      here : some (bit_and g y) ≡ true → 2 ≤ met y rest → x ≡ x' → Lost x ls
      here p l q =
          let m = some-met n y g k.bound p in
          let in_rest : in_some (g ∷ rest) m.taxon ≡ true
          = ap (λ (b : Bool). b || in_some rest m.taxon) m.in_s in
          record {
            front = ls';
            back = rest;
            cut = e ∙ snoc ls rest g;
            is = q;
            two = l;
            j = m.taxon;
            yj = m.in_Y;
            j_out = sep' k ls (g ∷ rest) e m.taxon m.in_Y in_rest;
            j_in = in_some_mid m.taxon g ls [] m.in_s;
          }

      at : (mem x after ≡ true → Lost x ls') → some (bit_and g y) ≡ true → 2 ≤ met y rest
          → (eqb x x' ≡ true) ⊎ (mem x after ≡ true) → Lost x ls
      at ih p l (inl q) = here p l (eqb-true x x' q)
      at ih p l (inr q) = up (ih q)

      go : (mem x after ≡ true → Lost x ls')
          → (p q : Bool) → some (bit_and g y) ≡ p → leb 2 (met y rest) ≡ q
          → mem x (pick (p && q) (x' ∷ after) after) ≡ true → Lost x ls
      go ih true true hp hq h =
          at ih hp (leb-true 2 (met y rest) hq) (or_cases (eqb x x') (mem x after) h)
      go ih true false hp hq h = up (ih h)
      go ih false q hp hq h = up (ih h)

  -- with a member of w at hand
  module _ (mw : Met y w) where
    -- it is in w with any groups
    w_in : (cs : List ℕ) → has (with_w w cs) mw.taxon ≡ true
    w_in cs = with_in w cs mw.taxon mw.in_s

    -- so a set without the member i of y has a split that is kept
    kept_without : (cs : List ℕ) (i : ℕ) → has y i ≡ true → has (with_w w cs) i ≡ false
        → some (split n y (with_w w cs)) ≡ true
    kept_without cs i yi out = kept_by n y (with_w w cs) mw.taxon i mw.in_Y yi (w_in cs) out

    -- no split is on the list twice: two of them part w and a taxon j
    -- otherwise
    pub lost_distinct : (rest ls : List ℕ) → gs ≡ ls ++ rest → Distinct (lost n y w ls rest)
    unfolding lost
    lost_distinct [] ls e = tt
    lost_distinct (g ∷ rest) ls e =
        go (lost_distinct rest ls' e') (some (bit_and g y) && leb 2 (met y rest))
      where
        ls' : List ℕ
        ls' = ls ++ g ∷ []

        e' : gs ≡ ls' ++ rest
        e' = e ∙ snoc ls rest g

        x : ℕ
        x = split n y (with_w w ls')

        fresh : (b : Bool) → mem x (lost n y w ls' rest) ≡ b → b ≡ false
        fresh false h = refl
        fresh true h =
            let v = lost_in rest ls' e' x h in
            let all : in_some gs v.j ≡ true
            = in_some_left gs v.front v.back v.cut v.j v.j_in in
            let parted = ap₂ ◌⊕◌ (w_in ls') (with_out k ls' v.j v.yj all v.j_out) in
            let together = ap₂ ◌⊕◌ (w_in v.front) (with_any w v.front v.j v.j_in) in
            let pairs = split-pairs n y (with_w w ls') (with_w w v.front) v.is
            mw.taxon v.j mw.in_Y v.yj in
            absurd (true≢false (sym parted ∙ pairs ∙ together))

        go : Distinct (lost n y w ls' rest) → (p : Bool)
            → Distinct (pick p (x ∷ lost n y w ls' rest) (lost n y w ls' rest))
        go ih true = (fresh (mem x (lost n y w ls' rest)) refl, ih)
        go ih false = ih

    -- such a split is in xs, and crosses one of ys
    pub lost_is : {x : ℕ} → Lost x [] → (mem x xs ≡ true) × (mem x ys ≡ false)
    unfolding in_some
    lost_is {x} v = (in_xs, go (either (mem x ys)))
      where
        cs : List ℕ
        cs = v.front

        ds : List ℕ
        ds = v.back

        j : ℕ
        j = v.j

        -- the first group behind cs that is met, g, and those behind it
        f : FirstMet y ds
        f = first-met n y ds k.bound (omega (arith, v.two))

        bs : List ℕ
        bs = f.behind

        g : ℕ
        g = f.group

        -- the member i of g, and l of those behind it
        i : ℕ
        i = f.hit.taxon

        yi : has y i ≡ true
        yi = f.hit.in_Y

        m : MetIn y bs
        m = one_met n y bs k.bound (omega (arith, v.two, f.count))

        l : ℕ
        l = m.taxon

        -- gs in two: up to g, and behind it
        front : List ℕ
        front = (cs ++ f.before) ++ (g ∷ [])

        e₂ : gs ≡ front ++ bs
        e₂ =
            v.cut
            ∙ ap (λ (q : List ℕ). cs ++ q) f.is
            ∙ sym (append_assoc cs f.before (g ∷ bs))
            ∙ snoc (cs ++ f.before) bs g

        i_ds : in_some ds i ≡ true
        i_ds =
            ap (λ (l : List ℕ). in_some l i) f.is ∙ in_some_mid i g f.before bs f.hit.in_s

        i_front : in_some front i ≡ true
        i_front = in_some_mid i g (cs ++ f.before) [] f.hit.in_s

        l_ds : in_some ds l ≡ true
        l_ds =
            in_some-right ds f.before (g ∷ bs) f.is l
            (ap (λ (b : Bool). has g l || b) m.in_gs ∙ or-true (has g l))

        j_front : in_some front j ≡ true
        j_front =
            in_some_left front (cs ++ f.before) (g ∷ []) refl j
            (in_some_left (cs ++ f.before) cs f.before refl j v.j_in)

        s : ℕ
        s = with_w w cs

        s' : ℕ
        s' = with_w w bs

        s_i : has s i ≡ false
        s_i =
            with_out k cs i yi (in_some-right gs cs ds v.cut i i_ds)
            (sep' k cs ds v.cut i yi i_ds)

        s_l : has s l ≡ false
        s_l =
            with_out k cs l m.in_y (in_some-right gs cs ds v.cut l l_ds)
            (sep' k cs ds v.cut l m.in_y l_ds)

        s'_i : has s' i ≡ false
        s'_i =
            with_out k bs i yi (in_some_left gs front bs e₂ i i_front)
            (k.sep front bs e₂ i yi i_front)

        s'_j : has s' j ≡ false
        s'_j =
            with_out k bs j v.yj (in_some_left gs front bs e₂ j j_front)
            (k.sep front bs e₂ j v.yj j_front)

        in_xs : mem x xs ≡ true
        in_xs = ap (λ (z : ℕ). mem z xs) v.is ∙ k.cut cs ds v.cut (kept_without cs i yi s_i)

        in_ys : mem (split n y s') ys ≡ true
        in_ys = k.cut' front bs e₂ (kept_without bs i yi s'_i)

        corners : Corners y s s'
        corners true true =
            record { taxon = mw.taxon; in_y = mw.in_Y; s_is = w_in cs; s'_is = w_in bs }
        corners true false =
            record { taxon = j; in_y = v.yj; s_is = with_any w cs j v.j_in; s'_is = s'_j }
        corners false true =
            record { taxon = l; in_y = m.in_y; s_is = s_l; s'_is = with_any w bs l m.in_gs }
        corners false false = record { taxon = i; in_y = yi; s_is = s_i; s'_is = s'_i }

        go : Either (mem x ys) → mem x ys ≡ false
        go (inl q) =
            absurd (k.cross' s s' (ap (λ (z : ℕ). mem z ys) (sym v.is) ∙ q) in_ys corners)
        go (inr q) = q
