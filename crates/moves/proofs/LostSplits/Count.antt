-- How many splits one list lacks of the other along a chain: two fewer than
-- the groups met, where w is met too. No table here.
-- Assumes nothing.
use mathlib.Core.Path.{◌≡◌, refl, sym, ap, ap₂, ◌∙◌, subst}
use mathlib.Core.Logic.{◌⊎◌, inl, inr}
use mathlib.Core.Bool.{Bool, true, false, not, ◌&&◌, ◌||◌, true≢false, or-true, or-false}
use mathlib.Core.List.{List, [], ◌∷◌, ◌++◌, reverse, append_assoc, append-nil}
use Prim.Native.Nat.{ℕ, zero, suc, ◌+◌, ◌*◌, ◌-◌, ◌<◌}
use native.Mathlib.Omega.{arith}
use lib.Dec.{eqb, leb}
use lib.Bits.{bit_and}
use borrow.Author.Tests.{eq-eqb, leb-false}
use Rattle.taxa.specs.Sets.{pick, has, some, tally, in_some}
use Rattle.tree.specs.Lists.{mem, lacks}
use Rattle.tree.specs.Splits.{split}
use Rattle.tree.proofs.Lists.{lacks-list}
use Rattle.tree.proofs.SplitLaws.{split_eq}
use Rattle.moves.specs.Groups.{met}
use Rattle.moves.proofs.Ways.Meeting.{Met, some-met, none_miss}
use Rattle.moves.proofs.Ways.GroupLists.{in_some-append, in_some_one, in_some-right, snoc}
use Rattle.moves.proofs.Ways.GroupLists.{met-append, met_reverse, none-met, FirstMet}
use Rattle.moves.proofs.Ways.GroupLists.{first-met}
use Rattle.moves.proofs.LostSplits.Chain.{with_w, has_with, with_out, sep'}
use Rattle.moves.proofs.LostSplits.Chain.{WithFirst, Chain, flip, split-none}
use Rattle.moves.proofs.LostSplits.Lost.{lost, lost_length, chain_same, lost_in}
use Rattle.moves.proofs.LostSplits.Lost.{lost_distinct, lost_is}

module _ {n y w : ℕ} {gs xs ys : List ℕ} (k : Chain n y w gs xs ys) where
  -- ---- nothing else is lost: a split of w with the first groups is that of w
  -- with fewer of them, or is on the list, or is a single group's
  record Single (x : ℕ) : Type 0 where
    before : List ℕ
    group : ℕ
    behind : List ℕ
    cut : gs ≡ before ++ (group ∷ behind)
    is : x ≡ split n y group

  abbrev Known : ℕ → List ℕ → List ℕ → Type 0
  Known x ls rest = ((x ≡ split n y (with_w w ls)) ⊎ (mem x (lost n y w ls rest) ≡ true)) ⊎ Single x

  known : (cs ls ds : List ℕ) → gs ≡ ls ++ (cs ++ ds)
      → (x : ℕ) → x ≡ split n y (with_w w (ls ++ cs)) → some x ≡ true → Known x ls (cs ++ ds)
  unfolding lost mem in_some met
  known [] ls ds e x q h =
      inl (inl (q ∙ ap (λ (l : List ℕ). split n y (with_w w l)) (append-nil ls)))
  known (c ∷ cs) ls ds e x q h =
      go (known cs ls' ds e' x (q ∙ ap (λ (l : List ℕ). split n y (with_w w l)) (snoc ls cs c)) h)
      (some (bit_and c y)) (leb 2 (met y (cs ++ ds))) refl refl
    where
      ls' : List ℕ
      ls' = ls ++ c ∷ []

      rest : List ℕ
      rest = cs ++ ds

      e' : gs ≡ ls' ++ rest
      e' = e ∙ snoc ls rest c

      x' : ℕ
      x' = split n y (with_w w ls')

      after : List ℕ
      after = lost n y w ls' rest

      in_ls' : (i : ℕ) → in_some ls' i ≡ (in_some ls i || has c i)
      in_ls' i = in_some-append i ls (c ∷ []) ∙ ap (λ (b : Bool). in_some ls i || b) (in_some_one i c)

      -- c is not met
      same : some (bit_and c y) ≡ false → x' ≡ split n y (with_w w ls)
      same p = split_eq n y (with_w w ls') (with_w w ls) k.bound false (λ i yi.
          let out = ap (λ (b : Bool). in_some ls i || b) (none_miss y c p i yi) in
          has_with w ls' i
          ∙ ap (λ (b : Bool). has w i || b) (in_ls' i ∙ out ∙ or-false (in_some ls i))
          ∙ sym (has_with w ls i))

      cover : (i : ℕ) → has y i ≡ true → in_some rest i ≡ false → has (with_w w ls') i ≡ true
      cover i yi p =
          let gs_is = ap (λ (l : List ℕ). in_some l i) (sym e') ∙ k.rest i yi in
          has_with w ls' i
          ∙ both (in_some ls' i) (in_some rest i) (has w i) (sym (in_some-append i ls' rest) ∙ gs_is) p
        where
          both : (a b w : Bool) → (a || b) ≡ not w → b ≡ false → (w || a) ≡ true
          both a b true e p = refl
          both a b false e p = sym (or-false a) ∙ ap (λ (q : Bool). a || q) (sym p) ∙ e

      -- at most one group behind c is met
      few : met y rest < 2 → x ≡ x' → Single x
      few l q = at (met y rest) refl l
        where
          at : (m : ℕ) → met y rest ≡ m → m < 2 → Single x
          at zero z l =
              absurd (split-none n y (with_w w ls') k.bound
              (λ i yi. cover i yi (none-met y rest z i yi)) (ap some (sym q) ∙ h))
          at (suc (suc m)) z l = absurd (omega arith)
          at (suc zero) z l = record {
            before = ls' ++ f.before;
            group = g;
            behind = f.behind;
            cut = e₂;
            is = q ∙ split_eq n y (with_w w ls') g k.bound true lone;
          }
            where
              f : FirstMet y rest
              f = first-met n y rest k.bound (omega arith)

              g : ℕ
              g = f.group

              e₂ : gs ≡ (ls' ++ f.before) ++ (g ∷ f.behind)
              e₂ =
                  e'
                  ∙ ap (λ (q : List ℕ). ls' ++ q) f.is
                  ∙ sym (append_assoc ls' f.before (g ∷ f.behind))

              none_front : met y f.before ≡ 0
              none_front = at' (some (bit_and g y)) refl
                where
                  at' : (b : Bool) → some (bit_and g y) ≡ b → met y f.before ≡ 0
                  at' true p =
                      let sum : met y rest ≡ met y f.before + met y (g ∷ f.behind)
                      = ap (met y) f.is ∙ met-append y f.before (g ∷ f.behind) in
                      let one : tally (some (bit_and g y)) ≡ 1 = ap tally p in
                      omega (arith, f.count)
                  at' false p =
                      absurd (true≢false
                      (sym f.hit.in_s ∙ none_miss y g p f.hit.taxon f.hit.in_Y))

              any_rest : (i : ℕ) → has y i ≡ true → in_some rest i ≡ has g i
              any_rest i yi =
                  ap (λ (l : List ℕ). in_some l i) f.is
                  ∙ in_some-append i f.before (g ∷ f.behind)
                  ∙ ap₂ (λ (a b : Bool). a || (has g i || b))
                  (none-met y f.before none_front i yi)
                  (none-met y f.behind (omega (arith, f.count)) i yi)
                  ∙ or-false (has g i)

              lone : (i : ℕ) → has y i ≡ true → has (with_w w ls') i ≡ not (has g i)
              lone i yi = by (has g i) refl
                where
                  by : (b : Bool) → has g i ≡ b → has (with_w w ls') i ≡ not b
                  by false p = cover i yi (any_rest i yi ∙ p)
                  by true p =
                      let r = any_rest i yi ∙ p in
                      with_out k ls' i yi (in_some-right gs ls' rest e' i r)
                      (sep' k ls' rest e' i yi r)

      go : Known x ls' rest → (p q : Bool) → some (bit_and c y) ≡ p → leb 2 (met y rest) ≡ q
          → ((x ≡ split n y (with_w w ls)) ⊎ (mem x (pick (p && q) (x' ∷ after) after) ≡ true))
          ⊎ Single x
      go (inr v) p q hp hq = inr v
      go (inl (inr m)) true true hp hq =
          inl (inr (ap (λ (b : Bool). eqb x x' || b) m ∙ or-true (eqb x x')))
      go (inl (inr m)) true false hp hq = inl (inr m)
      go (inl (inr m)) false q hp hq = inl (inr m)
      go (inl (inl z)) true true hp hq =
          inl (inr (ap (λ (b : Bool). b || mem x after) (eq-eqb x x' z)))
      go (inl (inl z)) true false hp hq = inr (few (leb-false 2 (met y rest) hq) z)
      go (inl (inl z)) false q hp hq = inl (inl (z ∙ same hp))

  module _ (mw : Met y w) where
    -- so what ys lacks is on the list
    pub only_lost : (x : ℕ) → mem x xs ≡ true → mem x ys ≡ false → mem x (lost n y w [] gs) ≡ true
    only_lost x h l = go (k.from x h)
      where
        not_ys : (s : ℕ)
            → x ≡ split n y s
            → (some (split n y s) ≡ true → mem (split n y s) ys ≡ true)
            → ⊥
        not_ys s q f =
            true≢false (sym (ap (λ (z : ℕ). mem z ys) q ∙ f (ap some (sym q) ∙ k.kept x h)) ∙ l)

        at : (cs ds : List ℕ)
            → gs ≡ cs ++ ds
            → Known x [] (cs ++ ds)
            → mem x (lost n y w [] gs) ≡ true
        at cs ds e (inl (inl q)) =
            absurd (not_ys (with_w w []) q (k.cut' gs [] (sym (append-nil gs))))
        at cs ds e (inl (inr q)) = subst (λ (z : List ℕ). mem x (lost n y w [] z) ≡ true) (sym e) q
        at cs ds e (inr v) =
            absurd (not_ys v.group v.is
            (k.group' v.before v.behind v.group v.cut))

        go : (mem x ys ≡ true) ⊎ WithFirst n y w gs x → mem x (lost n y w [] gs) ≡ true
        go (inl q) = absurd (true≢false (sym q ∙ l))
        go (inr v) =
            at v.front v.back v.cut
            (known v.front [] v.back v.cut x v.is (k.kept x h))

    pub chain_lost : lacks xs ys ≡ met y gs - 2
    chain_lost =
        lacks-list xs ys (lost n y w [] gs) k.asc (lost_distinct k mw gs [] refl) only_lost
        (λ x m. lost_is k mw (lost_in k gs [] refl x m))
        ∙ lost_length n y w gs []

-- what xs lacks of ys
pub chain_lacks : {n y w : ℕ} {gs xs ys : List ℕ} → Chain n y w gs xs ys
    → lacks xs ys ≡ pick (some (bit_and w y)) (met y gs - 2) 0
chain_lacks {n} {y} {w} {gs} {xs} {ys} k = go (some (bit_and w y)) refl
  where
    go : (b : Bool) → some (bit_and w y) ≡ b → lacks xs ys ≡ pick b (met y gs - 2) 0
    go true e = chain_lost k (some-met n y w k.bound e)
    go false e = chain_same k (none_miss y w e)

-- and both ways
pub chain_dist : {n y w : ℕ} {gs xs ys : List ℕ} → Chain n y w gs xs ys
    → lacks xs ys + lacks ys xs ≡ pick (some (bit_and w y)) (2 * (met y gs - 2)) 0
chain_dist {n} {y} {w} {gs} {xs} {ys} k =
    go (some (bit_and w y)) (chain_lacks k) (chain_lacks (flip k))
  where
    go : (b : Bool)
        → lacks xs ys ≡ pick b (met y gs - 2) 0
        → lacks ys xs ≡ pick b (met y (reverse gs) - 2) 0
        → lacks xs ys + lacks ys xs ≡ pick b (2 * (met y gs - 2)) 0
    go true p q = omega (arith, met_reverse y gs)
    go false p q = omega arith
