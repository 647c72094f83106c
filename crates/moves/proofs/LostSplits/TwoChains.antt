-- Two chains after one another, each with the other's groups for its w: what
-- they lose adds up. No table here. Assumes nothing.
use mathlib.Core.Path.{◌≡◌, refl, sym, ap₂, ◌∙◌}
use mathlib.Core.Logic.{◌⊎◌, inl, inr}
use mathlib.Core.Bool.{Bool, true, false, not, true≢false}
use mathlib.Core.List.{List, []}
use Prim.Native.Nat.{ℕ, ◌+◌, ◌*◌, ◌-◌}
use native.Mathlib.Omega.{arith}
use lib.Bits.{bit_and}
use Rattle.taxa.specs.Sets.{pick, has, some, in_some}
use Rattle.taxa.proofs.Bools.{◌⊕◌, not_swap}
use Rattle.tree.specs.Lists.{mem, lacks}
use Rattle.tree.specs.Splits.{split}
use Rattle.tree.proofs.Lists.{none-lacks, lacks-add}
use Rattle.tree.proofs.SplitLaws.{split-pairs}
use Rattle.moves.specs.Groups.{met}
use Rattle.moves.proofs.Ways.Meeting.{some-met, none_miss}
use Rattle.moves.proofs.Ways.GroupLists.{in_some_left, in_some-right, one_met}
use Rattle.moves.proofs.LostSplits.Chain.{with_w, with_in, with_any, with_out}
use Rattle.moves.proofs.LostSplits.Chain.{sep', WithLast, Chain, flip}
use Rattle.moves.proofs.LostSplits.Lost.{chain_same, lost_in}
use Rattle.moves.proofs.LostSplits.Count.{only_lost, chain_dist}

-- a split that is lost parts two members of the groups
pub record Torn (n y : ℕ) (gs : List ℕ) (x : ℕ) : Type 0 where
  pub s : ℕ
  pub i : ℕ
  pub j : ℕ
  pub is : x ≡ split n y s
  pub yi : has y i ≡ true
  pub yj : has y j ≡ true
  pub gi : in_some gs i ≡ true
  pub gj : in_some gs j ≡ true
  pub si : has s i ≡ true
  pub sj : has s j ≡ false

pub chain_torn : {n y w : ℕ} {gs xs ys : List ℕ} → Chain n y w gs xs ys
    → (x : ℕ) → mem x xs ≡ true → mem x ys ≡ false → Torn n y gs x
chain_torn {n} {y} {w} {gs} {xs} {ys} k x h l = go (some (bit_and w y)) refl
  where
    go : (b : Bool) → some (bit_and w y) ≡ b → Torn n y gs x
    go true e =
        let v = lost_in k gs [] refl x (only_lost k (some-met n y w k.bound e) x h l) in
        let ls = v.front in
        let bs = v.back in
        let m = one_met n y bs k.bound (omega (arith, v.two)) in
        let j = m.taxon in
        let gj = in_some-right gs ls bs v.cut j m.in_gs in
        record {
          s = with_w w ls;
          i = v.j;
          j = j;
          is = v.is;
          yi = v.yj;
          yj = m.in_y;
          gi = in_some_left gs ls bs v.cut v.j v.j_in;
          gj = gj;
          si = with_any w ls v.j v.j_in;
          sj = with_out k ls j m.in_y gj (sep' k ls bs v.cut j m.in_y m.in_gs);
        }
    go false e =
        absurd (true≢false (sym (none-lacks xs ys (chain_same k (none_miss y w e)) x h) ∙ l))

-- on y, v is all that is not in w
abbrev pub Opposite : ℕ → ℕ → ℕ → Type 0
Opposite y w v = (i : ℕ) → has y i ≡ true → has v i ≡ not (has w i)

-- what is lost by the first chain does not come back by the second, and what
-- is lost by the second was there before the first
lacks-two : {n y w v : ℕ} {gs hs xs ys zs : List ℕ}
    → Chain n y w gs xs ys
    → Chain n y v hs ys zs
    → Opposite y w v
    → lacks xs zs ≡ lacks xs ys + lacks ys zs
lacks-two {n} {y} {w} {v} {gs} {hs} {xs} {ys} {zs} k l opp =
    lacks-add xs ys zs k.asc l.asc gone there
  where
    -- a split that parts two members of the groups is not one of a set that
    -- has all of them
    clash : {x : ℕ} {fs : List ℕ} (T : Torn n y fs x) (s : ℕ) → x ≡ split n y s
        → ((i : ℕ) → has y i ≡ true → in_some fs i ≡ true → has s i ≡ true) → ⊥
    clash T s e all =
        let si = all T.i T.yi T.gi in
        let sj = all T.j T.yj T.gj in
        let pairs = split-pairs n y T.s s (sym T.is ∙ e) T.i T.j T.yi T.yj in
        true≢false (sym (ap₂ ◌⊕◌ T.si T.sj) ∙ pairs ∙ ap₂ ◌⊕◌ si sj)

    gs_v : (i : ℕ) → has y i ≡ true → in_some gs i ≡ true → has v i ≡ true
    gs_v i yi p = opp i yi ∙ sym (k.rest i yi) ∙ p

    hs_w : (i : ℕ) → has y i ≡ true → in_some hs i ≡ true → has w i ≡ true
    hs_w i yi p = not_swap (has v i) (has w i) (opp i yi) ∙ sym (l.rest i yi) ∙ p

    gone : (x : ℕ) → mem x xs ≡ true → mem x ys ≡ false → mem x zs ≡ true → ⊥
    gone x p q r = go (l.from' x r)
      where
        go : (mem x ys ≡ true) ⊎ WithLast n y v hs x → ⊥
        go (inl m) = true≢false (sym m ∙ q)
        go (inr m) =
            clash (chain_torn k x p q) (with_w v m.back) m.is
            (λ i yi gi. with_in v m.back i (gs_v i yi gi))

    there : (x : ℕ) → mem x ys ≡ true → mem x zs ≡ false → mem x xs ≡ true
    there x p q = go (k.from' x p)
      where
        go : (mem x xs ≡ true) ⊎ WithLast n y w gs x → mem x xs ≡ true
        go (inl m) = m
        go (inr m) =
            absurd (clash (chain_torn l x p q) (with_w w m.back) m.is
            (λ i yi gi. with_in w m.back i (hs_w i yi gi)))

-- so the distances of the two chains add up
pub two-dist : {n y w v : ℕ} {gs hs xs ys zs : List ℕ}
    → Chain n y w gs xs ys
    → Chain n y v hs ys zs
    → Opposite y w v
    → lacks xs zs + lacks zs xs
    ≡ pick (some (bit_and w y)) (2 * (met y gs - 2)) 0
    + pick (some (bit_and v y)) (2 * (met y hs - 2)) 0
two-dist {y = y} {w} {v} k l opp =
    let one = lacks-two k l opp in
    let two = lacks-two (flip l) (flip k) (λ i yi. not_swap (has v i) (has w i) (opp i yi)) in
    let a = chain_dist k in
    let b = chain_dist l in
    omega arith
