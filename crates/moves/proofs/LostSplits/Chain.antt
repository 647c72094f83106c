-- Two lists of splits that differ along one chain of groups, and the same
-- chain from its other end. No table here. Assumes nothing.
use mathlib.Core.Path.{◌≡◌, sym, ap, ap₂, ◌∙◌, subst}
use mathlib.Core.Logic.{◌⊎◌, inl, inr}
use mathlib.Core.Bool.{Bool, true, false, not, ◌&&◌, ◌||◌, true≢false, false≢true, or-true}
use mathlib.Core.List.{List, [], ◌∷◌, ◌++◌, reverse, append_assoc}
use mathlib.Core.List.{reverse-append, reverse-reverse, reverse-cons}
use Prim.Native.Nat.{ℕ, ◌^◌, ◌<◌}
use lib.Bits.{bit_and, bit_or}
use Rattle.taxa.specs.Sets.{has, less, some, in_some, union}
use Rattle.taxa.proofs.Bools.{Either, either, and_left, and_right, not_both, not_swap}
use Rattle.taxa.proofs.Sets.{has_or, has-less, some_zero, none_zero}
use Rattle.taxa.proofs.Unions.{has-union}
use Rattle.tree.specs.Lists.{mem, Asc}
use Rattle.tree.specs.Splits.{split, meets}
use Rattle.tree.proofs.SplitLaws.{some-meets}
use Rattle.moves.proofs.Rows.Splits.{Corners}
use Rattle.moves.proofs.Ways.GroupLists.{in_some_reverse, union_reverse}

-- the set w with some groups
unfoldable pub with_w : ℕ → List ℕ → ℕ
with_w w ls = bit_or w (union ls)

pub has_with : (w : ℕ) (ls : List ℕ) (i : ℕ) → has (with_w w ls) i ≡ (has w i || in_some ls i)
unfolding with_w
has_with w ls i = has_or w (union ls) i ∙ ap (λ (x : Bool). has w i || x) (has-union ls i)

with_reverse : (w : ℕ) (ls : List ℕ) → with_w w (reverse ls) ≡ with_w w ls
unfolding with_w
with_reverse w ls = ap (bit_or w) (union_reverse ls)

pub with_in : (w : ℕ) (ls : List ℕ) (i : ℕ) → has w i ≡ true → has (with_w w ls) i ≡ true
with_in w ls i h = has_with w ls i ∙ ap (λ (x : Bool). x || in_some ls i) h

pub with_any : (w : ℕ) (ls : List ℕ) (i : ℕ) → in_some ls i ≡ true → has (with_w w ls) i ≡ true
with_any w ls i h = has_with w ls i ∙ ap (λ (x : Bool). has w i || x) h ∙ or-true (has w i)

-- x is the split of w with the first of the groups gs
pub record WithFirst (n y w : ℕ) (gs : List ℕ) (x : ℕ) : Type 0 where
  pub front : List ℕ
  pub back : List ℕ
  pub cut : gs ≡ front ++ back
  pub is : x ≡ split n y (with_w w front)

-- x is the split of w with the last of them
pub record WithLast (n y w : ℕ) (gs : List ℕ) (x : ℕ) : Type 0 where
  pub front : List ℕ
  pub back : List ℕ
  pub cut : gs ≡ front ++ back
  pub is : x ≡ split n y (with_w w back)

-- where the split of s is kept, it is on the list
abbrev pub Has : ℕ → ℕ → List ℕ → ℕ → Type 0
Has n y xs s = some (split n y s) ≡ true → mem (split n y s) xs ≡ true

-- two splits on the list do not cross
abbrev pub Crossless : ℕ → ℕ → List ℕ → Type 0
Crossless n y xs =
    (s s' : ℕ) → mem (split n y s) xs ≡ true → mem (split n y s') xs ≡ true → Corners y s s' → ⊥

-- A chain of groups gs, which on y are all that is not in w, each taxon in one
-- of them. Two ascending lists: xs has the splits of w with the first
-- groups, ys those of w with the last, and both have those of the single
-- groups. What else is on one list is on the other. No two splits of one
-- list cross.
pub record Chain (n y w : ℕ) (gs xs ys : List ℕ) : Type 0 where
  pub bound : y < 2 ^ n
  pub rest : (i : ℕ) → has y i ≡ true → in_some gs i ≡ not (has w i)
  pub sep : (ls bs : List ℕ) → gs ≡ ls ++ bs
      → (i : ℕ) → has y i ≡ true → in_some ls i ≡ true → in_some bs i ≡ false
  pub asc : Asc xs
  pub asc' : Asc ys
  pub cut : (ls bs : List ℕ) → gs ≡ ls ++ bs → Has n y xs (with_w w ls)
  pub cut' : (ls bs : List ℕ) → gs ≡ ls ++ bs → Has n y ys (with_w w bs)
  pub group : (ls bs : List ℕ) (g : ℕ) → gs ≡ ls ++ (g ∷ bs) → Has n y xs g
  pub group' : (ls bs : List ℕ) (g : ℕ) → gs ≡ ls ++ (g ∷ bs) → Has n y ys g
  pub from : (x : ℕ) → mem x xs ≡ true → (mem x ys ≡ true) ⊎ WithFirst n y w gs x
  pub from' : (x : ℕ) → mem x ys ≡ true → (mem x xs ≡ true) ⊎ WithLast n y w gs x
  pub kept : (x : ℕ) → mem x xs ≡ true → some x ≡ true
  pub kept' : (x : ℕ) → mem x ys ≡ true → some x ≡ true
  pub cross : Crossless n y xs
  pub cross' : Crossless n y ys

-- ---- the same chain from its other end
turned : (gs ls bs : List ℕ) → reverse gs ≡ ls ++ bs → gs ≡ reverse bs ++ reverse ls
turned gs ls bs e = sym (reverse-reverse gs) ∙ ap reverse e ∙ reverse-append ls bs

turned' : (gs ls bs : List ℕ) → gs ≡ ls ++ bs → reverse gs ≡ reverse bs ++ reverse ls
turned' gs ls bs e = ap reverse e ∙ reverse-append ls bs

turned_at : (gs ls bs : List ℕ) (g : ℕ) → reverse gs ≡ ls ++ (g ∷ bs)
    → gs ≡ reverse bs ++ (g ∷ reverse ls)
turned_at gs ls bs g e =
    turned gs ls (g ∷ bs) e
    ∙ ap (λ (l : List ℕ). l ++ reverse ls) (reverse-cons g bs)
    ∙ append_assoc (reverse bs) (g ∷ []) (reverse ls)

pub flip : {n y w : ℕ} {gs xs ys : List ℕ} → Chain n y w gs xs ys → Chain n y w (reverse gs) ys xs
flip {n} {y} {w} {gs} {xs} {ys} k = record {
  bound = k.bound;
  rest = λ i h. in_some_reverse i gs ∙ k.rest i h;
  sep = λ ls bs e i h p. go ls bs e i h p (either (in_some bs i));
  asc = k.asc';
  asc' = k.asc;
  cut = λ ls bs e.
      subst (Has n y ys) (with_reverse w ls)
      (k.cut' (reverse bs) (reverse ls) (turned gs ls bs e));
  cut' = λ ls bs e.
      subst (Has n y xs) (with_reverse w bs) (k.cut (reverse bs) (reverse ls) (turned gs ls bs e));
  group = λ ls bs g e h. k.group' (reverse bs) (reverse ls) g (turned_at gs ls bs g e) h;
  group' = λ ls bs g e h. k.group (reverse bs) (reverse ls) g (turned_at gs ls bs g e) h;
  from = λ x h. back x (k.from' x h);
  from' = λ x h. back' x (k.from x h);
  kept = k.kept';
  kept' = k.kept;
  cross = k.cross';
  cross' = k.cross;
}
  where
    go : (ls bs : List ℕ) → reverse gs ≡ ls ++ bs
        → (i : ℕ) → has y i ≡ true → in_some ls i ≡ true → Either (in_some bs i) → in_some bs i ≡ false
    go ls bs e i h p (inr q) = q
    go ls bs e i h p (inl q) =
        let out = k.sep (reverse bs) (reverse ls) (turned gs ls bs e) i h
        (in_some_reverse i bs ∙ q) in
        absurd (true≢false (sym (in_some_reverse i ls ∙ p) ∙ out))

    back : (x : ℕ) → (mem x xs ≡ true) ⊎ WithLast n y w gs x
        → (mem x xs ≡ true) ⊎ WithFirst n y w (reverse gs) x
    back x (inl m) = inl m
    back x (inr v) =
        inr (record {
          front = reverse v.back;
          back = reverse v.front;
          cut = turned' gs v.front v.back v.cut;
          is = v.is ∙ ap (split n y) (sym (with_reverse w v.back));
        })

    back' : (x : ℕ) → (mem x ys ≡ true) ⊎ WithFirst n y w gs x
        → (mem x ys ≡ true) ⊎ WithLast n y w (reverse gs) x
    back' x (inl m) = inl m
    back' x (inr v) =
        inr (record {
          front = reverse v.back;
          back = reverse v.front;
          cut = turned' gs v.front v.back v.cut;
          is = v.is ∙ ap (split n y) (sym (with_reverse w v.front));
        })

-- ---- a split that is not kept
-- a set that has all of y has none
pub split-none : (n y s : ℕ) → y < 2 ^ n → ((i : ℕ) → has y i ≡ true → has s i ≡ true)
    → some (split n y s) ≡ true → ⊥
unfolding meets
split-none n y s b all h =
    not_both (some (less y s))
    (and_right (some (bit_and s y)) (some (less y s)) (some-meets n y s b h))
    (ap some (none_zero (less y s) none) ∙ some_zero)
  where
    none : (i : ℕ) → has (less y s) i ≡ true → ⊥
    none i p =
        let q : (has y i && not (has s i)) ≡ true = sym (has-less y s i) ∙ p in
        let si = all i (and_left (has y i) (not (has s i)) q) in
        false≢true (sym (ap not si) ∙ and_right (has y i) (not (has s i)) q)

-- ---- where a member of y is
module _ {n y w : ℕ} {gs xs ys : List ℕ} (k : Chain n y w gs xs ys) where
  -- members of the groups are none of w's
  pub out_w : (i : ℕ) → has y i ≡ true → in_some gs i ≡ true → has w i ≡ false
  out_w i h p = not_swap (in_some gs i) (has w i) (k.rest i h) ∙ ap not p

  -- a member of the last groups is in none of the first
  pub sep' : (ls bs : List ℕ) → gs ≡ ls ++ bs
      → (i : ℕ) → has y i ≡ true → in_some bs i ≡ true → in_some ls i ≡ false
  sep' ls bs e i h p = go (either (in_some ls i))
    where
      go : Either (in_some ls i) → in_some ls i ≡ false
      go (inl q) = absurd (true≢false (sym p ∙ k.sep ls bs e i h q))
      go (inr q) = q

  -- nor in w with the first
  pub with_out : (ls : List ℕ) (i : ℕ) → has y i ≡ true → in_some gs i ≡ true → in_some ls i ≡ false
      → has (with_w w ls) i ≡ false
  with_out ls i h p q = has_with w ls i ∙ ap₂ ◌||◌ (out_w i h p) q
