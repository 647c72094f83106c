-- Lists of groups: who is in one of them, their union, and how many of them a
-- set meets. Assumes nothing.
use mathlib.Core.Path.{◌≡◌, refl, sym, ap, ap₂, ◌∙◌}
use mathlib.Core.Bool.{Bool, true, false, ◌||◌, or-true, or-false, or_assoc, or_comm}
use mathlib.Core.List.{List, [], ◌∷◌, ◌++◌, reverse, append_assoc, reverse-cons}
use Prim.Native.Nat.{ℕ, suc, ◌+◌, ◌^◌, ◌≤◌, ◌<◌}
use native.Mathlib.Nat.{le_refl}
use native.Mathlib.Omega.{arith}
use lib.Bits.{bit_and}
use lib.ListN.{length}
use Rattle.taxa.specs.Sets.{has, some, tally, in_some, union}
use Rattle.taxa.proofs.Sets.{ext}
use Rattle.taxa.proofs.Unions.{has-union}
use Rattle.taxa.proofs.Sizes.{tally_one}
use Rattle.moves.specs.Groups.{met}
use Rattle.moves.proofs.Ways.Meeting.{Met, some-met, none_miss}

pub in_some-append : (i : ℕ) (ls bs : List ℕ) → in_some (ls ++ bs) i ≡ (in_some ls i || in_some bs i)
unfolding in_some
in_some-append i [] bs = refl
in_some-append i (a ∷ ls) bs =
    ap (λ (x : Bool). has a i || x) (in_some-append i ls bs)
    ∙ sym (or_assoc (has a i) (in_some ls i) (in_some bs i))

pub in_some_one : (i g : ℕ) → in_some (g ∷ []) i ≡ has g i
unfolding in_some
in_some_one i g = or-false (has g i)

pub in_some_reverse : (i : ℕ) (gs : List ℕ) → in_some (reverse gs) i ≡ in_some gs i
unfolding in_some
in_some_reverse i [] = refl
in_some_reverse i (g ∷ gs) =
    ap (λ (l : List ℕ). in_some l i) (reverse-cons g gs)
    ∙ in_some-append i (reverse gs) (g ∷ [])
    ∙ ap₂ ◌||◌ (in_some_reverse i gs) (or-false (has g i))
    ∙ or_comm (in_some gs i) (has g i)

pub met-append : (y : ℕ) (ls bs : List ℕ) → met y (ls ++ bs) ≡ met y ls + met y bs
unfolding met
met-append y [] bs = omega arith
met-append y (a ∷ ls) bs = omega (arith, met-append y ls bs)

pub met_reverse : (y : ℕ) (gs : List ℕ) → met y (reverse gs) ≡ met y gs
unfolding met
met_reverse y [] = refl
met_reverse y (g ∷ gs) =
    ap (met y) (reverse-cons g gs)
    ∙ met-append y (reverse gs) (g ∷ [])
    ∙ omega (arith, met_reverse y gs)

pub union_reverse : (gs : List ℕ) → union (reverse gs) ≡ union gs
union_reverse gs =
    ext (union (reverse gs)) (union gs)
    (λ i. has-union (reverse gs) i ∙ in_some_reverse i gs ∙ sym (has-union gs i))

-- a list in two: whoever is in one of the two is in the whole
pub in_some_left : (gs ls bs : List ℕ)
    → gs ≡ ls ++ bs
    → (i : ℕ) → in_some ls i ≡ true
    → in_some gs i ≡ true
in_some_left gs ls bs e i p =
    ap (λ (l : List ℕ). in_some l i) e
    ∙ in_some-append i ls bs
    ∙ ap (λ (x : Bool). x || in_some bs i) p

pub in_some-right : (gs ls bs : List ℕ)
    → gs ≡ ls ++ bs
    → (i : ℕ) → in_some bs i ≡ true
    → in_some gs i ≡ true
in_some-right gs ls bs e i p =
    ap (λ (l : List ℕ). in_some l i) e
    ∙ in_some-append i ls bs
    ∙ ap (λ (x : Bool). in_some ls i || x) p
    ∙ or-true (in_some ls i)

pub in_some_mid : (i g : ℕ) (es ds : List ℕ) → has g i ≡ true → in_some (es ++ (g ∷ ds)) i ≡ true
unfolding in_some
in_some_mid i g es ds h =
    in_some-append i es (g ∷ ds)
    ∙ ap (λ (x : Bool). in_some es i || (x || in_some ds i)) h
    ∙ or-true (in_some es i)

-- one group more at the end
pub snoc : (ls gs : List ℕ) (g : ℕ) → ls ++ (g ∷ gs) ≡ (ls ++ g ∷ []) ++ gs
snoc ls gs g = sym (append_assoc ls (g ∷ []) gs)

-- ---- groups that y meets
-- the first of them, with what comes before and behind
pub record FirstMet (y : ℕ) (gs : List ℕ) : Type 0 where
  pub before : List ℕ
  pub group : ℕ
  pub behind : List ℕ
  pub is : gs ≡ before ++ (group ∷ behind)
  pub hit : Met y group
  pub count : met y gs ≡ suc (met y behind)

pub first-met : (n y : ℕ) (gs : List ℕ) → y < 2 ^ n → 1 ≤ met y gs → FirstMet y gs
unfolding met
first-met n y [] b h = absurd (omega arith)
first-met n y (g ∷ gs) b h = go (first-met n y gs b) (some (bit_and g y)) refl
  where
    go : (1 ≤ met y gs → FirstMet y gs) → (p : Bool) → some (bit_and g y) ≡ p → FirstMet y (g ∷ gs)
    go ih true e =
        let one : tally (some (bit_and g y)) ≡ 1 = ap tally e in
        record {
          before = [];
          group = g;
          behind = gs;
          is = refl;
          hit = some-met n y g b e;
          count = omega arith;
        }
    go ih false e =
        let none : tally (some (bit_and g y)) ≡ 0 = ap tally e in
        let v = ih (omega arith) in
        record {
          before = g ∷ v.before;
          group = v.group;
          behind = v.behind;
          is = ap (λ (l : List ℕ). g ∷ l) v.is;
          hit = v.hit;
          count = omega (arith, v.count);
        }

-- a member of y in one of the groups
pub record MetIn (y : ℕ) (gs : List ℕ) : Type 0 where
  pub taxon : ℕ
  pub in_y : has y taxon ≡ true
  pub in_gs : in_some gs taxon ≡ true

pub one_met : (n y : ℕ) (gs : List ℕ) → y < 2 ^ n → 1 ≤ met y gs → MetIn y gs
one_met n y gs b h =
    let v = first-met n y gs b h in
    let i = v.hit.taxon in
    record {
      taxon = i;
      in_y = v.hit.in_Y;
      in_gs =
          ap (λ (l : List ℕ). in_some l i) v.is
          ∙ in_some_mid i v.group v.before v.behind v.hit.in_s;
    }

-- where none is met, no member of y is in a group
pub none-met : (y : ℕ) (gs : List ℕ) → met y gs ≡ 0 → (i : ℕ) → has y i ≡ true → in_some gs i ≡ false
unfolding met in_some
none-met y [] h i yi = refl
none-met y (g ∷ gs) h i yi = go (λ l. none-met y gs l i yi) (some (bit_and g y)) refl h
  where
    go : (met y gs ≡ 0 → in_some gs i ≡ false)
        → (p : Bool) → some (bit_and g y) ≡ p
        → tally p + met y gs ≡ 0
        → (has g i || in_some gs i) ≡ false
    go ih true e l = absurd (omega arith)
    go ih false e l = ap₂ ◌||◌ (none_miss y g e i yi) (ih (omega arith))

pub met_le : (y : ℕ) (gs : List ℕ) → met y gs ≤ length gs
unfolding met
met_le y [] = le_refl 0
met_le y (g ∷ gs) = omega (arith, met_le y gs, tally_one (some (bit_and g y)))
