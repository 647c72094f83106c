-- A way step by step: what is written, and what is left of it as `walk` says.
-- Assumes nothing.
use mathlib.Core.Path.{◌≡◌, sym, ap, ap₂, ◌∙◌}
use mathlib.Core.Logic.{◌⊎◌, inl, inr}
use mathlib.Core.Bool.{Bool, true, true≢false}
use mathlib.Core.List.{List, [], ◌∷◌, ◌++◌}
use Prim.Native.Nat.{ℕ, suc, ◌+◌, ◌-◌, ◌^◌, ◌≤◌, ◌<◌}
use native.Mathlib.Omega.{arith}
use lib.ListN.{length, length-append}
use borrow.Author.Tests.{eq-eqb, ne_eqb, lt-ltb, le-ltb}
use Rattle.taxa.specs.Sets.{has, pick, size}
use Rattle.taxa.proofs.Sizes.{size_le}
use Rattle.tree.specs.Tree.{lo, rows, nodes, touches, far, part}
use Rattle.tree.proofs.RowCounts.{Pair}
use Rattle.tree.proofs.Ends.{end_node, far_end}
use Rattle.node_rows.specs.Between.{Near, OtherTwo}
use Rattle.sides.specs.Between.{At}
use Rattle.sides.proofs.FillLaws.{at_end, two}
use Rattle.moves.specs.Groups.{beyond, leads, onward, aside, walk, groups, stayed}
use Rattle.moves.proofs.Ways.GroupLists.{snoc}
use Rattle.moves.proofs.Ways.Leads.{Turn, turn, taxa_pos, taxa-less, not_taxon, leads-beyond}
use Rattle.moves.proofs.Ways.Found.{on-is, off_is, walk-last, walk-next}
use Rattle.moves.proofs.Tbr.Aims.{Aim, Taxon, Inner, kind, inner-groups}
use Rattle.moves.specs.Between.{Aims}
use Rattle.move_groups.specs.Between.{Paced}
use Rattle.move_groups.proofs.RowLaws.{far_at}

-- ---- the way from row a's end v, come to w by row e: the groups gs are listed,
-- for each of them a taxon is left behind, and b lies ahead
pub record Walked (n : ℕ) (t : List ℕ) (b v a w e : ℕ) (gs : List ℕ) : Type 0 where
  pub here : At n t e w
  pub b_lt : b < rows n
  pub be : b ≡ e → ⊥
  pub ahead : has (part n t e w) (lo t b) ≡ true
  pub fuel : length gs + size n (part n t e w) ≤ n
  pub rest : gs ++ walk n t b (nodes n - length gs) w e ≡ walk n t b (nodes n) v a

-- ---- an end of a row is a node
pub at-node : {n : ℕ} {t : List ℕ} {e v : ℕ} → At n t e v → v < nodes n
at-node a = end_node (at_end a)

-- ---- the two other rows at an inner end, as the code takes them
module _ {n : ℕ} {t near : List ℕ} {e v f g : ℕ} (a : At n t e v) (N : Near n t near)
    (inner : n ≤ v) (o : OtherTwo e near v f g) where
  pub pair : Pair n t e v f g
  pair = two (at_end a) N inner o

  pub first-at : At n t f v
  first-at = record { good = a.good; row = pair.f_lt; touch = pair.f_p }

  pub second_at : At n t g v
  second_at = record { good = a.good; row = pair.g_lt; touch = pair.g_p }

  -- one step
  pub paced : {b : ℕ} (l : Bool) → leads n t b v f ≡ l → {off : ℕ} → off ≡ beyond n t v (pick l g f)
      → Paced n t b v e (pick l f g) off
  paced {b} l h d = record {
    leads-on = sym (on-is n t b e v f g pair.list l h);
    hangs_off = d ∙ ap (beyond n t v) (sym (off_is n t b e v f g pair.list l h));
  }

-- ---- an end that goes
module _ {n : ℕ} {t : List ℕ} {a v b : ℕ} (at : At n t a v) (aim : Aims n t a v b) where
  A : Aim n t a v b
  A =
      record {
        valid = at.good.valid;
        a_lt = at.row;
        b_lt = aim.row;
        a_v = at.touch;
        fits = aim.fits;
      }

  -- An end that goes is no taxon: its target would be row a, which touches
  -- it.
  inner : Inner n t a v b
  inner = go (kind A)
    where
      go : Taxon n a v b ⊎ Inner n t a v b → Inner n t a v b
      go (inl w) =
          absurd (true≢false (sym at.touch ∙ ap (λ (r : ℕ). touches t r v) (sym w.same)
          ∙ aim.apart))
      go (inr w) = w

  pub walked_start : Walked n t b v a v a []
  walked_start =
      record {
        here = at;
        b_lt = aim.row;
        be = inner.ba;
        ahead = inner.there;
        fuel = omega (arith, size_le n (part n t a v));
        rest = let z : nodes n - 0 ≡ nodes n = omega arith in
            ap (λ (i : ℕ). walk n t b i v a) z;
      }

  pub way_all : groups n t a v b ≡ walk n t b (nodes n) v a
  way_all = inner-groups A inner.inner

-- ---- an end that stays: it is a taxon, or has two rows
pub stays_one : {n : ℕ} {t : List ℕ} {a v x : ℕ} → At n t a v → v < n → x ≡ 2 ^ v
    → x ∷ [] ≡ stayed n t a v
unfolding stayed
stays_one {n} {v = v} at tax h = rw (lt-ltb v n tax, sym h)

pub stays_two : {n : ℕ} {t near : List ℕ} {a v f g x y : ℕ} → At n t a v → Near n t near → n ≤ v
    → OtherTwo a near v f g → x ≡ beyond n t v f → y ≡ beyond n t v g
    → x ∷ y ∷ [] ≡ stayed n t a v
unfolding stayed
stays_two {n} {v = v} at N low o hx hy = rw (le-ltb v n low, (pair at N low o).list, sym hx, sym hy)

-- ---- one turn of the walk
module _ {n : ℕ} {t : List ℕ} {b v a w e : ℕ} {gs : List ℕ} (W : Walked n t b v a w e gs) where
  pub walked_inner : n ≤ w
  walked_inner = not_taxon (at_end W.here) W.b_lt W.be W.ahead

  walked_turn : Turn n t b e w (onward n t b w e) (aside n t b w e)
  walked_turn = turn (at_end W.here) walked_inner W.b_lt W.be W.ahead

  -- two taxa at least lie ahead, one beyond each of the two rows
  pub walked_few : length gs + 2 ≤ n
  walked_few = omega (
    arith,
    W.fuel,
    taxa-less walked_turn,
    taxa_pos (far_end walked_turn.on_branch.at),
  )

  left : nodes n - length gs ≡ suc (nodes n - (length gs + 1))
  left = omega (arith, walked_few)

  module _ {on off : ℕ} (P : Paced n t b w e on off) where
    h : on ≡ onward n t b w e
    h = P.leads-on

    k : off ≡ beyond n t w (aside n t b w e)
    k = P.hangs_off

    T : Turn n t b e w on (aside n t b w e)
    T = rw h walked_turn

    pub on_at : At n t on w
    on_at =
        let B = T.on_branch.at in
        record { good = W.here.good; row = B.row; touch = B.touch }

    pub last_at : on ≡ b → At n t b w
    last_at d = rw (← d) on_at

    -- one group more is listed
    more : length (gs ++ off ∷ []) ≡ length gs + 1
    more = length-append gs (off ∷ [])

    -- with what is left of the way
    all : (r : List ℕ) → off ∷ r ≡ walk n t b (suc (nodes n - (length gs + 1))) w e
        → (gs ++ (off ∷ [])) ++ r ≡ walk n t b (nodes n) v a
    all r q = sym (snoc gs r off)
        ∙ ap (λ (l : List ℕ). gs ++ l) (q ∙ ap (λ (j : ℕ). walk n t b j w e) (sym left))
        ∙ W.rest

    pub walked_next : {w' : ℕ} → (on ≡ b → ⊥) → w' ≡ far t on w
        → Walked n t b v a w' on (gs ++ off ∷ [])
    walked_next {w'} d hw = record {
      here = rw hw (far_at on_at);
      b_lt = W.b_lt;
      be = λ x. d (sym x);
      ahead = rw hw (sym (leads-beyond (at_end on_at) W.b_lt (λ x. d (sym x))) ∙ T.on-leads);
      fuel = rw (hw, more) (omega (arith, W.fuel, taxa-less T));
      rest = rw more (all (walk n t b (nodes n - (length gs + 1)) w' on)
          (ap₂ (λ (x : ℕ) (r : List ℕ). x ∷ r) k
          (ap₂ (walk n t b (nodes n - (length gs + 1)))
          (hw ∙ ap (λ (x : ℕ). far t x w) h) h)
          ∙ sym (walk-next n t b (nodes n - (length gs + 1)) w e
          (ne_eqb (onward n t b w e) b (λ x. d (h ∙ x))))));
    }

    pub walked_last : {x : ℕ} → on ≡ b → x ≡ beyond n t w b
        → (gs ++ off ∷ []) ++ x ∷ [] ≡ walk n t b (nodes n) v a
    walked_last {x} d hx =
        all (x ∷ []) (ap₂ (λ (y z : ℕ). y ∷ z ∷ []) k hx
        ∙ sym (walk-last n t b (nodes n - (length gs + 1)) w e
        (eq-eqb (onward n t b w e) b (sym h ∙ d))))

-- what the check is to use
pub ruleset turns = (walked_inner, walked_few, walked_last, way_all)
