-- An inner node with two of its rows, e and x, given: its third row, and the
-- groups that hang from the node beyond x and beyond the third row.
-- Assumes nothing.
use mathlib.Core.Path.{◌≡◌, sym, ap, ◌∙◌, subst}
use mathlib.Core.Logic.{inl, inr}
use mathlib.Core.Bool.{true}
use mathlib.Core.List.{List, [], ◌∷◌}
use Prim.Native.Nat.{ℕ, ◌+◌, ◌^◌, ◌≤◌, ◌<◌}
use native.Mathlib.Nat.{add_comm}
use native.Mathlib.Omega.{arith}
use lib.Bits.{bit_and}
use lib.Dec.{eqb}
use borrow.Author.Tests.{eqb-true, eqb-false, le-ltb}
use Rattle.taxa.specs.Sets.{tally, some}
use Rattle.taxa.proofs.Bools.{Either, either}
use Rattle.tree.specs.Tree.{rows, touches, far, others, part, Valid}
use Rattle.tree.proofs.Joins.{Joins, joins_touch, touch-node, far-is, joins_differ}
use Rattle.tree.proofs.RowCounts.{Pair, pair}
use Rattle.tree.proofs.Forks.{Fork, fork_of, fork_swap}
use Rattle.moves.specs.Groups.{beyond, stayed, met}
use Rattle.moves.proofs.Ways.Meeting.{meet_below}

-- 1 where what hangs from node p by row r meets Y, else 0
abbrev pub meets_by : ℕ → List ℕ → ℕ → ℕ → ℕ → ℕ
meets_by n t Y p r = tally (some (bit_and (part n t r (far t r p)) Y))

beyond-met : (n : ℕ) (t : List ℕ) (Y p r : ℕ) → Y < 2 ^ n
    → tally (some (bit_and (beyond n t p r) Y)) ≡ meets_by n t Y p r
unfolding beyond
beyond-met n t Y p r bound =
    ap (λ (s : ℕ). tally (some s)) (meet_below n (part n t r (far t r p)) Y bound)

-- the groups at an inner node beyond its rows other than e
pub met-stayed : (n : ℕ) (t : List ℕ) (Y e p f g : ℕ)
    → Y < 2 ^ n
    → n ≤ p
    → others t e p (rows n) ≡ f ∷ g ∷ []
    → met Y (stayed n t e p) ≡ meets_by n t Y p f + meets_by n t Y p g
unfolding met stayed
met-stayed n t Y e p f g bound inner h =
    rw (le-ltb p n inner, h) (omega (arith, beyond-met n t Y p f bound, beyond-met n t Y p g bound))

-- the third row at p, beside e, which leads to q, and x
pub record Third (n : ℕ) (t : List ℕ) (e p q x : ℕ) : Type 0 where
  pub row : ℕ
  pub fork : Fork n t p e x row q (far t x p) (far t row p)
  pub stays : (Y : ℕ) → Y < 2 ^ n
      → met Y (stayed n t e p) ≡ meets_by n t Y p x + meets_by n t Y p row

pub third-row : {n : ℕ} {t : List ℕ} {e p q x : ℕ} → Valid n t
    → e < rows n
    → x < rows n
    → (x ≡ e → ⊥)
    → n ≤ p
    → Joins t e p q
    → touches t x p ≡ true
    → Third n t e p q x
third-row {n} {t} {e} {p} {q} {x} vt le lx xe inner j tx =
    let w = pair e p vt le te inner (touch-node e vt le p te) in
    go w.0 w.1 w.2 (either (eqb x w.0)) (either (eqb x w.1))
  where
    te : touches t e p ≡ true
    te = joins_touch t e p q j

    q_is : far t e p ≡ q
    q_is = far-is t e p q j (joins_differ e vt le p q j)

    fork : (f g : ℕ) → Pair n t e p f g → Fork n t p e f g q (far t f p) (far t g p)
    fork f g K =
        subst (λ (v : ℕ). Fork n t p e f g v (far t f p) (far t g p)) q_is
        (fork_of vt le te inner K)

    go : (f g : ℕ) → Pair n t e p f g → Either (eqb x f) → Either (eqb x g) → Third n t e p q x
    go f g K (inl u) v =
        subst (λ (x : ℕ). Third n t e p q x) (sym (eqb-true x f u)) (record {
          row = g;
          fork = fork f g K;
          stays = λ Y b. met-stayed n t Y e p f g b inner K.list;
        })
    go f g K (inr u) (inl v) =
        subst (λ (x : ℕ). Third n t e p q x) (sym (eqb-true x g v)) (record {
          row = f;
          fork = fork_swap (fork f g K);
          stays = λ Y b. met-stayed n t Y e p f g b inner K.list
              ∙ add_comm (meets_by n t Y p f) (meets_by n t Y p g);
        })
    go f g K (inr u) (inr v) = absurd (K.only x lx xe (eqb-false x f u) (eqb-false x g v) tx)
