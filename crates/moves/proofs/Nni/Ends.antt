-- The ends of a row e and what hangs from them: the split of row e. Assumes
-- nothing.
use mathlib.Core.Path.{◌≡◌, sym, ap, ◌∙◌}
use mathlib.Core.Bool.{Bool, true, false, ◌||◌, or-false}
use mathlib.Core.List.{List}
use Prim.Native.Nat.{ℕ, ◌^◌, ◌<◌}
use Rattle.taxa.specs.Sets.{has}
use Rattle.taxa.proofs.Sets.{has_below}
use Rattle.tree.specs.Tree.{Valid}
use Rattle.tree.specs.Splits.{split}
use Rattle.tree.proofs.Colourings.{Parts, Hangs}
use Rattle.tree.proofs.SplitLaws.{num, split_eq}
use Rattle.tree.proofs.Forks.{Fork, joined, joined-parts, joined_in, joined_at, A_at_q, B_at_q}
use Rattle.moves.proofs.Rows.Splits.{row_num}
use Rattle.moves.proofs.Ways.Meeting.{Miss}

-- ---- an end of row e: a node with its two other rows, the one that is
-- exchanged and the one that stays, and the nodes that they lead to
pub record End : Type 0 where
  pub node : ℕ
  pub row : ℕ
  pub far : ℕ
  pub third : ℕ
  pub last : ℕ

-- the end P of row e in a table, q being the node of the other
abbrev pub EndAt : ℕ → List ℕ → ℕ → End → ℕ → Type 0
EndAt n t e P q = Fork n t P.node e P.row P.third q P.far P.last

-- the end P with the row that Q has
abbrev pub traded : End → End → End
traded P Q =
    record { node = P.node; row = Q.row; far = Q.far; third = P.third; last = P.last }

-- A hangs from the end P by the row that is exchanged, and B by the one that
-- stays
pub record Hung (n : ℕ) (t : List ℕ) (P : End) (A B : ℕ) : Type 0 where
  pub by_row : Hangs n t P.row P.node A
  pub by_third : Hangs n t P.third P.node B

-- ---- what hangs from the end P gives the split of row e
module _ {n : ℕ} {t : List ℕ} {e q : ℕ} {P : End} (k : EndAt n t e P q)
    {A B : ℕ} (h : Hung n t P A B) where
  open P use {node as p, row as x, far as a, third as f, last as c}

  -- the set of row e with p
  abbrev Z : ℕ
  Z = joined A B p

  pub e_parts : Parts n t e Z
  e_parts = joined-parts k h.by_row h.by_third

  pub e_in : has Z p ≡ true
  e_in = joined_in k h.by_row h.by_third

  -- a group does not cross e
  pub row_out : has A q ≡ false
  row_out = A_at_q k h.by_row h.by_third

  pub third-out : has B q ≡ false
  third-out = B_at_q k h.by_row h.by_third

  module _ (vt : Valid n t) (Y : ℕ) (bound : Y < 2 ^ n) where
    pub num_e : num n t Y e ≡ split n Y Z
    num_e = row_num vt Y bound k.e_lt e_parts

    -- on Y, what lies with p is in one of the two
    on_Y : (i : ℕ) → has Y i ≡ true → has Z i ≡ (has A i || has B i)
    on_Y i hY =
        joined_at k h.by_row h.by_third i (has_below n Y i bound hY)

    -- where one of the two misses Y, row e's split is the other's row's
    pub miss_row : Miss Y A → num n t Y e ≡ num n t Y f
    miss_row m =
        num_e
        ∙ split_eq n Y Z B bound false
        (λ i hY. on_Y i hY ∙ ap (λ (b : Bool). b || has B i) (m i hY))
        ∙ sym (row_num vt Y bound k.f_lt h.by_third.parts)

    pub miss_third : Miss Y B → num n t Y e ≡ num n t Y x
    miss_third m =
        num_e
        ∙ split_eq n Y Z A bound false (λ i hY.
        on_Y i hY ∙ ap (λ (b : Bool). has A i || b) (m i hY) ∙ or-false (has A i))
        ∙ sym (row_num vt Y bound k.x_lt h.by_row.parts)
