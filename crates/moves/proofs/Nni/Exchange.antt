-- An exchange of two rows across a row e: every other row keeps its set and its
-- split, and the four groups hang the same way after it. Assumes nothing.
use mathlib.Core.Path.{◌≡◌, sym, ap, ◌∙◌}
use mathlib.Core.Logic.{inl, inr}
use mathlib.Core.Bool.{Bool, true, false, not}
use mathlib.Core.List.{List}
use Prim.Native.Nat.{ℕ, ◌^◌, ◌<◌}
use lib.Dec.{eqb}
use borrow.Author.Tests.{eqb-true, eqb-false}
use Rattle.taxa.specs.Sets.{has, some}
use Rattle.taxa.proofs.Bools.{Either, either}
use Rattle.tree.specs.Tree.{lo, hi, rows, part, Valid}
use Rattle.tree.specs.Lists.{mem}
use Rattle.tree.specs.Splits.{splits}
use Rattle.tree.proofs.Joins.{join_flat, flat_join, join_apart, apart_join}
use Rattle.tree.proofs.Bridges.{Table}
use Rattle.tree.proofs.Colourings.{Parts, Hangs, row-parts, valid-table}
use Rattle.tree.proofs.SplitLaws.{num, kept_in, KeptRow, kept_out}
use Rattle.moves.proofs.Rows.Splits.{row_num}
use Rattle.moves.proofs.Rows.Ends.{SameRow}
use Rattle.moves.proofs.Nni.Ends.{End, EndAt, traded, Hung, row_out, third-out}

-- ---- the exchange: of row e's ends P and Q, each has its own row before, and
-- the other's after; the third rows stay
pub record Exchange (n : ℕ) (t t' : List ℕ) (e : ℕ) (P Q : End) : Type 0 where
  pub valid : Valid n t
  pub valid' : Valid n t'
  pub at_P : EndAt n t e P Q.node
  pub at_Q : EndAt n t e Q P.node
  pub at_P' : EndAt n t' e (traded P Q) Q.node
  pub at_Q' : EndAt n t' e (traded Q P) P.node
  pub rest : (r : ℕ) → (r ≡ P.row → ⊥) → (r ≡ Q.row → ⊥) → SameRow t t' r
  pub rows_differ : P.row ≡ Q.row → ⊥
  pub row-third : P.row ≡ Q.third → ⊥
  pub third-row : Q.row ≡ P.third → ⊥
  pub thirds_differ : P.third ≡ Q.third → ⊥

-- and back again
pub flip : {n : ℕ} {t t' : List ℕ} {e : ℕ} {P Q : End} → Exchange n t t' e P Q
    → Exchange n t' t e (traded P Q) (traded Q P)
flip k = record {
  valid = k.valid';
  valid' = k.valid;
  at_P = k.at_P';
  at_Q = k.at_Q';
  at_P' = k.at_P;
  at_Q' = k.at_Q;
  rest = λ r u v. (sym (k.rest r v u).0, sym (k.rest r v u).1);
  rows_differ = λ w. k.rows_differ (sym w);
  row-third = λ w. k.at_Q.xf w;
  third-row = λ w. k.at_P.xf w;
  thirds_differ = k.thirds_differ;
}

-- the same exchange, seen from e's other end
pub turn : {n : ℕ} {t t' : List ℕ} {e : ℕ} {P Q : End}
    → Exchange n t t' e P Q
    → Exchange n t t' e Q P
turn k = record {
  valid = k.valid;
  valid' = k.valid';
  at_P = k.at_Q;
  at_Q = k.at_P;
  at_P' = k.at_Q';
  at_Q' = k.at_P';
  rest = λ r u v. k.rest r v u;
  rows_differ = λ w. k.rows_differ (sym w);
  row-third = k.third-row;
  third-row = k.row-third;
  thirds_differ = λ w. k.thirds_differ (sym w);
}

-- the four groups: A and B hang from P, C and D from Q
pub record Four (n : ℕ) (t : List ℕ) (P Q : End) (A B C D : ℕ) : Type 0 where
  pub on_P : Hung n t P A B
  pub on_Q : Hung n t Q C D

module _ {n : ℕ} {t t' : List ℕ} {e : ℕ} {P Q : End} (k : Exchange n t t' e P Q) where
  open P use {node as p, row as x, far as a, third as f, last as c}
  open Q use {node as q, row as y, far as b, third as g, last as d}

  pub tab : Table n t
  tab = valid-table k.valid

  pub tab' : Table n t'
  tab' = valid-table k.valid'

  -- every other row keeps its set
  pub swap_parts : {r s : ℕ} → (r ≡ e → ⊥) → Parts n t r s → Parts n t' r s
  swap_parts {r} {s} re h = record {
    apart = cut (either (eqb r x)) (either (eqb r y));
    closed = λ r' l d. flat r' l d (either (eqb r' x)) (either (eqb r' y));
  }
    where
      S : ℕ → Bool
      S = has s

      across : S p ≡ S q
      across = flat_join t e p q S k.at_P.e_row (h.closed e k.at_P.e_lt (λ w. re (sym w)))

      cut : Either (eqb r x) → Either (eqb r y) → S (lo t' r) ≡ not (S (hi t' r))
      cut (inl w) v =
          let u : S (lo t x) ≡ not (S (hi t x)) = (rw (eqb-true r x w) at h).apart in
          rw (eqb-true r x w) (join_apart t' x q a S k.at_Q'.x_row
          (sym across ∙ apart_join t x p a S k.at_P.x_row u))
      cut (inr w) (inl v) =
          let u : S (lo t y) ≡ not (S (hi t y)) = (rw (eqb-true r y v) at h).apart in
          rw (eqb-true r y v) (join_apart t' y p b S k.at_P'.x_row
          (across ∙ apart_join t y q b S k.at_Q.x_row u))
      cut (inr w) (inr v) =
          let u = k.rest r (eqb-false r x w) (eqb-false r y v) in
          ap S u.0 ∙ h.apart ∙ sym (ap (λ (i : ℕ). not (S i)) u.1)

      flat : (r' : ℕ) → r' < rows n → (r' ≡ r → ⊥) → Either (eqb r' x) → Either (eqb r' y)
          → S (lo t' r') ≡ S (hi t' r')
      flat r' l d (inl w) v =
          let u = h.closed x k.at_P.x_lt (λ u. d (eqb-true r' x w ∙ u)) in
          rw (eqb-true r' x w) (join_flat t' x q a S k.at_Q'.x_row
          (sym across ∙ flat_join t x p a S k.at_P.x_row u))
      flat r' l d (inr w) (inl v) =
          let u = h.closed y k.at_Q.x_lt (λ u. d (eqb-true r' y v ∙ u)) in
          rw (eqb-true r' y v) (join_flat t' y p b S k.at_P'.x_row
          (across ∙ flat_join t y q b S k.at_Q.x_row u))
      flat r' l d (inr w) (inr v) =
          let u = k.rest r' (eqb-false r' x w) (eqb-false r' y v) in
          ap S u.0 ∙ h.closed r' l d ∙ sym (ap S u.1)

  -- and so its split
  pub same_num : (Y r : ℕ) → Y < 2 ^ n → r < rows n → (r ≡ e → ⊥) → num n t Y r ≡ num n t' Y r
  same_num Y r bound h d =
      let s = part n t r (lo t r) in
      let w = row-parts k.valid.big tab r h in
      row_num k.valid Y bound h w ∙ sym (row_num k.valid' Y bound h (swap_parts d w))

  -- a split of t that comes from another row than e is one of t'
  pub stays : (Y z r : ℕ) → Y < 2 ^ n → r < rows n → (r ≡ e → ⊥)
      → some z ≡ true → z ≡ num n t Y r → mem z (splits n t' Y) ≡ true
  stays Y z r bound h d u w = kept_in n t' Y bound z r h u (w ∙ same_num Y r bound h d)

  -- where e's split is another row's too, every split stays
  pub all_stay : (Y r₀ : ℕ) → Y < 2 ^ n → r₀ < rows n → (e ≡ r₀ → ⊥) → num n t Y e ≡ num n t Y r₀
      → (z : ℕ) → mem z (splits n t Y) ≡ true → mem z (splits n t' Y) ≡ true
  all_stay Y r₀ bound h d w z m = go (kept_out n t Y bound z m)
    where
      go : KeptRow n t Y z → mem z (splits n t' Y) ≡ true
      go v = at (either (eqb v.row e))
        where
          at : Either (eqb v.row e) → mem z (splits n t' Y) ≡ true
          at (inl u) =
              stays Y z r₀ bound h (λ i. d (sym i)) v.kept
              (v.is ∙ ap (num n t Y) (eqb-true v.row e u) ∙ w)
          at (inr u) = stays Y z v.row bound v.lt (eqb-false v.row e u) v.kept v.is

  module _ {A B C D : ℕ} (four : Four n t P Q A B C D) where
    -- what hangs from the two ends
    abbrev hung_P : Hung n t P A B
    hung_P = four.on_P

    abbrev hung_Q : Hung n t Q C D
    hung_Q = four.on_Q

    pub A_q : has A q ≡ false
    A_q = row_out k.at_P hung_P

    pub B_q : has B q ≡ false
    B_q = third-out k.at_P hung_P

    pub C_p : has C p ≡ false
    C_p = row_out k.at_Q hung_Q

    pub D_p : has D p ≡ false
    D_p = third-out k.at_Q hung_Q

    -- a row other than e, at a node that its set does not hold, has that set
    -- hang there after the exchange too
    still : (r s v : ℕ) → (e ≡ r → ⊥) → Parts n t r s → has s v ≡ false → Hangs n t' r v s
    still r s v d h out = record { parts = swap_parts (λ w. d (sym w)) h; out = out }

    -- the groups hang the same way after the exchange
    pub four_flip : Four n t' (traded P Q) (traded Q P) C B A D
    four_flip = record {
      on_P = record {
        by_row = still y C p k.at_Q.ex hung_Q.by_row.parts C_p;
        by_third = still f B p k.at_P.ef hung_P.by_third.parts hung_P.by_third.out;
      };
      on_Q = record {
        by_row = still x A q k.at_P.ex hung_P.by_row.parts A_q;
        by_third = still g D q k.at_Q.ef hung_Q.by_third.parts hung_Q.by_third.out;
      };
    }
