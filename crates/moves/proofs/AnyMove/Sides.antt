-- What every row's set is after a move, from the sets before. A row's set is
-- any set of nodes that this row alone leaves (`Parts`); `side-from` of
-- Rows/Sets gives the row's side from it. Assumes nothing.
use mathlib.Core.Path.{◌≡◌, refl, sym, ap, ap₂, ◌∙◌, subst}
use mathlib.Core.Logic.{inl, inr}
use mathlib.Core.Bool.{Bool, true, false, not, ◌&&◌, ◌||◌, or-true, or-false}
use mathlib.Core.List.{List}
use Prim.Native.Nat.{ℕ, ◌^◌, ◌%◌, ◌≤◌, ◌<◌}
use native.Mathlib.Omega.{arith}
use lib.Dec.{eqb, ltb}
use lib.ListN.{get_or}
use lib.Bits.{bit_or, bit_xor}
use borrow.Author.Tests.{ne_eqb, ltb-true}
use Rattle.taxa.specs.Sets.{has, less}
use Rattle.taxa.proofs.Bools.{or_neither, not_both, not_self, ◌⊕◌}
use Rattle.taxa.proofs.Sets.{has_or, has_xor, has-less, has_mod, ext}
use Rattle.tree.specs.Tree.{lo, hi, rows, nodes, touches, far, others, part, Valid}
use Rattle.tree.proofs.Rounds.{part_start}
use Rattle.tree.proofs.Joins.{joins_differ, joins_flip}
use Rattle.tree.proofs.Colourings.{Parts, Hangs, valid-table, row-parts, ends-parted, hangs}
use Rattle.tree.proofs.RowCounts.{Pair}
use Rattle.tree.proofs.Forks.{Fork, fork_swap, joined, has-joined}
use Rattle.moves.specs.Moves.{nni, nni_fits, end_on, end_with, move_end, spr, stay_or, tbr, target}
use Rattle.moves.specs.Groups.{leads}
use Rattle.moves.proofs.Rows.Sets.{agree, alike, parts_same}
use Rattle.moves.proofs.Nni.Ends.{End, Hung, e_parts, e_in}
use Rattle.moves.proofs.Nni.Exchange.{Exchange, Four, turn, swap_parts, four_flip}
use Rattle.moves.proofs.Nni.Swap.{NniFit, swapped}
use Rattle.moves.proofs.Nni.Move.{exchange, third_P, third_Q, nni_eq, nni_fit}
use Rattle.moves.proofs.Ways.Walk.{no_common, fork_turn}
use Rattle.moves.proofs.Spr.Graft.{Site, Graft, crossed, has_crossed, keep_parts}
use Rattle.moves.proofs.Spr.Graft.{hang_parts, far-parts, cross_parts, near_parts}
use Rattle.moves.proofs.Spr.Rows.{EndFits, end_rows, move_end_eq, after}
use Rattle.moves.proofs.Spr.Rows.{fork, h_M, b_row, g_row}
use Rattle.moves.proofs.Spr.Dist.{graft_of}
use Rattle.moves.proofs.Spr.Rule.{spr-fits}
use Rattle.moves.proofs.Tbr.Aims.{side-fits}
use Rattle.moves.proofs.Tbr.Rule.{aim-low, aim_high, next_fits}

-- ---- NNI
-- E less A, with C
unfoldable pub replaced : ℕ → ℕ → ℕ → ℕ
replaced E A C = bit_or (less E A) C

-- its members
pub has_replaced : (E A C i : ℕ) → has (replaced E A C) i ≡ (has E i && not (has A i) || has C i)
unfolding replaced
has_replaced E A C i = has_or (less E A) C i ∙ ap (λ (x : Bool). x || has C i) (has-less E A i)

-- its taxa, from the taxa of the three
pub replaced_taxa : (n E A C : ℕ)
    → replaced E A C % 2 ^ n ≡ replaced (E % 2 ^ n) (A % 2 ^ n) (C % 2 ^ n)
replaced_taxa n E A C =
    ext (replaced E A C % 2 ^ n) (replaced (E % 2 ^ n) (A % 2 ^ n) (C % 2 ^ n)) (λ i.
    has_mod n (replaced E A C) i
    ∙ ap (λ (x : Bool). ltb i n && x) (has_replaced E A C i)
    ∙ at (ltb i n) (has E i) (has A i) (has C i)
    ∙ sym (has_replaced (E % 2 ^ n) (A % 2 ^ n) (C % 2 ^ n) i
    ∙ ap₂ ◌||◌ (ap₂ (λ (x y : Bool). x && not y) (has_mod n E i) (has_mod n A i)) (has_mod n C i)))
  where
    at : (l e a c : Bool) → (l && (e && not a || c)) ≡ (l && e && not (l && a) || l && c)
    at true e a c = refl
    at false e a c = refl

-- with C in the place of A, E is a set of row e in t', and holds p
abbrev pub Replaces : ℕ → List ℕ → ℕ → ℕ → ℕ → ℕ → ℕ → Type 0
Replaces n t' e p E A C = Parts n t' e (replaced E A C) × (has (replaced E A C) p ≡ true)

-- After the NNI e, x, y, with p and q the ends that x and y had on e:
pub record NniSides (n : ℕ) (t t' : List ℕ) (e x y p q : ℕ) : Type 0 where
  -- every row but e keeps its sets
  pub keeps : (j S : ℕ) → (j ≡ e → ⊥) → Parts n t j S → Parts n t' j S
  -- in e's set with p, what hangs by y takes the place of what hangs by x
  pub with_p : (E A C : ℕ) → Parts n t e E → has E p ≡ true → Hangs n t x p A → Hangs n t y q C
      → Replaces n t' e p E A C
  -- in e's set with q, what hangs by x takes the place of what hangs by y
  pub with_q : (E A C : ℕ) → Parts n t e E → has E q ≡ true → Hangs n t x p A → Hangs n t y q C
      → Replaces n t' e q E C A

-- a, b and v being all of E, of which a is taken away
bools : (a b c v : Bool)
    → (a ≡ true → b ≡ false)
    → (a ≡ true → v ≡ false)
    → ((a || b || v) && not a || c) ≡ (c || b || v)
bools true b true v h l = refl
bools true b false v h l = sym (ap₂ ◌||◌ (h refl) (l refl))
bools false b true v h l = or-true ((b || v) && true)
bools false true false v h l = refl
bools false false false true h l = refl
bools false false false false h l = refl

-- row e's set with p, in any exchange
module _ {n : ℕ} {t t' : List ℕ} {e : ℕ} {P Q : End} (k : Exchange n t t' e P Q) where
  open P use {node as p, row as x, third as f, last as c}
  open Q use {node as q, row as y, third as g, last as d}

  exchange_e : (E A C : ℕ) → Parts n t e E → has E p ≡ true → Hangs n t x p A → Hangs n t y q C
      → Replaces n t' e p E A C
  exchange_e E A C pE Ep h_A hC = (
    parts_same k.valid' k.at_P.e_lt same (e_parts k.at_P' (four_flip k four).on_P),
    has_replaced E A C p ∙ ap₂ (λ (u v : Bool). u && not v || has C p) Ep h_A.out,
  )
    where
      B : ℕ
      B = part n t f c

      on_P : Hung n t P A B
      on_P = record {
        by_row = h_A;
        by_third = hangs f p c k.valid k.at_P.f_lt k.at_P.f_row;
      }

      on_Q : Hung n t Q C (part n t g d)
      on_Q = record {
        by_row = hC;
        by_third = hangs g q d k.valid k.at_Q.f_lt k.at_Q.f_row;
      }

      four : Four n t P Q A B C (part n t g d)
      four = record { on_P = on_P; on_Q = on_Q }

      -- E is what hangs by x and by f, and p
      E_is : (i : ℕ) → i < nodes n → has E i ≡ (has A i || has B i || eqb p i)
      E_is i l =
          alike k.valid pE (e_parts k.at_P on_P) p k.at_P.p_lt
          (Ep ∙ sym (e_in k.at_P on_P)) i l
          ∙ has-joined A B p i

      not_p : (i : ℕ) → has A i ≡ true → eqb p i ≡ false
      not_p i h = ne_eqb p i (λ w. not_both (has A i) h (ap (has A) (sym w) ∙ h_A.out))

      same : (i : ℕ) → i < nodes n → has (replaced E A C) i ≡ has (joined C B p) i
      same i l =
          has_replaced E A C i
          ∙ ap (λ (u : Bool). u && not (has A i) || has C i) (E_is i l)
          ∙ bools (has A i) (has B i) (has C i) (eqb p i)
          (no_common k.at_P h_A on_P.by_third k.valid i l) (not_p i)
          ∙ sym (has-joined C B p i)

-- the sets after x and y have exchanged their ends p and q
swapped_sides : {n : ℕ} {t : List ℕ} {e x y p q : ℕ} → NniFit n t e x y p q
    → NniSides n t (swapped t x y p q) e x y p q
swapped_sides k =
    let w = exchange k (third_P k).fork (third_Q k).fork in
    record {
      keeps = λ j S d h. swap_parts w d h;
      with_p = exchange_e w;
      with_q = λ E A C pE Eq h_A hC. exchange_e (turn w) E C A pE Eq hC h_A;
    }

-- the sets after an NNI whose rows fit
pub nni-sides : {n : ℕ} {t : List ℕ} (e x y : ℕ) → Valid n t
    → e < rows n
    → x < rows n
    → y < rows n
    → nni_fits n t e x y ≡ true
    → NniSides n t (nni t e x y) e x y (end_on t e x) (far t e (end_on t e x))
nni-sides {n} {t} e x y vt le lx ly h =
    rw (nni_eq t e x y) (swapped_sides (nni_fit e x y vt le lx ly h))

-- ---- an end that moves
-- the taxa of a set with M and the inner node p exchanged
pub crossed_taxa : (n M p S : ℕ) → n ≤ p → crossed M p S % 2 ^ n ≡ bit_xor (S % 2 ^ n) (M % 2 ^ n)
crossed_taxa n M p S inner = ext (crossed M p S % 2 ^ n) (bit_xor (S % 2 ^ n) (M % 2 ^ n)) (λ i.
    has_mod n (crossed M p S) i
    ∙ ap (λ (x : Bool). ltb i n && x) (has_crossed M p S i)
    ∙ at i (ltb i n) refl
    ∙ sym (has_xor (S % 2 ^ n) (M % 2 ^ n) i ∙ ap₂ ◌⊕◌ (has_mod n S i) (has_mod n M i)))
  where
    at : (i : ℕ) (l : Bool)
        → ltb i n ≡ l
        → (l && (has S i ⊕ (has M i || eqb p i))) ≡ (l && has S i ⊕ (l && has M i))
    at i true h =
        let no_Node = ne_eqb p i (λ d. omega (arith, ltb-true i n h)) in
        ap (λ (x : Bool). has S i ⊕ x)
        (ap (λ (x : Bool). has M i || x) no_Node ∙ or-false (has M i))
    at i false h = refl

-- After the end p of row a is moved onto row b, with f and g the other rows at
-- p, f the lower, and M what hangs from p by a:
pub record EndSides (n : ℕ) (t t' : List ℕ) (p b f g M : ℕ) : Type 0 where
  -- a row other than f, g and b that does not part p from b keeps its sets
  pub keeps : (j S : ℕ)
      → (j ≡ f → ⊥)
      → (j ≡ g → ⊥)
      → (j ≡ b → ⊥)
      → Parts n t j S
      → has S p ≡ has S (lo t b)
      → Parts n t' j S
  -- one that parts them exchanges M and p
  pub crosses : (j S : ℕ)
      → j < rows n
      → (j ≡ f → ⊥)
      → (j ≡ g → ⊥)
      → (j ≡ b → ⊥)
      → Parts n t j S
      → has S (lo t b) ≡ not (has S p)
      → Parts n t' j (crossed M p S)
  -- f takes the sets of the one of f and g that does not lead to b
  pub f_from_g : (S : ℕ) → leads n t b p f ≡ true → Parts n t g S → Parts n t' f S
  pub f_from_f : (S : ℕ) → leads n t b p f ≡ false → Parts n t f S → Parts n t' f S
  -- p lies with b's smaller end: g, which leads to the larger, takes b's sets,
  -- and in b's own M and p are exchanged
  pub low_g : (S : ℕ) → has (part n t b (lo t b)) p ≡ true → Parts n t b S → Parts n t' g S
  pub low_b : (S : ℕ)
      → has (part n t b (lo t b)) p ≡ true
      → Parts n t b S
      → Parts n t' b (crossed M p S)
  -- p lies with b's larger end: b, which leads to the smaller, keeps its sets,
  -- and g takes them with M and p exchanged
  pub high_b : (S : ℕ) → has (part n t b (lo t b)) p ≡ false → Parts n t b S → Parts n t' b S
  pub high_g : (S : ℕ)
      → has (part n t b (lo t b)) p ≡ false
      → Parts n t b S
      → Parts n t' g (crossed M p S)

-- the same, with f, g and M found in the table
abbrev pub EndMoved : ℕ → List ℕ → List ℕ → ℕ → ℕ → ℕ → Type 0
EndMoved n t t' p a b =
    let fs = others t a p (rows n) in
    EndSides n t t' p b (get_or fs 0 0) (get_or fs 1 0) (part n t a (far t a p))

module _ {n : ℕ} {t : List ℕ} {p a b f g : ℕ} (k : EndFits n t p a b) (K : Pair n t a p f g) where
  abbrev t' : List ℕ
  t' = after k K

  abbrev M : ℕ
  M = part n t a (far t a p)

  -- p and its three rows, named from a
  fk : Fork n t p a f g (far t a p) (far t f p) (far t g p)
  fk = fork k K

  -- the same named from f, and from g
  by_f : Fork n t p f a g (far t f p) (far t a p) (far t g p)
  by_f =
      fork_turn (joins_differ f k.valid K.f_lt p (far t f p) fk.x_row) (fork_swap fk)

  by_g : Fork n t p g a f (far t g p) (far t a p) (far t f p)
  by_g = fork_turn (joins_differ g k.valid K.g_lt p (far t g p) fk.f_row) fk

  -- the move, with b's smaller end taken for the nearer to p, and with its
  -- larger
  abbrev lo_site : ℕ → ℕ → ℕ → ℕ → Site
  lo_site w h r s =
      record { w = w; h = h; r = r; s = s; u = lo t b; z = hi t b; F = f; N = b; X = g }

  near-lo : {w h r s : ℕ} → Fork n t p w a h r (far t a p) s
      → Graft n t t' p (far t a p) a b (lo_site w h r s)
  near-lo q =
      graft_of k K q (inl (refl, refl)) b g (b_row k K) (g_row k K) k.b_lt K.g_lt
      (λ i x y. (x, y))

  abbrev hi_site : ℕ → ℕ → ℕ → ℕ → Site
  hi_site w h r s =
      record { w = w; h = h; r = r; s = s; u = hi t b; z = lo t b; F = f; N = g; X = b }

  near-hi : {w h r s : ℕ} → Fork n t p w a h r (far t a p) s
      → Graft n t t' p (far t a p) a b (hi_site w h r s)
  near-hi q =
      graft_of k K q (inr (refl, refl)) g b
      (joins_flip t' g p (hi t b) (g_row k K))
      (joins_flip t' b (lo t b) p (b_row k K))
      K.g_lt k.b_lt (λ i x y. (y, x))

  -- b's ends are nodes
  lo_lt : lo t b < nodes n
  lo_lt = ((valid-table k.valid).ends b k.b_lt).0

  hi_lt : hi t b < nodes n
  hi_lt = ((valid-table k.valid).ends b k.b_lt).1

  -- what hangs from p by f, and by g
  A : ℕ
  A = part n t f (far t f p)

  B : ℕ
  B = part n t g (far t g p)

  h_A : Hangs n t f p A
  unfolding A
  h_A = hangs f p (far t f p) k.valid K.f_lt fk.x_row

  h_B : Hangs n t g p B
  unfolding B
  h_B = hangs g p (far t g p) k.valid K.g_lt fk.f_row

  -- b lies beyond f where f leads to it, and not where it does not
  b_in_f : leads n t b p f ≡ true → has A (lo t b) ≡ true
  unfolding leads A
  b_in_f h =
      let not_b = ne_eqb f b (λ w. k.b_p (ap (λ (i : ℕ). touches t i p) (sym w) ∙ K.f_p)) in
      sym (ap (λ (x : Bool). x || has A (lo t b)) not_b) ∙ h

  b_out_f : leads n t b p f ≡ false → has A (lo t b) ≡ false
  unfolding leads A
  b_out_f h = (or_neither (eqb f b) (has A (lo t b)) h).1

  -- row a does not part p from b
  not_a : (S : ℕ) → Parts n t a S → has S p ≡ has S (lo t b)
  not_a S q =
      agree k.valid q (h_M k K).parts p (lo t b) fk.p_lt lo_lt ((h_M k K).out ∙ sym k.b_out)

  -- b's sets have p with the end that p lies with
  b_parts : Parts n t b (part n t b (lo t b))
  b_parts = row-parts k.valid.big (valid-table k.valid) b k.b_lt

  at-lo : {S : ℕ} → has (part n t b (lo t b)) p ≡ true → Parts n t b S → has S p ≡ has S (lo t b)
  at-lo h q =
      agree k.valid q b_parts p (lo t b) fk.p_lt lo_lt (h ∙ sym (part_start n t b (lo t b)))

  at-hi : {S : ℕ} → has (part n t b (lo t b)) p ≡ false → Parts n t b S → has S p ≡ has S (hi t b)
  at-hi h q =
      let hi-out = ends-parted b (lo t b) (hi t b) k.valid k.b_lt (inl (refl, refl)) in
      agree k.valid q b_parts p (hi t b) fk.p_lt hi_lt (h ∙ sym hi-out)

  -- the sets after the three rows have been put
  end_sides : EndSides n t (after k K) p b f g M
  end_sides = record {
    keeps = λ j S jf jg jb q h.
        keep_parts (near-lo by_f) (record { not_w = jf; not_h = jg; not_b = jb }) q h;
    crosses = λ j S l jf jg jb q h.
        let ja : j ≡ a → ⊥
        = λ d. not_self (has S p) (not_a S (subst (λ (i : ℕ). Parts n t i S) d q) ∙ h) in
        cross_parts (near-hi by_f)
        (record { lt = l; not_a = ja; not_w = jf; not_h = jg }) jb q h;
    f_from_g = λ S h q.
        let out = no_common fk h_A h_B k.valid (lo t b) lo_lt (b_in_f h) in
        hang_parts (near-lo by_f) q
        (agree k.valid q h_B.parts p (lo t b) fk.p_lt lo_lt (h_B.out ∙ sym out));
    f_from_f = λ S h q.
        hang_parts (near-lo by_g) q
        (agree k.valid q h_A.parts p (lo t b) fk.p_lt lo_lt (h_A.out ∙ sym (b_out_f h)));
    low_g = λ S h q. far-parts (near-lo by_f) q (at-lo h q);
    low_b = λ S h q. near_parts (near-lo by_f) q (at-lo h q);
    high_b = λ S h q. far-parts (near-hi by_f) q (at-hi h q);
    high_g = λ S h q. near_parts (near-hi by_f) q (at-hi h q);
  }

-- the sets after an end has moved onto a row that fits
pub move_end_sides : {n : ℕ} {t : List ℕ} {p a b : ℕ}
    → EndFits n t p a b
    → EndMoved n t (move_end n t p a b) p a b
unfolding after
move_end_sides {n} {t} {p} {a} {b} k =
    let w = end_rows k in
    rw (move_end_eq n t p a b w.0 w.1 w.2.list, w.2.list) (end_sides k w.2)

-- and after an SPR
pub spr-sides : {n : ℕ} {t : List ℕ} (a b : ℕ)
    → Valid n t
    → a < rows n
    → b < rows n
    → (a ≡ b → ⊥)
    → touches t b (end_with n t a b) ≡ false
    → EndMoved n t (spr n t a b) (end_with n t a b) a b
unfolding spr
spr-sides a b vt la lb ab tb =
    move_end_sides (spr-fits a b vt la lb ab tb)

-- ---- TBR
-- An end p of row a whose target b touches it stays, and the table is as
-- before; otherwise it moves.
pub record StaySides (n : ℕ) (t t' : List ℕ) (p a b : ℕ) : Type 0 where
  pub stays : touches t b p ≡ true → t' ≡ t
  pub moves : touches t b p ≡ false → EndMoved n t t' p a b

-- so it is for an end that fits where its target does not touch it
stay-sides : (n : ℕ) (t : List ℕ) (p a b : ℕ)
    → ((touches t b p ≡ true → ⊥) → EndFits n t p a b)
    → StaySides n t (stay_or n t p a b) p a b
unfolding stay_or
stay-sides n t p a b k = record {
  stays = λ h. rw h;
  moves = λ h. rw h (move_end_sides (k (λ e. not_both (touches t b p) e h)));
}

-- the sets after a TBR, in two steps: first a's smaller end, then its larger
pub tbr-sides : {n : ℕ} {t : List ℕ} (a b c : ℕ) → Valid n t → a < rows n → b < rows n → c < rows n
    → target n t a (lo t a) b ≡ true
    → target n t a (hi t a) c ≡ true
    → StaySides n t (stay_or n t (lo t a) a b) (lo t a) a b
    × StaySides n (stay_or n t (lo t a) a b) (tbr n t a b c) (hi t a) a c
unfolding tbr
tbr-sides {n} {t} a b c vt la lb lc low high =
    let A = aim-low a b c vt la lb lc low high in
    let B = aim_high a b c vt la lb lc low high in
    let t₁ = stay_or n t (lo t a) a b in
    (stay-sides n t (lo t a) a b (side-fits A), stay-sides n t₁ (hi t a) a c (next_fits A B))
