-- An end moved onto a row that fits: the distance by the groups met on the
-- way. Assumes nothing.
use mathlib.Core.Path.{◌≡◌, refl, sym, ap, ◌∙◌, subst}
use mathlib.Core.Logic.{◌⊎◌, inl, inr}
use mathlib.Core.Bool.{true, false}
use mathlib.Core.List.{List}
use Prim.Native.Nat.{ℕ, ◌*◌, ◌-◌, ◌^◌, ◌<◌}
use lib.Dec.{eqb}
use lib.Bits.{bit_and}
use borrow.Author.Tests.{eqb-true, eqb-false}
use Rattle.taxa.specs.Sets.{pick, has, some}
use Rattle.taxa.proofs.Bools.{Either, either}
use Rattle.tree.specs.Tree.{lo, hi, rows, nodes, touches, far, part}
use Rattle.tree.specs.Splits.{splits, dist_by, dist}
use Rattle.tree.proofs.Joins.{Joins, touch_joins, joins_touch, joins_flip, joins_differ, far-is}
use Rattle.tree.proofs.Colourings.{Hangs, hangs}
use Rattle.tree.proofs.RowCounts.{Pair}
use Rattle.tree.proofs.Forks.{Fork}
use Rattle.moves.specs.Moves.{move_end}
use Rattle.moves.specs.Groups.{walk, met}
use Rattle.moves.proofs.Spr.Rows.{EndFits, end_rows, move_end_eq, after, rest}
use Rattle.moves.proofs.Spr.Rows.{f_row, b_row, g_row, h_M}
use Rattle.moves.proofs.Spr.Valid.{after-valid}
use Rattle.moves.proofs.LostSplits.Chain.{Chain}
use Rattle.moves.proofs.LostSplits.Count.{chain_dist}
use Rattle.moves.proofs.Spr.Graft.{Site, Graft}
use Rattle.moves.proofs.Ways.Walk.{Taxa, Walk, next, done, fork_turn}
use Rattle.moves.proofs.Ways.Found.{Ahead, Found, walk_from}
use Rattle.moves.proofs.Spr.Chain.{spr_chain}

-- f and g are p's two rows other than a, f the lower
module _ {n : ℕ} {t : List ℕ} {p a b f g : ℕ} (k : EndFits n t p a b) (K : Pair n t a p f g) where
  abbrev t' : List ℕ
  t' = after k K

  abbrev o : ℕ
  o = far t a p

  -- w is the one on the way to b = u-z, and h the other
  module _ {w h r s u z : ℕ} (q : Fork n t p w a h r o s) (jb : Joins t b u z) where
    ps : p ≡ s → ⊥
    ps = joins_differ h k.valid q.f_lt p s q.f_row

    po : p ≡ o → ⊥
    po = joins_differ a k.valid k.a_lt p o q.x_row

    w_p : touches t w p ≡ true
    w_p = joins_touch t w p r q.e_row

    h_p : touches t h p ≡ true
    h_p = joins_touch t h p s q.f_row

    which : (j : ℕ) → j < rows n → (j ≡ a → ⊥) → touches t j p ≡ true → (j ≡ f) ⊎ (j ≡ g)
    which j l ja tj = go (either (eqb j f)) (either (eqb j g))
      where
        go : Either (eqb j f) → Either (eqb j g) → (j ≡ f) ⊎ (j ≡ g)
        go (inl x) y = inl (eqb-true j f x)
        go (inr x) (inl y) = inr (eqb-true j g y)
        go (inr x) (inr y) = absurd (K.only j l ja (eqb-false j f x) (eqb-false j g y) tj)

    -- w and h are f and g
    Two : Type 0
    Two = ((w ≡ f) × (h ≡ g)) ⊎ ((w ≡ g) × (h ≡ f))

    two : Two
    unfolding Two
    two = go (which w q.e_lt q.ex w_p) (which h q.f_lt (λ d. q.xf (sym d)) h_p)
      where
        go : (w ≡ f) ⊎ (w ≡ g) → (h ≡ f) ⊎ (h ≡ g) → ((w ≡ f) × (h ≡ g)) ⊎ ((w ≡ g) × (h ≡ f))
        go (inl x) (inl y) = absurd (q.ef (x ∙ sym y))
        go (inl x) (inr y) = inl (x, y)
        go (inr x) (inl y) = inr (x, y)
        go (inr x) (inr y) = absurd (q.ef (x ∙ sym y))

    -- row f, which joins the far ends of f and g, joins r and s
    F_joins : Joins t' f r s
    unfolding Two
    F_joins = go two
      where
        far_w : {j : ℕ} → w ≡ j → far t j p ≡ r
        far_w d = ap (λ (i : ℕ). far t i p) (sym d) ∙ far-is t w p r q.e_row q.pq

        far_h : {j : ℕ} → h ≡ j → far t j p ≡ s
        far_h d = ap (λ (i : ℕ). far t i p) (sym d) ∙ far-is t h p s q.f_row ps

        to : {i j : ℕ} → far t f p ≡ i → far t g p ≡ j → Joins t' f i j
        to {i} {j} x y =
            subst (λ (v : ℕ). Joins t' f v j) x
            (subst (λ (v : ℕ). Joins t' f (far t f p) v) y (f_row k K))

        go : ((w ≡ f) × (h ≡ g)) ⊎ ((w ≡ g) × (h ≡ f)) → Joins t' f r s
        go (inl x) = to (far_w x.0) (far_h x.1)
        go (inr x) = joins_flip t' f s r (to (far_h x.1) (far_w x.0))

    wh : (j : ℕ) → (j ≡ f → ⊥) → (j ≡ g → ⊥) → (j ≡ w → ⊥) × (j ≡ h → ⊥)
    unfolding Two
    wh j jf jg = go two
      where
        go : ((w ≡ f) × (h ≡ g)) ⊎ ((w ≡ g) × (h ≡ f)) → (j ≡ w → ⊥) × (j ≡ h → ⊥)
        go (inl x) = (λ d. jf (d ∙ x.0), λ d. jg (d ∙ x.1))
        go (inr x) = (λ d. jg (d ∙ x.0), λ d. jf (d ∙ x.1))

    hw : (j : ℕ) → (j ≡ w → ⊥) → (j ≡ h → ⊥) → (j ≡ f → ⊥) × (j ≡ g → ⊥)
    unfolding Two
    hw j jw jh = go two
      where
        go : ((w ≡ f) × (h ≡ g)) ⊎ ((w ≡ g) × (h ≡ f)) → (j ≡ f → ⊥) × (j ≡ g → ⊥)
        go (inl x) = (λ d. jw (d ∙ sym x.0), λ d. jh (d ∙ sym x.1))
        go (inr x) = (λ d. jh (d ∙ sym x.1), λ d. jw (d ∙ sym x.0))

    M_u : has (part n t a o) u ≡ false
    M_u = go jb
      where
        M : ℕ
        M = part n t a o

        across : has M (lo t b) ≡ has M (hi t b)
        across = (h_M k K).parts.closed b k.b_lt k.ba

        go : Joins t b u z → has M u ≡ false
        go (inl j) = ap (has M) (sym j.0) ∙ k.b_out
        go (inr j) = ap (has M) (sym j.1) ∙ sym across ∙ k.b_out

    -- the move as a graft, where N and X are b and g in the order that fits
    pub graft_of : (N X : ℕ) → Joins t' N u p → Joins t' X p z → N < rows n → X < rows n
        → ((j : ℕ) → (j ≡ N → ⊥) → (j ≡ X → ⊥) → (j ≡ b → ⊥) × (j ≡ g → ⊥))
        → Graft n t t' p o a b
        (record { w = w; h = h; r = r; s = s; u = u; z = z; F = f; N = N; X = X })
    graft_of N X jN jX lN lX out = record {
      valid = k.valid;
      valid' = after-valid k K;
      fork = fork_turn po (fork_turn ps q);
      b_row = jb;
      b_lt = k.b_lt;
      ba = k.ba;
      bw = λ d. k.b_p (ap (λ (i : ℕ). touches t i p) d ∙ w_p);
      bh = λ d. k.b_p (ap (λ (i : ℕ). touches t i p) d ∙ h_p);
      F_row = F_joins;
      N_row = jN;
      X_row = jX;
      F_lt = K.f_lt;
      N_lt = lN;
      X_lt = lX;
      keep = λ j jf jn jx.
          let o = out j jn jx in
          let v = wh j jf o.1 in
          record { not_w = v.0; not_h = v.1; not_b = o.0 };
      same = λ j un.
          let v = hw j un.not_w un.not_h in
          rest k K j un.not_b v.0 v.1;
      h_M = h_M k K;
      M_u = M_u;
    }

    -- so it is one for some N and X
    record Placed : Type 0 where
      N : ℕ
      X : ℕ
      graft : Graft n t t' p o a b
          (record { w = w; h = h; r = r; s = s; u = u; z = z; F = f; N = N; X = X })

    placed : Placed
    placed = go jb
      where
        go : Joins t b u z → Placed
        go (inl j) = record {
          N = b;
          X = g;
          graft = graft_of b g
              (subst (λ (i : ℕ). Joins t' b i p) j.0 (b_row k K))
              (subst (λ (i : ℕ). Joins t' g p i) j.1 (g_row k K))
              k.b_lt K.g_lt (λ i x y. (x, y));
        }
        go (inr j) = record {
          N = g;
          X = b;
          graft = graft_of g b
              (joins_flip t' g p u (subst (λ (i : ℕ). Joins t' g p i) j.1 (g_row k K)))
              (joins_flip t' b z p (subst (λ (i : ℕ). Joins t' b i p) j.0 (b_row k K)))
              K.g_lt k.b_lt (λ i x y. (y, x));
        }

-- the move as a graft, at some rows and nodes
pub record SomeGraft (n : ℕ) (t t' : List ℕ) (p o a b : ℕ) : Type 0 where
  pub site : Site
  pub graft : Graft n t t' p o a b site

-- the splits before and after are a chain of the groups gs; W has the taxa of
-- the part that is moved
abbrev pub MoveChain : ℕ → List ℕ → List ℕ → ℕ → ℕ → List ℕ → Type 0
MoveChain n t t' p a gs =
    (W y : ℕ) → Taxa n W (part n t a (far t a p)) → y < 2 ^ n
    → Chain n y W gs (splits n t y) (splits n t' y)

-- both, for a way whose groups are gs
record MovedAlong (n : ℕ) (t t' : List ℕ) (p a b : ℕ) (gs : List ℕ) : Type 0 where
  graft : SomeGraft n t t' p (far t a p) a b
  chain : MoveChain n t t' p a gs

-- a way from p, come by row a, to row b
moved_by : {n : ℕ} {t : List ℕ} {p a b f g : ℕ} (k : EndFits n t p a b) (K : Pair n t a p f g)
    {u z v e q : ℕ} {xs gs : List ℕ} → Walk n t b u z v e q xs gs → Joins t b u z
    → v ≡ p → e ≡ a → q ≡ far t a p → MovedAlong n t (after k K) p a b gs
moved_by k K (done vz eb qu hD tx) jb vp ea qo = absurd (k.ba (sym eb ∙ ea))
moved_by {n} {t} {p} {a} {b} k K {u} {z}
    (next {v} {e} {q} {h} {i} {x} {v'} {g} {H} {xs} {gs} eb hb fk h_H tx way) jb vp ea qo =
    let at_p : Fork n t p x e h v' q i = subst (λ (j : ℕ). Fork n t j x e h v' q i) vp fk in
    let by_a : Fork n t p x a h v' q i = subst (λ (j : ℕ). Fork n t p x j h v' q i) ea at_p in
    let to_o : Fork n t p x a h v' (far t a p) i
    = subst (λ (j : ℕ). Fork n t p x a h v' j i) qo by_a in
    let G = (placed k K to_o jb).graft in
    let from_p : Walk n t b u z v' x p xs gs
    = subst (λ (j : ℕ). Walk n t b u z v' x j xs gs) vp way in
    let at_p' : Hangs n t h p H = subst (λ (j : ℕ). Hangs n t h j H) vp h_H in
    record {
      graft = record { site = _; graft = G };
      chain = λ W y tw bound. spr_chain G from_p at_p' g tx W tw y bound;
    }

-- ---- an end that moves
module _ {n : ℕ} {t : List ℕ} {p a b : ℕ} (k : EndFits n t p a b) where
  pub start : Ahead n t b p a (part n t a (far t a p))
  start = record {
    hang = hangs a p (far t a p) k.valid k.a_lt (touch_joins t a p k.a_p);
    e_lt = k.a_lt;
    e_v = k.a_p;
    inner = k.inner;
    out = k.b_out;
    be = k.ba;
  }

  pub found : Found n t b p a (walk n t b (nodes n) p a)
  found = walk_from k.valid k.b_lt start

  moved_along : {u z : ℕ} {xs gs : List ℕ} → Joins t b u z → Walk n t b u z p a (far t a p) xs gs
      → MovedAlong n t (move_end n t p a b) p a b gs
  unfolding after
  moved_along {gs = gs} j way =
      let w = end_rows k in
      subst (λ (x : List ℕ). MovedAlong n t x p a b gs)
      (sym (move_end_eq n t p a b w.0 w.1 w.2.list))
      (moved_by k w.2 way j refl refl refl)

  pub some_graft : SomeGraft n t (move_end n t p a b) p (far t a p) a b
  some_graft = (moved_along found.b_row found.way).graft

  -- for a way that is known by other means
  pub way_chain : {u z : ℕ} {xs gs : List ℕ} → Joins t b u z → Walk n t b u z p a (far t a p) xs gs
      → MoveChain n t (move_end n t p a b) p a gs
  way_chain j way = (moved_along j way).chain

  pub move_chain : MoveChain n t (move_end n t p a b) p a (walk n t b (nodes n) p a)
  move_chain = way_chain found.b_row found.way

  pub move-dist : (W y : ℕ) → Taxa n W (part n t a (far t a p)) → y < 2 ^ n
      → dist n t (move_end n t p a b) y
      ≡ pick (some (bit_and W y)) (2 * (met y (walk n t b (nodes n) p a) - 2)) 0
  unfolding dist_by
  move-dist W y tw bound = chain_dist (move_chain W y tw bound)
