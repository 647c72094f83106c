-- How the search for an order goes one step on: from taxon to taxon, and with a
-- row to the node at its far end. Assumes nothing.
use mathlib.Core.Path.{◌≡◌, refl, sym, ap, ◌∙◌}
use mathlib.Core.Logic.{◌⊎◌, inl, inr}
use mathlib.Core.Bool.{true}
use mathlib.Core.List.{List}
use Prim.Native.Nat.{ℕ, suc, ◌-◌, ◌<◌}
use native.Mathlib.Nat.{le_refl, eq-or-lt_of_le}
use native.Mathlib.Omega.{arith}
use lib.Bits.{bit_xor}
use Rattle.tree.specs.Tree.{rows, nodes, touches, far}
use Rattle.tree.proofs.RowCounts.{count_find, count_one}
use Rattle.table.specs.Between.{Rowed}
use Rattle.node_rows.specs.Between.{free, up, first, second, Meet}
use Rattle.inward.specs.Between.{node, Taken, Given, Order}
use Rattle.inward.specs.Search.{State, fresh, half, full, Climbs, At, came_first, last_row}
use Rattle.inward.specs.Search.{came_second}
use Rattle.inward.proofs.Mixes.{mix_first, mix_one}
use Rattle.inward.proofs.Meets.{meet_head, meet_left}
use Rattle.inward.proofs.Counts.{full_fewer, full_same, full_more}
use Rattle.inward.proofs.Across.{not_free}
use Rattle.inward.proofs.Orders.{node-meets}
use Rattle.inward.proofs.Places.{AfterFirst, after_first, AfterSecond, after-second}
use Rattle.inward.proofs.Kept.{given-kept, Keeps, taken-kept, row_kept, order-kept}
use Rattle.inward.proofs.Kept.{state-kept, taxon-kept, taxa-kept, nodes-kept, climbs-kept}
use Rattle.inward.proofs.Arrives.{Arrives, arrive_across, arrive_back, arrive_node}
use Rattle.inward.proofs.Arrives.{arrive_room, arrive_state, not_node}

-- ---- from the next taxon: its place holds its row, mixed, and this is its only
-- one
pub next-taxon : {n i k r : ℕ} {t a : List ℕ} → Rowed n t → Climbs n t a i k k → 0 < i → i < n
    → r ≡ bit_xor (up a i) free → At n t a i k i r
next-taxon {n} {i} {k} {r} {t} {a} R C pos li e =
    let (f, lf, tf) = count_find (λ q. touches t q i) (rows n) (omega (arith, R.leaf i li)) in
    let d : r ≡ f = e ∙ ap (λ (x : ℕ). bit_xor x free) (C.taxon i f li lf tf) ∙ mix_one f in
    at (rw d lf) (rw d tf)
  where
    before : Taken a i k i r → ⊥
    before (inl h) = omega (arith, h.1)
    before (inr h) = omega (arith, (C.order.inner h.0 h.1).0, h.2)

    at : r < rows n → touches t r i ≡ true → At n t a i k i r
    at lr tr = record {
      low = i;
      given = k;
      climbs = C;
      low_le = omega arith;
      given_le = le_refl k;
      given-near = omega arith;
      row = lr;
      touch = tr;
      taken = inl (pos, le_refl (suc i));
      not_before = before;
      other_taxa = λ u q lu lq tq. taxa u q lq tq (eq-or-lt_of_le (omega arith));
      other_nodes = λ j l. inr l;
    }
      where
        taxa : (u q : ℕ) → q < rows n → touches t q u ≡ true → (u ≡ i) ⊎ (u < i)
            → ((u ≡ i) × (q ≡ r)) ⊎ (u < i)
        taxa u q lq tq (inl d) = inl (
          d,
          count_one (λ x. touches t x i) (rows n) r q (R.leaf i li) lr tr lq (rw d at tq),
        )
        taxa u q lq tq (inr l) = inr l

-- ---- row r comes to taxon 0
-- nothing changes, so a number that is no node stands for w
pub come_home : {n i k v r : ℕ} {t a : List ℕ} → Rowed n t → At n t a i k v r → far t r v ≡ 0
    → Climbs n t a (suc i) k k
come_home {n} {k} {t} {a} R A e =
    climbs-kept A same (inl e) (omega (arith, R.ordered.big)) (λ l. absurd (omega arith))
    A.climbs.counted
  where
    same : Keeps n t a a k (nodes n)
    same = record {
      beside = record {
        len = refl;
        ups = λ u d. refl;
        firsts = λ u d. refl;
        seconds = λ u d. refl;
        places = λ j l. refl;
      };
      apart = λ j l d. omega (arith, (A.climbs.order.inner j l).1);
      givens = λ u q l G. G;
    }

-- ---- row r comes to an inner node w
module _ {n i k v r w : ℕ} {t a : List ℕ} (A : Arrives n t a i k v r w) where
  abbrev P : At n t a i k v r
  P = A.from

  -- as the first: w is fresh, and r is one of its three rows; then w is half,
  -- and r its first
  pub come_first : first a w ≡ free → Climbs n t (came_first a w r) (suc i) k k
  come_first e = go (arrive_state A)
    where
      b : List ℕ
      b = came_first a w r

      F : AfterFirst a b w r k
      F = after_first r k (arrive_room A)

      keeps : second a w ≡ free → Keeps n t a b k w
      keeps s = record {
        beside = F.beside;
        apart = not_node A s;
        givens = given-kept A.rowed F.beside s (inl e);
      }

      here : Given n t b v r
      here = inr (rw (sym A.to) (A.inner, inl F.first_w))

      go : State n t a P.low k P.given w → Climbs n t b (suc i) k k
      go (fresh x y z M m f s) =
          let K = keeps s in
          let H = meet_head M P.row (arrive_across A).at in
          climbs-kept P K here A.inner
          (λ l. half r H.0 H.1 H.2
          (F.up_w ∙ ap (λ (x : ℕ). bit_xor x r) (m ∙ H.3) ∙ mix_first r H.0 H.1)
          F.first_w (F.seconds w ∙ s)
          (rw (arrive_back A) (row_kept P K)))
          (full_same n a b F.seconds ∙ P.climbs.counted)
      go (half x y z M m f s T) = absurd (not_free A.rowed M.x_lt (sym f ∙ e))
      go (full j l d) = absurd (not_free A.rowed (node-meets P.climbs.order l d).y_lt e)

  -- as the second: w is half, and r is not its first row; then w is full, and
  -- node k
  module _ (e : second a w ≡ free) where
    -- w is an inner node that is not full
    pub second-room : k < n - 2
    second-room = omega (
      arith,
      P.climbs.counted,
      full_fewer n a A.inner (arrive_node A) e,
    )

    abbrev b : List ℕ
    b = came_second a w r k

    S : AfterSecond a b w r k
    S = after-second r (arrive_room A)
        (omega (arith, second-room, P.climbs.room, A.rowed.ordered.few))

    K : Keeps n t a b k w
    K = record {
      beside = S.beside;
      apart = not_node A e;
      givens = given-kept A.rowed S.beside e (inr S.first_w);
    }

    not_last : (j : ℕ) → j < k → node b j ≡ w → ⊥
    not_last j l d = not_node A e j l (sym (S.beside.places j l) ∙ d)

    -- w is the last node
    or_last : {Q : ℕ → Type 0} → ((j : ℕ) → j < k → Q j) → Q k → (j : ℕ) → j < suc k → Q j
    or_last {Q} f p j l = go (eq-or-lt_of_le (omega arith))
      where
        go : (j ≡ k) ⊎ (j < k) → Q j
        go (inl d) = rw d p
        go (inr m) = f j m

    -- no other is w
    once_more : (h j : ℕ) → h < suc k → j < suc k → node b h ≡ node b j → h ≡ j
    once_more h j lh lj x = go (eq-or-lt_of_le (omega arith)) (eq-or-lt_of_le (omega arith))
      where
        go : (h ≡ k) ⊎ (h < k) → (j ≡ k) ⊎ (j < k) → h ≡ j
        go (inl c) (inl d) = c ∙ sym d
        go (inl c) (inr d) = absurd (not_last j d (sym x ∙ ap (node b) c ∙ S.node_k))
        go (inr c) (inl d) = absurd (not_last h c (x ∙ ap (node b) d ∙ S.node_k))
        go (inr c) (inr d) = (order-kept P K).once h j c d x

    module _ (came : first a w ≡ free → ⊥) where
      -- the row that is left at w leads on, the first row and r lie behind: r is
      -- not the first row, as that one was taken before
      rows_at : Meet n t w (last_row a w r) (first a w) r
          × Taken a P.low P.given (far t (first a w) w) (first a w)
      rows_at = go (arrive_state A)
        where
          go : State n t a P.low k P.given w → Meet n t w (last_row a w r) (first a w) r
              × Taken a P.low P.given (far t (first a w) w) (first a w)
          go (fresh x y z M m f s) = absurd (came f)
          go (half x y z M m f s T) =
              rw (f, m) (
                meet_left M P.row (arrive_across A).at (λ d.
                    P.not_before (rw (sym d, arrive_back A) at T)),
                T,
              )
          go (full j l d) = absurd (not_node A e j l d)

      order_more : Order n t b (suc i) (suc k)
      order_more =
          let O = order-kept P K in
          record {
            inner = or_last O.inner (rw S.node_k (A.inner, arrive_node A));
            once = once_more;
            meets = or_last O.meets
                (rw (S.node_k, S.up_w, S.first_w, S.second_w) rows_at.0);
            behind_first = or_last O.behind_first
                (rw (S.node_k, S.first_w) (taken-kept P K rows_at.1));
            behind_second = or_last O.behind_second
                (rw (S.node_k, S.second_w, arrive_back A) (row_kept P K));
          }

      pub come_second : i < n → At n t (came_second a w r k) i (suc k) w (last_row a w r)
      come_second li = record {
        low = suc i;
        given = k;
        climbs = record {
          room = S.beside.len ∙ P.climbs.room;
          taxon = taxon-kept P K A.inner;
          order = order_more;
          state = state-kept P K (omega arith) (λ l. full k (le_refl (suc k)) S.node_k);
          counted = full_more n a b A.inner (arrive_node A) e
              (λ d. not_free A.rowed P.row (sym S.second_w ∙ d)) S.beside.seconds
              ∙ ap suc P.climbs.counted;
          taxa-given = taxa-kept P K here;
          nodes-given = nodes-kept P K here;
        };
        low_le = le_refl (suc i);
        given_le = omega arith;
        given-near = le_refl (suc k);
        row = rows_at.0.x_lt;
        touch = rows_at.0.x_at;
        taken = inr (k, le_refl (suc k), S.node_k, S.up_w);
        not_before = before;
        other_taxa = λ u q lu lq tq. inr lu;
        other_nodes = or_last (λ j l. inr l) (inl (S.node_k, S.up_w));
      }
        where
          here : Given n t b v r
          here = inr (rw (sym A.to) (A.inner, inr S.second_w))

          before : Taken b (suc i) k w (last_row a w r) → ⊥
          before (inl h) = omega (arith, h.1, A.inner)
          before (inr h) = not_last h.0 h.1 h.2
