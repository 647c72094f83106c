-- What each byte says at a slot: it ends the text, begins a label or a group,
-- or is the first at which no tree goes on. Assumes nothing.
use mathlib.Core.Path.{◌≡◌, refl, sym, ap, ◌∙◌, subst}
use mathlib.Core.Logic.{◌⊎◌, inl, inr}
use mathlib.Core.Bool.{Bool, true, false, true≢false}
use mathlib.Core.List.{List, ◌∷◌, ◌++◌, append_assoc, head-eq_of_cons-eq, tail-eq_of_cons-eq}
use Prim.Native.Nat.{ℕ, suc, ◌+◌, ◌-◌, ◌≤◌, ◌<◌}
use native.Mathlib.Omega.{arith}
use lib.ListN.{length, take, drop, get_or, take-append-drop}
use lib.Seq.{drop-cons}
use borrow.Author.Tests.{eq-eqb}
use Rattle.taxa.specs.Most.{most}
use Rattle.taxa.specs.Sets.{has, size}
use Rattle.lines.specs.Lines.{decimal}
use Rattle.newick_labels.specs.Between.{Stop, Found, Missed}
use Rattle.newick_grammar.specs.Newick.{Member, taxon, group, text, times, IsTree, GoesOn, NoTree}
use Rattle.newick_grammar.specs.Newick.{opens}
use Rattle.newick_grammar.specs.Newick.{comma, closes}
use Rattle.newick_grammar.specs.Numbers.{groups}
use Rattle.newick_members.specs.Between.{mark, Fits, allowed, Over, Onward, Slot, here, Past}
use Rattle.newick_members.proofs.Members.{below, mark-within, mark-size, fits_left}
use Rattle.newick_members.proofs.Members.{fits-right, fits-group, allowed-fits, fits-allowed}
use Rattle.newick_members.proofs.Members.{fill, label_first, over_stop, stop_at, next_stop}
use Rattle.newick_members.proofs.Members.{next-at, settled, text-some}
use Rattle.newick_members.proofs.Places.{Agrees, byte, ended, as_tree, stuck, expect}
use Rattle.newick_members.proofs.Places.{here_in, here_step, over_agrees, from_on}

module _ {n : ℕ} (few : n ≤ most) {s : List ℕ} {at u m : ℕ} {o : Bool} (S : Slot n s at u m o) where
  -- some member goes on
  goes : GoesOn n (take at s)
  goes =
      let f = fill n u m o S.within S.room S.last in
      let g = S.fills f.0 f.1 in
      (text f.0 g.0, g.1)

  -- the text ends here
  pub no_more : length s ≤ at → NoTree n s at
  no_more h = stuck S.inside goes (λ x a t. no x a (S.settles x t))
    where
      no : (x : List ℕ) → Agrees s at x → Onward n u m o x → ⊥
      no x (byte l y e) q = absurd (omega (arith, h, l))
      no x (ended l e) q = text-some q.member q.rest (below few q.fits)
          (sym e ∙ q.is)

  -- no label begins with a parenthesis
  no_taxon : (d : ℕ) (w y : List ℕ) → Fits n u m o (taxon d)
      → opens ∷ y ≡ text (taxon d) w → ⊥
  unfolding text times
  no_taxon d w y f e =
      let l = label_first d w (below few f d (rw (eq-eqb d d refl) (omega arith))) in
      omega (arith, l.3, head-eq_of_cons-eq (e ∙ l.2))

  -- a group for which too few taxa are left
  pub too_deep : at < length s → get_or s at 0 ≡ opens → n < size n u + m + 2
      → NoTree n s at
  unfolding groups
  too_deep h b r' = stuck S.inside goes
      (λ x a t. no x a (S.settles x t))
    where
      no : (x : List ℕ) → Agrees s at x → Onward n u m o x → ⊥
      no x (ended l e) q = absurd (omega (arith, h, l))
      no x (byte l y e) q = go q.member q.fits
          (ap (λ (c : ℕ). c ∷ y) (sym b) ∙ sym e ∙ q.is)
        where
          go : (t : Member) → Fits n u m o t → opens ∷ y ≡ text t q.rest → ⊥
          go (taxon d) f i = no_taxon d q.rest y f i
          go (group l r) f i = omega (arith, r', f.room)

  -- ---- a label
  taxon-on : (d p : ℕ) (w : List ℕ) → take p s ++ w ≡ take at s ++ decimal d
      → (v : List ℕ) × IsTree n (take at s ++ text (taxon d) v)
      → GoesOn n (take p s)
  unfolding text
  taxon-on d p w e (v, t) = (
    w ++ v,
    as_tree n (sym (append_assoc (take at s) (decimal d) v)
        ∙ ap (λ (l : List ℕ). l ++ v) (sym e) ∙ append_assoc (take p s) w v) t,
  )

  module _ (h : at < length s) (b : get_or s at 0 ≡ opens → ⊥) where
    is-taxon : (y : List ℕ) → IsTree n (take at s ++ (get_or s at 0 ∷ y))
        → (d : ℕ) × (w : List ℕ) × (has (allowed n u o) d ≡ true) × Stop w
        × (get_or s at 0 ∷ y ≡ decimal d ++ w)
    unfolding text
    is-taxon y t =
        let q = S.settles (get_or s at 0 ∷ y) t in
        go q.member q.fits q.rest (next_stop q.rest q.next)
        q.is
      where
        go : (t : Member) → Fits n u m o t → (w : List ℕ) → Stop w
            → get_or s at 0 ∷ y ≡ text t w
            → (d : ℕ) × (w : List ℕ) × (has (allowed n u o) d ≡ true) × Stop w
            × (get_or s at 0 ∷ y ≡ decimal d ++ w)
        go (taxon d) f w k e = (d, w, fits-allowed f, k, e)
        go (group l r) f w k e = absurd (b (head-eq_of_cons-eq e))

    pub bad_label : {p : ℕ} → Missed s at (allowed n u o) p → NoTree n s p
    bad_label {p} M = record {
      none = λ t. whole
          (is-taxon (drop (suc at) s)
          (as_tree n (sym (take-append-drop at s)
          ∙ ap (λ (l : List ℕ). take at s ++ l) (drop-cons s at 0 h)) t));
      inside = M.inside;
      before = goes_to M.before;
      there = λ l (w, t). later l w t;
    }
      where
        whole : (d : ℕ) × (w : List ℕ) × (has (allowed n u o) d ≡ true) × Stop w
            × (get_or s at 0 ∷ drop (suc at) s ≡ decimal d ++ w)
            → ⊥
        whole (d, w, i, j, e) =
            M.none d w i (λ p q. j)
            (sym (take-append-drop at s)
            ∙ ap (λ (l : List ℕ). take at s ++ l) (drop-cons s at 0 h ∙ e))

        goes_to : (p ≡ at) ⊎ ((d : ℕ) × (w : List ℕ) × (has (allowed n u o) d ≡ true)
            × (take p s ++ w ≡ take at s ++ decimal d))
            → GoesOn n (take p s)
        goes_to (inl e) = subst (λ (i : ℕ). GoesOn n (take i s)) (sym e) goes
        goes_to (inr (d, w, i, e)) = taxon-on d p w e
            (S.fills (taxon d) (allowed-fits S.within S.room i))

        later : p < length s → (x : List ℕ) → IsTree n (take (suc p) s ++ x) → ⊥
        later l x t =
            let k : at + (p - at) ≡ p = omega (arith, M.after) in
            let q = from_on s x at (p - at) p k l in
            let f = is-taxon q.0 (as_tree n q.1 t) in
            M.there l x f.0 f.1 f.2 (λ i j. f.3)
            (q.1 ∙ ap (λ (z : List ℕ). take at s ++ z) f.4)

  pub past-taxon : {d p : ℕ} → Found s at (allowed n u o) d p
      → Past n s at u m o (taxon d) p
  unfolding text
  past-taxon f = record {
    fits = allowed-fits S.within S.room f.among;
    is = f.is;
    moved = f.moved;
    inside = f.inside;
    over = f.ends;
  }

  -- ---- a group
  pub record Opened (x : List ℕ) : Type 0 where
    pub left : Member
    pub right : Member
    pub rest : List ℕ
    pub fits : Fits n u m o (group left right)
    pub is : x ≡ text left (comma ∷ text right (closes ∷ rest))

  module _ (h : here s at opens ≡ true) where
    opened : (x : List ℕ) → IsTree n (take (at + 1) s ++ x) → Opened x
    unfolding text
    opened x t =
        let q = S.settles (opens ∷ x)
        (as_tree n (here_step s at opens h x) t) in
        go q.member q.rest q.fits q.is
      where
        go : (t : Member) (w : List ℕ) → Fits n u m o t → opens ∷ x ≡ text t w
            → Opened x
        go (group l r) w f e = record {
          left = l;
          right = r;
          rest = w;
          fits = f;
          is =
              tail-eq_of_cons-eq e;
        }
        go (taxon d) w f e = absurd (no_taxon d w x f e)

    to_group : (l r : Member) → Fits n u m o (group l r)
        → (w : List ℕ) × IsTree n (take (at + 1) s ++ text l (comma ∷ text r (closes ∷ w)))
    unfolding text
    to_group l r f =
        let g = S.fills (group l r) f in (
          g.0,
          as_tree n (sym (here_step s at opens h (text l (comma ∷ text r (closes ∷ g.0)))))
              g.1,
        )

    -- the slot of the first member
    pub left_slot : size n u + m + 2 ≤ n → Slot n s (at + 1) u (suc m) true
    left_slot r = record {
      inside = omega (arith, here_in s at opens h);
      within = S.within;
      room = omega (arith, r);
      last = λ e. absurd (true≢false e);
      settles = λ x t. let q = opened x t in record {
        member = q.left;
        rest = comma ∷ text q.right (closes ∷ q.rest);
        next = next-at comma _ refl;
        fits = fits_left q.fits;
        is = q.is;
      };
      fills = λ l f.
          let g = fill n (mark l u) m o (mark-within f) (omega (arith, mark-size f, f.room))
          S.last in
          let k = to_group l g.0 (fits-group f g.1) in
          (comma ∷ text g.0 (closes ∷ k.0), k.1);
    }

    module _ {l : Member} {p : ℕ} (L : Past n s (at + 1) u (suc m) true l p) where
      -- a tree goes on after the first member as this group does
      after_left : (x : List ℕ) → Over l x → IsTree n (take p s ++ x)
          → (r : Member) × (w : List ℕ) × Fits n (mark l u) m o r
          × (x ≡ comma ∷ text r (closes ∷ w))
      after_left x v t =
          let q = opened (text l x) (as_tree n (L.is x) t) in
          let e = settled l q.left x
          (comma ∷ text q.right (closes ∷ q.rest))
          (below few L.fits) (below few (fits_left q.fits)) v (stop_at comma _ refl)
          q.is in
          let f : Fits n u m o (group l q.right) = subst
          (λ (k : Member). Fits n u m o (group k q.right)) (sym e.0)
          q.fits in
          (q.right, q.rest, fits-right f, e.1)

      pub no_comma : here s p comma ≡ false → NoTree n s p
      no_comma e =
          let g = fill n (mark l u) m o (mark-within L.fits)
          (omega (arith, mark-size L.fits, L.fits.room)) S.last in
          let k = to_group l g.0 (fits-group L.fits g.1) in
          expect L.inside comma (
            comma ∷ text g.0 (closes ∷ k.0),
            as_tree n (sym (L.is (comma ∷ text g.0 (closes ∷ k.0)))) k.1,
          )
          (λ x a t. let q = after_left x (over_agrees l L.over a) t in
          (text q.0 (closes ∷ q.1), q.3)) e

      module _ (c : here s p comma ≡ true) where
        after-comma : (x : List ℕ) → IsTree n (take (p + 1) s ++ x)
            → (r : Member) × (w : List ℕ) × Fits n (mark l u) m o r × (x ≡ text r (closes ∷ w))
        after-comma x t =
            let q = after_left (comma ∷ x)
            (over_stop l (comma ∷ x) (stop_at comma x refl))
            (as_tree n (here_step s p comma c x) t) in
            (q.0, q.1, q.2, tail-eq_of_cons-eq q.3)

        to_right : (r : Member) → Fits n (mark l u) m o r
            → (w : List ℕ) × IsTree n (take (p + 1) s ++ text r (closes ∷ w))
        to_right r f =
            let k = to_group l r (fits-group L.fits f) in (
              k.0,
              as_tree n (sym (here_step s p comma c (text r (closes ∷ k.0))
                  ∙ L.is (comma ∷ text r (closes ∷ k.0)))) k.1,
            )

        -- the slot of the second member
        pub right-slot : Slot n s (p + 1) (mark l u) m o
        right-slot = record {
          inside = omega (arith, here_in s p comma c);
          within = mark-within L.fits;
          room = omega (arith, mark-size L.fits, L.fits.room);
          last = S.last;
          settles = λ x t. let q = after-comma x t in record {
            member = q.0;
            rest = closes ∷ q.1;
            next = next-at closes _ refl;
            fits = q.2;
            is = q.3;
          };
          fills = λ r f. let k = to_right r f in (closes ∷ k.0, k.1);
        }

        module _ {r : Member} {q : ℕ} (R : Past n s (p + 1) (mark l u) m o r q) where
          pub no_close : here s q closes ≡ false → NoTree n s q
          no_close e =
              let k = to_right r R.fits in
              expect R.inside closes
              (closes ∷ k.0, as_tree n (sym (R.is (closes ∷ k.0))) k.1)
              (λ x a t.
              let f = after-comma (text r x) (as_tree n (R.is x) t) in
              let g = settled r f.0 x (closes ∷ f.1) (below few R.fits) (below few f.2)
              (over_agrees r R.over a) (stop_at closes _ refl)
              f.3 in
              (f.1, g.1)) e

          pub past-group : here s q closes ≡ true
              → Past n s at u m o (group l r) (q + 1)
          unfolding text
          past-group e = record {
            fits = fits-group L.fits R.fits;
            is = λ x. here_step s q closes e x ∙ R.is (closes ∷ x)
                ∙ here_step s p comma c (text r (closes ∷ x))
                ∙ L.is (comma ∷ text r (closes ∷ x))
                ∙ here_step s at opens h (text l (comma ∷ text r (closes ∷ x)));
            moved = omega (arith, L.moved, R.moved);
            inside = omega (arith, here_in s q closes e);
            over = tt;
          }
