-- The outermost group: two members or three, the semicolon and the end.
-- Assumes nothing.
use mathlib.Core.Path.{◌≡◌, refl, sym, ap, ◌∙◌, subst}
use mathlib.Core.Bool.{Bool, true, false, true≢false}
use mathlib.Core.List.{List, [], ◌∷◌, ◌++◌, append-nil, tail-eq_of_cons-eq, cons-ne-nil}
use Prim.Native.Nat.{ℕ, suc, ◌+◌, ◌≤◌, ◌<◌}
use native.Mathlib.Omega.{arith}
use lib.Arith.{lt_of_le-ne}
use lib.Dec.{eqb}
use lib.ListN.{length, take}
use lib.Seq.{take_all}
use borrow.Author.Tests.{eqb-true, eqb-false}
use Rattle.taxa.specs.Most.{most}
use Rattle.taxa.specs.Sets.{tally, size}
use Rattle.taxa.proofs.Sets.{has-none}
use Rattle.taxa.proofs.Sizes.{size_none}
use Rattle.newick_labels.specs.Between.{Stop}
use Rattle.newick_grammar.specs.Newick.{Member, taxon, group, Outermost, two, three, text, whole}
use Rattle.newick_grammar.specs.Newick.{times}
use Rattle.newick_grammar.specs.Newick.{times_in, EachOnce, Stands, IsTree, GoesOn, NoTree, opens}
use Rattle.newick_grammar.specs.Newick.{comma}
use Rattle.newick_grammar.specs.Newick.{closes, semicolon}
use Rattle.newick_grammar.specs.Numbers.{groups}
use Rattle.newick_grammar.proofs.Labels.{two_total, three_total}
use Rattle.newick_members.specs.Between.{mark, Fits, Next, Over, Slot, here, Past, Closing}
use Rattle.newick_members.proofs.Members.{below, mark-within, mark-size, fits_left, fits-right}
use Rattle.newick_members.proofs.Members.{fits-group, fits_loose, fits_each, each_fits, fill}
use Rattle.newick_members.proofs.Members.{over_stop, stop_at, next-at, settled}
use Rattle.newick_members.proofs.Places.{Agrees, byte, ended, as_tree, stuck, expect, here_in}
use Rattle.newick_members.proofs.Places.{here_step, over_agrees}

-- ---- which members a tree has
module _ {n : ℕ} {a b : Member} where
  two_fits : EachOnce n (two a b) → Fits n 0 0 false (group a b)
  unfolding times_in times
  two_fits h = each_fits h

  fits-two : Fits n 0 0 false (group a b) → EachOnce n (two a b)
  unfolding times_in times
  fits-two f = fits_each f

  module _ {c : Member} where
    three-fits : EachOnce n (three a b c)
        → Fits n 0 0 false (group (group a b) c)
    unfolding times_in times
    three-fits h = each_fits h

    fits-three : Fits n 0 0 false (group (group a b) c)
        → EachOnce n (three a b c)
    unfolding times_in times
    fits-three f = fits_each f

-- what follows the first member, and what follows the second
pub data AfterFirst (n : ℕ) (a : Member) (x : List ℕ) : Type 0 where
  of_two : (b : Member) → EachOnce n (two a b)
      → x ≡ comma ∷ text b (closes ∷ semicolon ∷ []) → AfterFirst n a x
  of_three : (b c : Member) → EachOnce n (three a b c)
      → x ≡ comma ∷ text b (comma ∷ text c (closes ∷ semicolon ∷ []))
      → AfterFirst n a x

pub data AfterSecond (n : ℕ) (a b : Member) (x : List ℕ) : Type 0 where
  of_two : EachOnce n (two a b) → x ≡ closes ∷ semicolon ∷ []
      → AfterSecond n a b x
  of_three : (c : Member) → EachOnce n (three a b c)
      → x ≡ comma ∷ text c (closes ∷ semicolon ∷ []) → AfterSecond n a b x

-- the first member fits its slot, and the second its own
first_fits : {n : ℕ} {a : Member} {x : List ℕ} → AfterFirst n a x
    → Fits n 0 1 true a
first_fits (of_two b h e) = fits_left (two_fits h)
first_fits (of_three b c h e) =
    fits_loose (omega arith) (fits_left (fits_left (three-fits h)))

second_fits : {n : ℕ} {a b : Member} {x : List ℕ} → AfterSecond n a b x
    → Fits n (mark a 0) 0 true b
second_fits (of_two h e) = fits_loose (omega arith) (fits-right (two_fits h))
second_fits (of_three c h e) =
    fits_loose (omega arith) (fits-right (fits_left (three-fits h)))

third-fits : (n : ℕ) (a b c : Member) → EachOnce n (three a b c)
    → Fits n (mark b (mark a 0)) 0 false c
unfolding mark
third-fits n a b c h = fits-right (three-fits h)

-- each begins with no digit
first_stop : {n : ℕ} {a : Member} {x : List ℕ} → AfterFirst n a x → Stop x
first_stop (of_two b h e) = rw e (stop_at comma _ refl)
first_stop (of_three b c h e) = rw e (stop_at comma _ refl)

second_stop : {n : ℕ} {a b : Member} {x : List ℕ} → AfterSecond n a b x → Stop x
second_stop (of_two h e) = rw e (stop_at closes _ refl)
second_stop (of_three c h e) = rw e (stop_at comma _ refl)

module _ {n : ℕ} (few : n ≤ most) (s : List ℕ) where
  -- ---- the first byte
  pub no_open : 4 ≤ n → here s 0 opens ≡ false → NoTree n s 0
  unfolding whole groups
  no_open big e =
      let f = fill n 0 0 false (λ x. omega (arith, ap tally (has-none x)))
      (omega (arith, size_none n, big)) (λ q. refl) in
      expect (omega arith) opens (some f.0 f.1)
      (λ x a t. begins x t.0 t.1.is) e
    where
      begins : (x : List ℕ) (o : Outermost) → x ≡ whole o
          → (y : List ℕ) × (x ≡ opens ∷ y)
      begins x (two a b) i = (text a (comma ∷ text b (closes ∷ semicolon ∷ [])), i)
      begins x (three a b c) i =
          (text a (comma ∷ text b (comma ∷ text c (closes ∷ semicolon ∷ []))), i)

      some : (t : Member) → Fits n 0 0 false t → GoesOn n (take 0 s)
      some (taxon d) f = absurd (one (f.full refl))
        where
          one : size n 0 + suc (groups (taxon d)) ≡ n → ⊥
          one q = omega (arith, q, size_none n, big)
      some (group a b) f = (
        whole (two a b),
        (two a b, record { each = fits-two f; is = refl }),
      )

  -- ---- the first member
  module _ (h : here s 0 opens ≡ true) where
    to_two : (a b : Member) → Fits n 0 0 false (group a b)
        → IsTree n (take 1 s ++ text a (comma ∷ text b (closes ∷ semicolon ∷ [])))
    unfolding whole
    to_two a b f = (two a b, record { each = fits-two f; is = here_step s 0 opens h _ })

    to_three : (a b c : Member) → Fits n 0 0 false (group (group a b) c)
        → IsTree n (take 1 s ++ text a (comma ∷ text b (comma ∷ text c (closes ∷ semicolon ∷ []))))
    unfolding whole
    to_three a b c f = (
      three a b c,
      record { each = fits-three f; is = here_step s 0 opens h _ },
    )

    opened : (x : List ℕ) → IsTree n (take 1 s ++ x)
        → (a : Member) × (w : List ℕ) × (x ≡ text a w) × AfterFirst n a w
    unfolding whole
    opened x (o, t) = go o t.each (sym (here_step s 0 opens h x) ∙ t.is)
      where
        go : (o : Outermost) → EachOnce n o → opens ∷ x ≡ whole o
            → (a : Member) × (w : List ℕ) × (x ≡ text a w) × AfterFirst n a w
        go (two a b) k e = (
          a,
          comma ∷ text b (closes ∷ semicolon ∷ []),
          tail-eq_of_cons-eq e,
          of_two b k refl,
        )
        go (three a b c) k e = (
          a,
          comma ∷ text b (comma ∷ text c (closes ∷ semicolon ∷ [])),
          tail-eq_of_cons-eq e,
          of_three b c k refl,
        )

    pub first_slot : 4 ≤ n → Slot n s 1 0 1 true
    first_slot big = record {
      inside = omega (arith, here_in s 0 opens h);
      within = λ x. omega (arith, ap tally (has-none x));
      room = omega (arith, size_none n, big);
      last = λ e. absurd (true≢false e);
      settles = λ x t. let q = opened x t in record {
        member = q.0;
        rest = q.1;
        next = first_next q.0 q.1 q.3;
        fits = first_fits q.3;
        is = q.2;
      };
      fills = λ a f.
          let g = fill n (mark a 0) 0 false (mark-within f)
          (omega (arith, mark-size f, f.room)) (λ e. refl) in (
            comma ∷ text g.0 (closes ∷ semicolon ∷ []),
            to_two a g.0 (fits-group f g.1),
          );
    }
      where
        first_next : (a : Member) (w : List ℕ) → AfterFirst n a w → Next w
        first_next a w (of_two b k e) = rw e (next-at comma _ refl)
        first_next a w (of_three b c k e) = rw e (next-at comma _ refl)

    module _ {a : Member} {p : ℕ} (A : Past n s 1 0 1 true a p) where
      after_first : (x : List ℕ) → Over a x → IsTree n (take p s ++ x)
          → AfterFirst n a x
      after_first x v t =
          let q = opened (text a x) (as_tree n (A.is x) t) in
          let e = settled a q.0 x q.1 (below few A.fits)
          (below few (first_fits q.3)) v (first_stop q.3) q.2 in
          subst (λ (y : List ℕ). AfterFirst n a y) (sym e.1)
          (subst (λ (m : Member). AfterFirst n m q.1) (sym e.0) q.3)

      -- after the first member a comma follows
      pub no_first_comma : here s p comma ≡ false → NoTree n s p
      no_first_comma e =
          let g = fill n (mark a 0) 0 false (mark-within A.fits)
          (omega (arith, mark-size A.fits, A.fits.room)) (λ z. refl) in
          expect A.inside comma (
            comma ∷ text g.0 (closes ∷ semicolon ∷ []),
            as_tree n (sym (A.is _))
                (to_two a g.0 (fits-group A.fits g.1)),
          )
          (λ x c t. comma-first x (after_first x (over_agrees a A.over c) t)) e
        where
          comma-first : (x : List ℕ) → AfterFirst n a x
              → (y : List ℕ) × (x ≡ comma ∷ y)
          comma-first x (of_two b k i) = (text b (closes ∷ semicolon ∷ []), i)
          comma-first x (of_three b c k i) = (text b (comma ∷ text c (closes ∷ semicolon ∷ [])), i)

      -- ---- the second member
      module _ (c : here s p comma ≡ true) where
        passed : (x : List ℕ)
            → take (p + 1) s ++ x ≡ take 1 s ++ text a (comma ∷ x)
        passed x = here_step s p comma c x ∙ A.is (comma ∷ x)

        between : (x : List ℕ) → IsTree n (take (p + 1) s ++ x)
            → (b : Member) × (w : List ℕ) × (x ≡ text b w) × AfterSecond n a b w
        between x t = go
            (after_first (comma ∷ x) (over_stop a (comma ∷ x) (stop_at comma x refl))
            (as_tree n (here_step s p comma c x) t))
          where
            go : AfterFirst n a (comma ∷ x)
                → (b : Member) × (w : List ℕ) × (x ≡ text b w) × AfterSecond n a b w
            go (of_two b k e) = (b, closes ∷ semicolon ∷ [], tail-eq_of_cons-eq e, of_two k refl)
            go (of_three b d k e) = (
              b,
              comma ∷ text d (closes ∷ semicolon ∷ []),
              tail-eq_of_cons-eq e,
              of_three d k refl,
            )

        -- a second member that fits goes on to a tree of two members or three
        with_two : (b : Member) → Fits n (mark a 0) 0 false b
            → IsTree n (take (p + 1) s ++ text b (closes ∷ semicolon ∷ []))
        with_two b f = as_tree n
            (sym (passed (text b (closes ∷ semicolon ∷ []))))
            (to_two a b (fits-group A.fits f))

        all_three : (b d : Member) → Fits n (mark a 0) 0 true b
            → Fits n (mark b (mark a 0)) 0 false d
            → Fits n 0 0 false (group (group a b) d)
        unfolding mark
        all_three b d f g =
            let S = mark-size f in
            let f1 : Fits n (mark a 0) 1 true b =
            record {
              once = f.once;
              room = omega (arith, S, g.room);
              full = λ e. absurd (true≢false e);
            } in
            let a2 : Fits n 0 2 true a =
            record {
              once = A.fits.once;
              room = omega (arith, mark-size A.fits, f1.room);
              full = λ e. absurd (true≢false e);
            } in
            fits-group (fits-group a2 f1) g

        with_three : (b d : Member) → Fits n (mark a 0) 0 true b
            → Fits n (mark b (mark a 0)) 0 false d
            → IsTree n (take (p + 1) s ++ text b (comma ∷ text d (closes ∷ semicolon ∷ [])))
        with_three b d f g = as_tree n
            (sym (passed (text b (comma ∷ text d (closes ∷ semicolon ∷ [])))))
            (to_three a b d (all_three b d f g))

        -- no taxon is left after it, or some are
        last_fits : (b : Member) → Fits n (mark a 0) 0 true b
            → size n (mark b (mark a 0)) ≡ n → Fits n (mark a 0) 0 false b
        last_fits b f e = record {
          once = f.once;
          room = f.room;
          full = λ z. sym (mark-size f) ∙ e;
        }

        goes_three : (b : Member) → Fits n (mark a 0) 0 true b
            → size n (mark b (mark a 0)) < n
            → (d : Member) × IsTree n
            (take (p + 1) s ++ text b (comma ∷ text d (closes ∷ semicolon ∷ [])))
        goes_three b f h =
            let g = fill n (mark b (mark a 0)) 0 false
            (mark-within f) (omega (arith, h))
            (λ z. refl) in
            (g.0, with_three b g.0 f g.1)

        pub second-slot : Slot n s (p + 1) (mark a 0) 0 true
        second-slot = record {
          inside = omega (arith, here_in s p comma c);
          within = mark-within A.fits;
          room = omega (arith, mark-size A.fits, A.fits.room);
          last = λ e. absurd (true≢false e);
          settles = λ x t. let q = between x t in record {
            member = q.0;
            rest = q.1;
            next = second-next q.0 q.1 q.3;
            fits = second_fits q.3;
            is = q.2;
          };
          fills = λ b f. on b f (eqb (size n (mark b (mark a 0))) n) refl;
        }
          where
            second-next : (b : Member) (w : List ℕ) → AfterSecond n a b w
                → Next w
            second-next b w (of_two k e) = rw e (next-at closes _ refl)
            second-next b w (of_three d k e) = rw e (next-at comma _ refl)

            on : (b : Member) → Fits n (mark a 0) 0 true b → (z : Bool)
                → eqb (size n (mark b (mark a 0))) n ≡ z
                → (w : List ℕ) × IsTree n (take (p + 1) s ++ text b w)
            on b f true e = (closes ∷ semicolon ∷ [], with_two b (last_fits b f (eqb-true _ n e)))
            on b f false e =
                let most : size n (mark b (mark a 0)) ≤ n = omega
                (arith, mark-size f, f.room) in
                let g = goes_three b f (lt_of_le-ne most (eqb-false _ n e)) in
                (comma ∷ text g.0 (closes ∷ semicolon ∷ []), g.1)

        module _ {b : Member} {q : ℕ} (B : Past n s (p + 1) (mark a 0) 0 true b q) where
          after-second : (x : List ℕ) → Over b x → IsTree n (take q s ++ x)
              → AfterSecond n a b x
          after-second x v t =
              let r = between (text b x) (as_tree n (B.is x) t) in
              let e = settled b r.0 x r.1 (below few B.fits)
              (below few (second_fits r.3)) v (second_stop r.3) r.2 in
              subst (λ (y : List ℕ). AfterSecond n a b y) (sym e.1)
              (subst (λ (m : Member). AfterSecond n a m r.1) (sym e.0) r.3)

          sizes : size n (mark b (mark a 0)) ≡ groups a + groups b + 2
          sizes = omega (
            arith,
            mark-size B.fits,
            mark-size A.fits,
            size_none n,
          )

          -- no taxon is left: the group closes
          module _ (none : size n (mark b (mark a 0)) ≡ n) where
            ends-two : (x : List ℕ) → AfterSecond n a b x
                → x ≡ closes ∷ semicolon ∷ []
            ends-two x (of_two k e) = e
            ends-two x (of_three d k e) = absurd
                (omega (arith, three_total n a b d k, sizes, none))

            pub no_two_close : here s q closes ≡ false → NoTree n s q
            no_two_close e =
                expect B.inside closes (
                  closes ∷ semicolon ∷ [],
                  as_tree n (sym (B.is (closes ∷ semicolon ∷ [])))
                      (with_two b (last_fits b B.fits none)),
                )
                (λ x z t. (
                  semicolon ∷ [],
                  ends-two x (after-second x (over_agrees b B.over z) t),
                )) e

            pub two_closing : here s q closes ≡ true
                → Closing n s (q + 1) (two a b)
            unfolding whole
            two_closing e = record {
              inside = omega (arith, here_in s q closes e);
              each = fits-two (fits-group A.fits (last_fits b B.fits none));
              is = here_step s q closes e (semicolon ∷ [])
                  ∙ B.is (closes ∷ semicolon ∷ [])
                  ∙ passed (text b (closes ∷ semicolon ∷ []))
                  ∙ here_step s 0 opens h _;
              only = λ x t. tail-eq_of_cons-eq
                  (ends-two (closes ∷ x) (after-second (closes ∷ x)
                  (over_stop b (closes ∷ x) (stop_at closes x refl))
                  (as_tree n (here_step s q closes e x) t)));
            }

          -- some are left: a third member follows
          module _ (some : size n (mark b (mark a 0)) < n) where
            ends-three : (x : List ℕ) → AfterSecond n a b x
                → (d : Member) × EachOnce n (three a b d)
                × (x ≡ comma ∷ text d (closes ∷ semicolon ∷ []))
            ends-three x (of_two k e) = absurd
                (omega (arith, two_total n a b k, sizes, some))
            ends-three x (of_three d k e) = (d, k, e)

            pub no_second_comma : here s q comma ≡ false → NoTree n s q
            no_second_comma e =
                let g = goes_three b B.fits some in
                expect B.inside comma
                (comma ∷ text g.0 (closes ∷ semicolon ∷ []), as_tree n (sym (B.is _)) g.1)
                (λ x z t. let r = ends-three x
                (after-second x (over_agrees b B.over z) t) in
                (text r.0 (closes ∷ semicolon ∷ []), r.2)) e

            -- ---- the third member
            module _ (k : here s q comma ≡ true) where
              thence : (x : List ℕ) → IsTree n (take (q + 1) s ++ x)
                  → (d : Member) × EachOnce n (three a b d) × (x ≡ text d (closes ∷ semicolon ∷ []))
              thence x t =
                  let r = ends-three (comma ∷ x)
                  (after-second (comma ∷ x) (over_stop b (comma ∷ x) (stop_at comma x refl))
                  (as_tree n (here_step s q comma k x) t)) in
                  (r.0, r.1, tail-eq_of_cons-eq r.2)

              by_three : (d : Member) → Fits n (mark b (mark a 0)) 0 false d
                  → IsTree n (take (q + 1) s ++ text d (closes ∷ semicolon ∷ []))
              by_three d f = as_tree n (sym (here_step s q comma k _ ∙ B.is _))
                  (with_three b d B.fits f)

              pub third-slot : Slot n s (q + 1) (mark b (mark a 0)) 0 false
              third-slot = record {
                inside = omega (arith, here_in s q comma k);
                within = mark-within B.fits;
                room = omega (arith, some);
                last = λ e. refl;
                settles = λ x t. let r = thence x t in record {
                  member = r.0;
                  rest = closes ∷ semicolon ∷ [];
                  next = next-at closes _ refl;
                  fits = third-fits n a b r.0 r.1;
                  is = r.2;
                };
                fills = λ d f. (closes ∷ semicolon ∷ [], by_three d f);
              }

              module _ {d : Member} {r : ℕ}
                  (D : Past n s (q + 1) (mark b (mark a 0)) 0 false d r) where
                ends-here : (x : List ℕ) → Over d x → IsTree n (take r s ++ x)
                    → x ≡ closes ∷ semicolon ∷ []
                ends-here x v t =
                    let f = thence (text d x) (as_tree n (D.is x) t) in
                    (settled d f.0 x (closes ∷ semicolon ∷ []) (below few D.fits)
                    (below few (third-fits n a b f.0 f.1)) v (stop_at closes _ refl) f.2).1

                pub no_three_close : here s r closes ≡ false → NoTree n s r
                no_three_close e =
                    expect D.inside closes
                    (closes ∷ semicolon ∷ [], as_tree n (sym (D.is _)) (by_three d D.fits))
                    (λ x z t. (semicolon ∷ [], ends-here x (over_agrees d D.over z) t)) e

                pub three_closing : here s r closes ≡ true
                    → Closing n s (r + 1) (three a b d)
                unfolding whole
                three_closing e = record {
                  inside = omega (arith, here_in s r closes e);
                  each = fits-three (all_three b d B.fits D.fits);
                  is = here_step s r closes e (semicolon ∷ [])
                      ∙ D.is (closes ∷ semicolon ∷ [])
                      ∙ here_step s q comma k _ ∙ B.is _ ∙ passed _
                      ∙ here_step s 0 opens h _;
                  only = λ x t. tail-eq_of_cons-eq
                      (ends-here (closes ∷ x) (over_stop d (closes ∷ x) (stop_at closes x refl))
                      (as_tree n (here_step s r closes e x) t));
                }

-- ---- the semicolon and the end
module _ {n : ℕ} {s : List ℕ} {p : ℕ} {o : Outermost} (C : Closing n s p o) where
  pub no_semicolon : here s p semicolon ≡ false → NoTree n s p
  no_semicolon e =
      expect C.inside semicolon (
        semicolon ∷ [],
        (o, record { each = C.each; is = C.is }),
      )
      (λ x a t. ([], C.only x t)) e

  module _ (e : here s p semicolon ≡ true) where
    -- any byte after the semicolon is one too many
    pub more_after : p + 1 < length s → NoTree n s (p + 1)
    more_after h = stuck (omega (arith, h))
        ([], (o, record { each = C.each; is = here_step s p semicolon e [] ∙ C.is })) dead
      where
        dead : (x : List ℕ) → Agrees s (p + 1) x
            → IsTree n (take (p + 1) s ++ x) → ⊥
        dead x (ended l i) t = omega (arith, l, h)
        dead x (byte l y i) t = cons-ne-nil _ _
            (sym i ∙ tail-eq_of_cons-eq
            (C.only (semicolon ∷ x) (as_tree n (here_step s p semicolon e x) t)))

    pub whole-text : length s ≤ p + 1 → Stands n s o
    whole-text h = record {
      each = C.each;
      is = sym (append-nil (take (p + 1) s) ∙ take_all (p + 1) s h)
          ∙ here_step s p semicolon e [] ∙ C.is;
    }
