-- What each step of the reader comes to in the outermost group. Assumes
-- nothing.
use mathlib.Core.Path.{◌≡◌, refl, sym, ap, ap₂, ◌∙◌, subst}
use mathlib.Core.Logic.{◌⊎◌, inl, inr}
use mathlib.Core.Bool.{true, false}
use mathlib.Core.List.{List}
use Prim.Native.Nat.{ℕ, ◌+◌, ◌*◌, ◌≤◌, ◌<◌}
use native.Mathlib.Omega.{arith}
use lib.Arith.{lt_of_le-ne}
use lib.ListN.{take}
use borrow.Author.Tests.{lt-ltb, le-ltb}
use Rattle.taxa.specs.Most.{most}
use Rattle.taxa.specs.Sets.{size}
use Rattle.taxa.proofs.Sizes.{size_none, size_le}
use Rattle.tree.specs.Tree.{rows}
use Rattle.newick_grammar.specs.Newick.{Outermost, NoTree, opens, comma, closes}
use Rattle.newick_grammar.specs.Numbers.{groups, node, join, with_rows, blank, smaller, larger}
use Rattle.newick_grammar.specs.Numbers.{table}
use Rattle.newick_grammar.proofs.Valid.{node_lt, last-larger}
use Rattle.std.specs.Prelude.{Result, Ok, Err}
use Rattle.newick_labels.specs.declared.NotNewick.{NotNewick}
use Rattle.newick_members.specs.declared.Cursor.{Cursor}
use Rattle.newick_members.specs.Between.{mark, Slot, here, Past, Closing, ahead, Ready, Read}
use Rattle.newick_outer.specs.Between.{One, Two, EndIs, ParsedIs}
use Rattle.newick_members.proofs.Members.{below_n, mark-within, mark-size}
use Rattle.newick_outer.proofs.OuterLaws.{first_slot, no_first_comma, second-slot}
use Rattle.newick_outer.proofs.OuterLaws.{no_two_close, two_closing, no_second_comma}
use Rattle.newick_outer.proofs.OuterLaws.{third-slot, no_three_close, three_closing}
use Rattle.newick_outer.proofs.OuterLaws.{no_semicolon, more_after, whole-text}
use Rattle.newick_members.proofs.StageLaws.{size_is}
use Rattle.newick_outer.proofs.Starts.{take-join, take-rows, take-blank}

-- ---- the end of the text
end_parsed : {n : ℕ} {s : List ℕ} {p : ℕ} {o : Outermost} → Closing n s p o → (t : List ℕ)
    → take (2 * rows n) t ≡ table n o → (r : Result (Unit {0}) NotNewick) → EndIs s p r
    → ParsedIs n s t r
end_parsed {o = o} C t e (Ok u) (h, l) = (o, whole-text C h l, e)
end_parsed {n} {s} C t e (Err q) (inl (i, h)) = subst (NoTree n s) (sym i) (no_semicolon C h)
end_parsed {n} {s} C t e (Err q) (inr (i, h, l)) =
    subst (NoTree n s) (sym i) (more_after C h l)

module _ {n : ℕ} (big : 4 ≤ n) (few : n ≤ most) {s : List ℕ} where
  -- ---- the first member
  module _ {t : List ℕ} (p : t ≡ blank most) (h : here s 0 opens ≡ true) where
    pub first_ready : Ready n s (record { at = 1; next = n; used = 0 }) 1 true
    first_ready = record {
      slot = first_slot few s h big;
      from = omega arith;
      numbers = omega (arith, size_none n);
    }

    pub one_read : {t₁ : List ℕ} {c : Cursor} {x : ℕ}
        → Read n s (record { at = 1; next = n; used = 0 }) 1 true t t₁ c x → One n s t₁ c x
    one_read L = record {
      opened = h;
      first = L.member;
      past = L.past;
      next = L.next;
      used = L.used;
      named = L.named;
      written = L.written ∙ ap (with_rows L.member n) p;
    }

  -- ---- the second member
  module _ {t : List ℕ} {c : Cursor} {x : ℕ} (O : One n s t c x) where
    pub no_second : here s c.at comma ≡ false → NoTree n s c.at
    no_second e = no_first_comma few s O.opened O.past e

    module _ (k : here s c.at comma ≡ true) where
      pub second_ready : Ready n s (ahead c) 0 true
      second_ready = record {
        slot = subst (λ (u : ℕ). Slot n s (c.at + 1) u 0 true) (sym O.used)
            (second-slot few s O.opened O.past k);
        from = omega (arith, O.next);
        numbers = omega (
          arith,
          O.next,
          ap (size n) O.used ∙ mark-size O.past.fits,
        );
      }

      pub two-read : {t₁ : List ℕ} {d : Cursor} {y : ℕ}
          → Read n s (ahead c) 0 true t t₁ d y → Two n s t₁ d x y
      two-read {d = d} Q = record {
        opened = O.opened;
        first = O.first;
        place = c.at;
        past_first = O.past;
        parted = k;
        second = Q.member;
        past = subst
            (λ (u : ℕ). Past n s (c.at + 1) u 0 true Q.member d.at)
            O.used Q.past;
        next = Q.next ∙ ap (λ (i : ℕ). i + groups Q.member) O.next;
        used = Q.used ∙ ap (mark Q.member) O.used;
        named-first = O.named;
        named = Q.named ∙ ap (node Q.member) O.next;
        written = Q.written ∙ ap₂ (with_rows Q.member) O.next
            O.written;
      }

  module _ {t : List ℕ} {c : Cursor} {x y : ℕ} (T : Two n s t c x y) where
    both_size : size n c.used ≡ size n (mark T.second (mark T.first 0))
    both_size = ap (size n) T.used

    size_both : size n c.used ≡ groups T.first + groups T.second + 2
    size_both = omega (
      arith,
      both_size,
      mark-size T.past.fits,
      mark-size T.past_first.fits,
      size_none n,
    )

    x_low : x < n + groups T.first
    x_low = omega (
      arith,
      T.named-first,
      node_lt n T.first n (below_n T.past_first.fits) (omega arith),
    )

    y_low : y < c.next
    y_low = omega (
      arith,
      T.named,
      T.next,
      node_lt n T.second (n + groups T.first) (below_n T.past.fits) (omega arith),
    )

    counted : size most c.used ≡ size n c.used
    counted = subst (λ (u : ℕ). size most u ≡ size n u) (sym T.used)
        (size_is (mark T.second (mark T.first 0)) few (mark-within T.past.fits))

    pub some_left : (size most c.used ≡ n → ⊥) → size n c.used < n
    some_left h = lt_of_le-ne (size_le n c.used) (λ q. h (counted ∙ q))

    -- ---- two members with all taxa
    module _ (all : size most c.used ≡ n) where
      none : size n (mark T.second (mark T.first 0)) ≡ n
      none = sym both_size ∙ sym counted ∙ all

      pub no_end : here s c.at closes ≡ false → NoTree n s c.at
      no_end e = no_two_close few s T.opened T.past_first T.parted T.past none e

      -- the larger of the two nodes is the last
      ends : ((x < y) × (y ≡ rows n)) ⊎ ((y < x) × (x ≡ rows n))
      ends = rw (T.named, T.named-first)
          (last-larger n T.first T.second big (below_n T.past_first.fits)
          (below_n T.past.fits) (omega (arith, size_both, counted, all)))

      smaller-low : smaller x y < rows n
      smaller-low = go ends
        where
          go : ((x < y) × (y ≡ rows n)) ⊎ ((y < x) × (x ≡ rows n)) → smaller x y < rows n
          go (inl (l, e)) = rw (lt-ltb x y l) (omega (arith, l, e))
          go (inr (l, e)) = rw (le-ltb x y (omega (arith, l))) (omega (arith, l, e))

      pub join-room : (smaller x y < rows most) × (x < 256) × (y < 256)
      join-room = (
        omega (arith, smaller-low, few),
        omega (arith, x_low, size_both, counted, all, few),
        omega (arith, y_low, T.next, size_both, counted, all, few),
      )

      pub two_parsed : (e : here s c.at closes ≡ true) {u : List ℕ}
          → u ≡ join (smaller x y) (larger x y) t → (r : Result (Unit {0}) NotNewick)
          → EndIs s (c.at + 1) r → ParsedIs n s u r
      unfolding table
      two_parsed e {u} q =
          end_parsed
          (two_closing few s T.opened T.past_first T.parted T.past none e)
          u (rw (
            q,
            T.written,
            T.named,
            T.named-first,
            take-join,
            take-rows,
            take-rows,
            take-blank few,
          ))

    -- ---- three members
    module _ (left : size n c.used < n) where
      some : size n (mark T.second (mark T.first 0)) < n
      some = omega (arith, left, both_size)

      pub no_third : here s c.at comma ≡ false → NoTree n s c.at
      no_third e =
          no_second_comma few s T.opened T.past_first T.parted T.past some e

      pub third_ready : here s c.at comma ≡ true → Ready n s (ahead c) 0 false
      third_ready k = record {
        slot = subst (λ (u : ℕ). Slot n s (c.at + 1) u 0 false)
            (sym T.used)
            (third-slot few s T.opened T.past_first T.parted T.past some k);
        from = omega (arith, T.next);
        numbers = omega (arith, T.next, size_both);
      }

-- the third member is read, the first two up to a comma
pub record Three (n : ℕ) (s t : List ℕ) (c : Cursor) (x y z : ℕ) : Type 0 where
  pub table : List ℕ
  pub between : Cursor
  pub both : Two n s table between x y
  pub left : size n between.used < n
  pub parted : here s between.at comma ≡ true
  pub third : Read n s (ahead between) 0 false table t c z

module _ {n : ℕ} {s t : List ℕ} {c : Cursor} {x y z : ℕ} (big : 4 ≤ n) (few : n ≤ most)
    (H : Three n s t c x y z) where
  past-third : Past n s (H.between.at + 1) (mark H.both.second (mark H.both.first 0)) 0
      false H.third.member c.at
  past-third = subst
      (λ (u : ℕ). Past n s (H.between.at + 1) u 0 false H.third.member c.at)
      H.both.used H.third.past

  pub no_last : here s c.at closes ≡ false → NoTree n s c.at
  no_last e =
      let T = H.both in
      no_three_close few s T.opened T.past_first T.parted T.past (some big few T H.left)
      H.parted past-third e

  -- the outermost group is the last node
  last-node : c.next ≡ rows n
  last-node = omega (
    arith,
    H.third.next,
    H.both.next,
    size_both big few H.both,
    H.third.past.fits.full refl,
  )

  z_low : z < c.next
  z_low = omega (
    arith,
    H.third.named,
    H.third.next,
    node_lt n H.third.member H.between.next (below_n H.third.past.fits)
        (omega (arith, H.both.next)),
  )

  -- each of the three rows has its place in the table
  fits-row : {v : ℕ} → v < c.next → (v < rows most) × (c.next < 256)
  fits-row h = (omega (arith, h, last-node, few), omega (arith, last-node, few))

  pub x_room : (x < rows most) × (c.next < 256)
  x_room = fits-row (omega (arith, x_low big few H.both, H.third.next, H.both.next))

  pub y_room : (y < rows most) × (c.next < 256)
  y_room = fits-row (omega (arith, y_low big few H.both, H.third.next))

  pub z_room : (z < rows most) × (c.next < 256)
  z_room = fits-row z_low

  pub three_parsed : here s c.at closes ≡ true → {u : List ℕ}
      → u ≡ join z c.next (join y c.next (join x c.next t)) → (r : Result (Unit {0}) NotNewick)
      → EndIs s (c.at + 1) r → ParsedIs n s u r
  unfolding table
  three_parsed e {u} q =
      let T = H.both in
      let Q = H.third in
      end_parsed
      (three_closing few s T.opened T.past_first T.parted T.past
      (some big few T H.left) H.parted past-third e)
      u (rw (
        q,
        Q.written,
        Q.named,
        Q.next,
        T.next,
        T.named,
        T.named-first,
        T.written,
        take-join,
        take-join,
        take-join,
        take-rows,
        take-rows,
        take-rows,
        take-blank few,
      ))
