-- What each step of the reader comes to, from what it asked. Assumes nothing.
use Rattle.std.specs.Prelude.{Result, Ok, Err}
use mathlib.Core.Path.{◌≡◌, refl, sym, ap, ap₂, ◌∙◌, subst}
use mathlib.Core.Logic.{◌⊎◌, inl, inr}
use mathlib.Core.Bool.{Bool, true, false, true≢false, ◌&&◌}
use mathlib.Core.List.{List}
use Prim.Native.Nat.{ℕ, suc, ◌+◌, ◌≤◌, ◌<◌}
use native.Mathlib.Numerals.{add-one}
use native.Mathlib.Omega.{arith}
use lib.Dec.{ltb}
use lib.ListN.{length, get_or}
use borrow.Author.Tests.{lt-ltb, ltb-true, ltb-false, eq-eqb}
use Rattle.taxa.specs.Most.{most}
use Rattle.taxa.specs.Sets.{tally, has, size}
use Rattle.taxa.proofs.Bools.{either}
use Rattle.std.proofs.lemmas.Bool.Decides.{nat_tests}
use Rattle.taxa.proofs.Sizes.{size-wide, size_le}
use Rattle.tree.specs.Tree.{rows}
use Rattle.newick_labels.specs.declared.NotNewick.{NotNewick}
use Rattle.newick_grammar.specs.Newick.{taxon, group, NoTree, opens, comma}
use Rattle.newick_grammar.specs.Numbers.{groups, node, join, with_rows}
use Rattle.newick_grammar.proofs.Valid.{node_lt}
use Rattle.newick_members.specs.Between.{mark, Within, Slot, here, Past}
use Rattle.newick_members.specs.Between.{ahead, TakenIs, Ready, Read, GotIs, Closes, ClosedIs}
use Rattle.newick_members.specs.declared.Cursor.{Cursor}
use Rattle.newick_members.specs.declared.Member as code
use Rattle.newick_members.proofs.Members.{below_n, mark-size}
use Rattle.newick_members.proofs.Places.{here_in, here-is}
use Rattle.newick_members.proofs.SlotLaws.{no_more, too_deep, bad_label, past-taxon}
use Rattle.newick_members.proofs.SlotLaws.{left_slot, no_comma, right-slot, no_close}
use Rattle.newick_members.proofs.SlotLaws.{past-group}

-- ---- the taxa that may stand alone
module _ {n : ℕ} (u : ℕ) (few : n ≤ most) (w : Within n u) where
  -- the size that the code counts is the one of the definitions
  pub size_is : size most u ≡ size n u
  size_is = size-wide n most u few (λ i p. below i p (either (ltb i n)))
    where
      below : (i : ℕ) → has u i ≡ true → (ltb i n ≡ true) ⊎ (ltb i n ≡ false) → i < n
      below i p (inl e) = ltb-true i n e
      below i p (inr e) = absurd (omega (arith, w i, ap tally p, ap tally e))

-- what the code counts
pub ruleset counts = (size_is, size_le, nat_tests)

-- ---- a member
module _ {n : ℕ} {s : List ℕ} {c : Cursor} {m : ℕ} {o : Bool} (few : n ≤ most)
    (R : Ready n s c m o) where
  -- a label
  pub got_taxon : here s c.at opens ≡ false → (t : List ℕ) (r : Result code.Member NotNewick)
      → TakenIs n s c o r → GotIs n s c m o t t r
  unfolding with_rows node groups mark
  got_taxon e t (Err p) M = go (ltb c.at (length s)) refl
    where
      not_open : c.at < length s → get_or s c.at 0 ≡ opens → ⊥
      not_open h q = true≢false
          (sym (ap₂ ◌&&◌ (lt-ltb c.at (length s) h) (eq-eqb (get_or s c.at 0) opens q)) ∙ e)

      go : (b : Bool) → ltb c.at (length s) ≡ b → NoTree n s p.at
      go true l = let h = ltb-true c.at (length s) l in bad_label
          few R.slot h (not_open h) M
      go false l =
          let h = ltb-false c.at (length s) l in
          let q : c.at ≡ p.at = omega (arith, h, M.after, M.inside) in
          subst (NoTree n s) q
          (no_more few R.slot h)
  got_taxon e t (Ok x) T = record {
    member = taxon x.node;
    past = past-taxon few R.slot T.found;
    next = omega (arith, T.next);
    used = T.used;
    named = refl;
    written = refl;
  }

  count-is : size most c.used ≡ size n c.used
  count-is = size_is c.used few R.slot.within

  module _ (h₀ : here s c.at opens ≡ true) where
    pub group_bad : n < size most c.used + m + 2 → NoTree n s c.at
    group_bad k = too_deep few R.slot
        (here_in s c.at opens h₀) (here-is s c.at opens h₀)
        (omega (arith, k, count-is))

    module _ (deep : size most c.used + m + 2 ≤ n) where
      room : size n c.used + m + 2 ≤ n
      room = omega (arith, deep, count-is)

      pub left_ready : Ready n s (ahead c) (m + 1) true
      left_ready = record {
        slot = subst (λ (i : ℕ). Slot n s (c.at + 1) c.used i true)
            (sym (add-one m))
            (left_slot few R.slot h₀ room);
        from = R.from;
        numbers = omega (arith, R.numbers);
      }

-- a group begins at c, and its first member is read up to d
pub record LeftRead (n : ℕ) (s t : List ℕ) (c : Cursor) (m : ℕ) (o : Bool) (t₁ : List ℕ)
    (d : Cursor) (x : ℕ) : Type 0 where
  pub ready : Ready n s c m o
  pub opened : here s c.at opens ≡ true
  pub left : Read n s (ahead c) (m + 1) true t t₁ d x

-- a comma follows, and its second member is read up to f
pub record BothRead (n : ℕ) (s t : List ℕ) (c : Cursor) (m : ℕ) (o : Bool) (t₂ : List ℕ)
    (f : Cursor) (x y : ℕ) : Type 0 where
  pub table : List ℕ
  pub between : Cursor
  pub half : LeftRead n s t c m o table between x
  pub parted : here s between.at comma ≡ true
  pub right : Read n s (ahead between) m o table t₂ f y

module _ {n : ℕ} {s t : List ℕ} {c : Cursor} {m : ℕ} {o : Bool} {t₁ : List ℕ} {d : Cursor} {x : ℕ}
    (few : n ≤ most) (H : LeftRead n s t c m o t₁ d x) where
  past_left : Past n s (c.at + 1) c.used (suc m) true H.left.member d.at
  past_left = subst
      (λ (i : ℕ). Past n s (c.at + 1) c.used i true H.left.member d.at)
      (add-one m) H.left.past

  pub comma_bad : here s d.at comma ≡ false → NoTree n s d.at
  comma_bad e = no_comma few H.ready.slot H.opened past_left e

  left_size : size n d.used ≡ size n c.used + suc (groups H.left.member)
  left_size = ap (size n) H.left.used ∙ mark-size past_left.fits

  pub right_ready : here s d.at comma ≡ true → Ready n s (ahead d) m o
  right_ready k =
      let R = H.ready in
      let L = H.left in
      record {
        slot = subst (λ (u : ℕ). Slot n s (d.at + 1) u m o) (sym L.used)
            (right-slot few R.slot H.opened past_left k);
        from = omega (arith, R.from, L.next);
        numbers = omega (arith, R.numbers, L.next, left_size);
      }

module _ {n : ℕ} {s t : List ℕ} {c : Cursor} {m : ℕ} {o : Bool} {t₂ : List ℕ} {f : Cursor}
    {x y : ℕ} (big : 4 ≤ n) (few : n ≤ most) (B : BothRead n s t c m o t₂ f x y) where
  abbrev R : Ready n s c m o
  R = B.half.ready

  abbrev L : Read n s (ahead c) (m + 1) true t B.table B.between x
  L = B.half.left

  abbrev Q : Read n s (ahead B.between) m o B.table t₂ f y
  Q = B.right

  past-right : Past n s (B.between.at + 1) (mark L.member c.used) m o Q.member f.at
  past-right = subst
      (λ (u : ℕ). Past n s (B.between.at + 1) u m o Q.member f.at)
      L.used Q.past

  -- the parent has the number of a node, and its members' are below
  parent_node : f.next ≤ rows n
  parent_node = omega (
    arith,
    R.numbers,
    L.next,
    Q.next,
    left_size few B.half,
    Q.past.fits.room,
    big,
  )

  left_node : x < f.next
  left_node = omega (
    arith,
    L.named,
    L.next,
    Q.next,
    node_lt n L.member c.next (below_n (past_left few B.half).fits) R.from,
  )

  right-node : y < f.next
  right-node = omega (
    arith,
    Q.named,
    Q.next,
    node_lt n Q.member B.between.next (below_n Q.past.fits)
        (omega (arith, R.from, L.next)),
  )

  pub to_close : Closes f x y
  to_close = record {
    first = omega (arith, left_node, parent_node, few);
    second = omega (arith, right-node, parent_node, few);
    last = omega (arith, parent_node, few);
  }

  pub got_group : (t₃ : List ℕ) (r : Result code.Member NotNewick) → ClosedIs s f x y t₂ t₃ r
      → GotIs n s c m o t t₃ r
  unfolding with_rows node groups mark
  got_group t₃ (Err p) (e, h) = subst (NoTree n s) (sym e)
      (no_close few R.slot B.half.opened (past_left few B.half) B.parted past-right h)
  got_group t₃ (Ok g) C = record {
    member = group L.member Q.member;
    past = subst
        (Past n s c.at c.used m o (group L.member Q.member))
        (sym (ap (λ (z : Cursor). z.at) C.after))
        (past-group few R.slot B.half.opened (past_left few B.half) B.parted
        past-right C.closed);
    next = ap (λ (z : Cursor). z.next) C.after
        ∙ omega (arith, L.next, Q.next);
    used = ap (λ (z : Cursor). z.used) C.after ∙ Q.used
        ∙ ap (mark Q.member) L.used;
    named = C.named ∙ omega (arith, L.next, Q.next);
    written = C.written ∙ joined;
  }
    where
      joined : join y f.next (join x f.next t₂)
          ≡ with_rows (group B.half.left.member B.right.member) c.next t
      joined =
          let l = B.half.left in
          let r = B.right in
          let p : f.next ≡ c.next + groups l.member + groups r.member = r.next
          ∙ ap (λ (i : ℕ). i + groups r.member) l.next in
          rw (p, r.named, l.named, r.written, l.written, l.next)
