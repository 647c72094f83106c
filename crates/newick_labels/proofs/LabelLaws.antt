-- What is found or missed at each answer of the code. Assumes nothing.
use Rattle.std.specs.Prelude.{Some, None}
use mathlib.Core.Path.{◌≡◌, refl, sym, ap, ◌∙◌}
use mathlib.Core.Logic.{◌⊎◌, inl, inr}
use mathlib.Core.Bool.{true, false, true≢false}
use mathlib.Core.List.{List, [], ◌∷◌, ◌++◌, append-nil, cons-ne-nil}
use Prim.Native.Nat.{ℕ, suc, ◌+◌, ◌*◌, ◌/◌, ◌%◌, ◌^◌, ◌≤◌, ◌<◌}
use native.Mathlib.Numerals.{add-one}
use native.Mathlib.Omega.{arith}
use lib.Dec.{ltb}
use lib.ListN.{length, take, drop, get_or, take-append-drop}
use lib.Seq.{drop-cons, take_all}
use borrow.Author.Tests.{ltb-true, ltb-false}
use Rattle.taxa.specs.Most.{most}
use Rattle.taxa.specs.Sets.{has}
use Rattle.taxa.proofs.Bools.{either}
use Rattle.taxa.proofs.Sets.{has_below}
use Rattle.lines.specs.Lines.{decimal}
use Rattle.newick_labels.specs.Between.{Stop, Ends, Found, Missed, digit_at, begun}
use Rattle.newick_labels.proofs.HeadLaws.{digit_byte, no_digit, Begins, alone, with_second}
use Rattle.newick_labels.proofs.HeadLaws.{begun-some, begun-none}
use Rattle.newick_labels.proofs.TextLaws.{step, cancel, one_digit, two_digits, digit_goes_on}
use Rattle.newick_labels.proofs.TextLaws.{Spelt}
use Rattle.newick_labels.proofs.TextLaws.{single, double, spelt}

-- the digit a stands at a place, and u is a set of taxa
pub record Digit (s : List ℕ) (at u a : ℕ) : Type 0 where
  pub small : u < 2 ^ most
  pub is : digit_at s at ≡ Some a

-- the digit c follows it, and it is no leading zero
pub record Digits (s : List ℕ) (at u a c : ℕ) : Type 0 where
  pub first : Digit s at u a
  pub more : 0 < a
  pub is : digit_at s (at + 1) ≡ Some c

module _ (s : List ℕ) (at u : ℕ) where
  -- a label of one digit
  found_single : (a : ℕ) → a < 10 → at < length s → get_or s at 0 ≡ 48 + a
      → has u a ≡ true → (0 < a → Stop (drop (at + 1) s))
      → Found s at u a (at + 1)
  found_single a l h b m stop = record {
    among = m;
    is = λ x. rw (add-one at, step s x at h, one_digit a l, b);
    moved = omega arith;
    inside = omega arith;
    ends = λ p _. stop p;
  }

  -- no label goes on with the byte at p, so there is none in the whole text
  NotThere : ℕ → Type 0
  NotThere p = (x : List ℕ) (d : ℕ) (w : List ℕ) → has u d ≡ true → Ends d w
      → take (suc p) s ++ x ≡ take at s ++ (decimal d ++ w) → ⊥

  not_whole : (p : ℕ) → NotThere p → (d : ℕ) (w : List ℕ) → has u d ≡ true
      → Ends d w → s ≡ take at s ++ (decimal d ++ w) → ⊥
  unfolding NotThere
  not_whole p h d w m t e =
      h (drop (suc p) s) d w m t (take-append-drop (suc p) s ∙ e)

  module _ (small : u < 2 ^ most) (here : at < length s) where
    label_spelt : (d : ℕ) (w : List ℕ) → has u d ≡ true
        → Spelt d w (decimal d ++ w)
    label_spelt d w m = spelt d w (omega (arith, has_below most u d small m))

    -- the label by its first byte
    from_place : (x : List ℕ) (d : ℕ) (w : List ℕ) → has u d ≡ true
        → take (suc at) s ++ x ≡ take at s ++ (decimal d ++ w)
        → Spelt d w (get_or s at 0 ∷ x)
    from_place x d w m e =
        rw (cancel (take at s) (get_or s at 0 ∷ x) (decimal d ++ w)
        (sym (step s x at here) ∙ e)) (label_spelt d w m)

    -- ---- missed at the first byte
    missed_first : ((x : List ℕ) (d : ℕ) (w : List ℕ) → has u d ≡ true
        → Spelt d w (get_or s at 0 ∷ x) → ⊥) → Missed s at u at
    unfolding NotThere
    missed_first h =
        let t : NotThere at = λ x d w m _ e. h x d w m (from_place x d w m e) in
        record {
          after = omega arith;
          inside = omega arith;
          before = inl refl;
          there = λ _. t;
          none = not_whole at t;
        }

module _ {s : List ℕ} {at u : ℕ} (small : u < 2 ^ most) where
  -- a byte at which no label begins
  missed_other : at < length s → digit_at s at ≡ None → Missed s at u at
  unfolding Stop
  missed_other here h = missed_first s at u small here go
    where
      stop : (x : List ℕ) → Stop (get_or s at 0 ∷ x)
      stop x = rw (drop-cons s at 0 here) at (no_digit s at h)

      go : (x : List ℕ) (d : ℕ) (w : List ℕ) → has u d ≡ true
          → Spelt d w (get_or s at 0 ∷ x) → ⊥
      go x d w m (single l e) =
          let b : get_or s at 0 ≡ 48 + d = cc in
          digit_goes_on d x l (rw b at (stop x))
      go x d w m (double l e) =
          let b : get_or s at 0 ≡ 48 + d / 10 = cc in
          digit_goes_on (d / 10) x (omega (arith, has_below most u d small m)) (rw b at (stop x))

  -- the end of the text
  missed_end : at ≡ length s → Missed s at u at
  missed_end e = record {
    after = omega arith;
    inside = omega arith;
    before = inl refl;
    there = λ l. absurd (omega arith);
    none = λ d w m _ q. some d w (spelt d w (omega (arith, has_below most u d small m)))
        (rest (decimal d ++ w) q);
  }
    where
      rest : (x : List ℕ) → s ≡ take at s ++ x → [] ≡ x
      rest x q =
          cancel s [] x
          (append-nil s ∙ q ∙ ap (λ (t : List ℕ). t ++ x) (take_all at s (omega arith)))

      some : (d : ℕ) (w : List ℕ) → Spelt d w (decimal d ++ w) → [] ≡ decimal d ++ w → ⊥
      some d w (single l p) q = cons-ne-nil _ _ (sym (q ∙ p))
      some d w (double l p) q = cons-ne-nil _ _ (sym (q ∙ p))

  pub missed_byte : at ≤ length s → digit_at s at ≡ None → Missed s at u at
  missed_byte inside h = go (either (ltb at (length s)))
    where
      go : (ltb at (length s) ≡ true) ⊎ (ltb at (length s) ≡ false) → Missed s at u at
      go (inl l) = missed_other (ltb-true at (length s) l) h
      go (inr l) = missed_end (omega (arith, inside, ltb-false at (length s) l))

module _ {s : List ℕ} {at u a : ℕ} (D : Digit s at u a) where
  here : at < length s
  here = (digit_byte s at a D.is).0

  byte : get_or s at 0 ≡ 48 + a
  byte = (digit_byte s at a D.is).1

  low : a < 10
  low = (digit_byte s at a D.is).2

  pub missed_digit : begun u a ≡ false → Missed s at u at
  missed_digit n = missed_first s at u D.small here go
    where
      go : (x : List ℕ) (d : ℕ) (w : List ℕ) → has u d ≡ true
          → Spelt d w (get_or s at 0 ∷ x) → ⊥
      go x d w m (single l e) =
          let b : get_or s at 0 ≡ 48 + d = cc in
          begun-none u a n d m (alone (omega (arith, byte)))
      go x d w m (double l e) =
          let b : get_or s at 0 ≡ 48 + d / 10 = cc in
          begun-none u a n d m
          (with_second (omega (arith, byte)) (d % 10) (omega arith) (omega (arith, byte)))

  -- ---- found
  pub found_zero : begun u a ≡ true → a ≡ 0 → Found s at u 0 (at + 1)
  found_zero b z =
      found_single s at u 0 (omega arith) here (rw z at byte) (go (begun-some u a b))
      (λ p. absurd (omega arith))
    where
      go : (d : ℕ) × (has u d ≡ true) × Begins a d → has u 0 ≡ true
      go (d, m, alone p) = rw z at (rw p at m)
      go (d, m, with_second l i k p) = absurd (omega arith)

  pub found_one : digit_at s (at + 1) ≡ None → has u a ≡ true
      → Found s at u a (at + 1)
  found_one h m =
      found_single s at u a low here byte m (λ _. no_digit s (at + 1) h)

  -- ---- missed at the second byte: what is before it begins a label
  begins_label : begun u a ≡ true
      → (d : ℕ) × (w : List ℕ) × (has u d ≡ true)
      × (take (at + 1) s ++ w ≡ take at s ++ decimal d)
  begins_label b = go (begun-some u a b)
    where
      go : (d : ℕ) × (has u d ≡ true) × Begins a d
          → (d : ℕ) × (w : List ℕ) × (has u d ≡ true)
          × (take (at + 1) s ++ w ≡ take at s ++ decimal d)
      go (d, m, alone p) =
          (d, [], m, rw (add-one at, step s [] at here, byte, p, one_digit a low))
      go (d, m, with_second l i k p) =
          let q : d / 10 ≡ a = omega (arith, low) in
          let r : d % 10 ≡ i = omega (arith, low) in (
            d,
            (48 + i) ∷ [],
            m,
            rw (
              add-one at,
              step s ((48 + i) ∷ []) at here,
              byte,
              two_digits d (omega arith) (omega (arith, low)),
              q,
              r,
            ),
          )

  -- the label by its first two bytes
  from_second : (x : List ℕ) (d : ℕ) (w : List ℕ) → has u d ≡ true
      → at + 1 < length s
      → take (suc (at + 1)) s ++ x ≡ take at s ++ (decimal d ++ w)
      → Spelt d w (get_or s at 0 ∷ get_or s (at + 1) 0 ∷ x)
  from_second x d w m h e =
      from_place s at u D.small here (get_or s (at + 1) 0 ∷ x) d w m
      (ap (λ (i : ℕ). take i s ++ (get_or s (at + 1) 0 ∷ x)) (sym (add-one at))
      ∙ sym (step s x (at + 1) h)
      ∙ e)

  -- no digit follows: a byte that is none, or the end of the text
  pub missed_single : begun u a ≡ true → digit_at s (at + 1) ≡ None → has u a ≡ false
      → Missed s at u (at + 1)
  unfolding NotThere
  missed_single starts h n = record {
    after = omega arith;
    inside = omega (arith, here);
    before = inr (begins_label starts);
    there = more;
    none = go (either (ltb (at + 1) (length s)));
  }
    where
      bare : (d : ℕ) → has u d ≡ true → get_or s at 0 ≡ 48 + d → ⊥
      bare d m b =
          let z : d ≡ a = omega (arith, byte) in
          true≢false (sym m ∙ ap (has u) z ∙ n)

      more : at + 1 < length s → NotThere s at u (at + 1)
      more l x d w m st q = on (from_second x d w m l q)
        where
          on : Spelt d w (get_or s at 0 ∷ get_or s (at + 1) 0 ∷ x) → ⊥
          on (single k e) = bare d m (cc)
          on (double k e) =
              let b : get_or s (at + 1) 0 ≡ 48 + d % 10 = cc in
              digit_goes_on (d % 10) (drop (suc (at + 1)) s) (omega arith)
              (rw (drop-cons s (at + 1) 0 l, b) at (no_digit s (at + 1) h))

      go : (ltb (at + 1) (length s) ≡ true) ⊎ (ltb (at + 1) (length s) ≡ false)
          → (d : ℕ) (w : List ℕ) → has u d ≡ true → Ends d w
          → s ≡ take at s ++ (decimal d ++ w) → ⊥
      go (inl l) d w m st q =
          not_whole s at u (at + 1) (more (ltb-true (at + 1) (length s) l)) d w m st q
      go (inr l) d w m st q =
          on (from_place s at u D.small here [] d w m (append-nil (take (suc at) s)
          ∙ take_all (suc at) s (omega (arith, ltb-false (at + 1) (length s) l))
          ∙ q))
        where
          on : Spelt d w (get_or s at 0 ∷ []) → ⊥
          on (single k e) = bare d m (cc)
          on (double k e) = let z : ◌≡◌ {A = ℕ} 0 1 = cc in absurd (omega arith)

-- ---- two digits
module _ {s : List ℕ} {at u a c : ℕ} (T : Digits s at u a c) where
  second : (at + 1 < length s) × (get_or s (at + 1) 0 ≡ 48 + c) × (c < 10)
  second = digit_byte s (at + 1) c T.is

  pub found-two : has u (10 * a + c) ≡ true → Found s at u (10 * a + c) (at + 2)
  found-two m =
      let two : at + 2 ≡ suc (at + 1) = omega arith in
      let q : (10 * a + c) / 10 ≡ a = omega (arith, second.2) in
      let r : (10 * a + c) % 10 ≡ c = omega (arith, second.2) in
      record {
        among = m;
        is = λ x. rw (
          two,
          step s x (at + 1) second.0,
          second.1,
          add-one at,
          step s ((48 + c) ∷ x) at (here T.first),
          byte T.first,
          two_digits (10 * a + c) (omega (arith, T.more)) (omega (arith, low T.first, second.2)),
          q,
          r,
        );
        moved = omega arith;
        inside = omega (arith, second.0);
        ends = λ _ l. absurd (omega arith);
      }

  pub missed_double : begun u a ≡ true → has u (10 * a + c) ≡ false → Missed s at u (at + 1)
  unfolding NotThere
  missed_double starts n =
      let t : NotThere s at u (at + 1) =
      λ x d w m st q. go x d w m st (from_second T.first x d w m second.0 q) in
      record {
        after = omega arith;
        inside = omega (arith, second.0);
        before = inr (begins_label T.first starts);
        there = λ _. t;
        none = not_whole s at u (at + 1) t;
      }
    where
      go : (x : List ℕ) (d : ℕ) (w : List ℕ) → has u d ≡ true → Ends d w
          → Spelt d w (get_or s at 0 ∷ get_or s (at + 1) 0 ∷ x) → ⊥
      go x d w m st (single l q) =
          let f : get_or s at 0 ≡ 48 + d = cc in
          let z : w ≡ (48 + c) ∷ x = cc second.1 in
          digit_goes_on c x second.2 (rw z at (st (omega (arith, byte T.first)) l))
      go x d w m st (double l q) =
          let f : get_or s at 0 ≡ 48 + d / 10 = cc in
          let g : get_or s (at + 1) 0 ≡ 48 + d % 10 = cc in
          let z : d ≡ 10 * a + c = omega (arith, byte T.first, second.1) in
          true≢false (sym m ∙ ap (has u) z ∙ n)
