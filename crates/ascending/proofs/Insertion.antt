-- A number is put in its place of a list by moving those from the place on up
-- and writing it there. Assumes nothing.
use mathlib.Core.Path.{◌≡◌, refl, ap, sym, ◌∙◌}
use mathlib.Core.List.{List, [], ◌∷◌, ◌++◌, append_assoc}
use mathlib.Core.Bool.{Bool, true, false, cond}
use Prim.Native.Nat.{ℕ, suc, ◌+◌, ◌-◌, ◌≤◌, ◌<◌}
use native.Mathlib.Omega.{arith}
use native.Mathlib.Numerals.{add-one}
use lib.ListN.{length, take, drop, get_or, set, length-append, length-drop, take-append-drop}
use lib.Seq.{take-suc, get_or-take, set_at, length-take-le, take-take}
use lib.Dec.{eqb, ltb}
use borrow.Author.Tests.{lt-ltb, le-ltb, eq-eqb, ne_eqb, ltb-true, ltb-false}
use Rattle.std.specs.List.{prefix_len, copy_within}
use Rattle.std.proofs.lemmas.List.{drop-take}
use Rattle.std.proofs.lemmas.List.Sums.{prefix_len-le-length}
use Rattle.taxa.specs.Sets.{pick}
use Rattle.tree.specs.Lists.{insert}
use Rattle.calls.specs.Calls.{at_start}
use Rattle.calls.specs.Between.{Wrote}

-- how many numbers at the start of l are below x
abbrev lead : ℕ → List ℕ → ℕ
lead x l = prefix_len (λ y. ltb y x) l

-- ---- at the place the same number stands, or it is put in
insert-there : (x : ℕ) (l : List ℕ) → lead x l < length l → get_or l (lead x l) 0 ≡ x
    → insert x l ≡ l
unfolding insert
insert-there x [] h e = absurd (omega arith)
insert-there x (y ∷ ys) h e = go (insert-there x ys) (ltb y x) refl h e
  where
    go : (lead x ys < length ys → get_or ys (lead x ys) 0 ≡ x → insert x ys ≡ ys) → (b : Bool)
        → ltb y x ≡ b
        → cond b (1 + lead x ys) 0 < length (y ∷ ys)
        → get_or (y ∷ ys) (cond b (1 + lead x ys) 0) 0 ≡ x
        → pick (ltb x y) (x ∷ y ∷ ys) (pick (eqb x y) (y ∷ ys) (y ∷ insert x ys)) ≡ y ∷ ys
    go ih true t h e =
        let below : y < x = ltb-true y x t in
        let n : 1 + lead x ys ≡ suc (lead x ys) = omega arith in
        rw (le-ltb x y (omega arith), ne_eqb x y (λ q. omega arith))
        (ap (λ (k : List ℕ). y ∷ k) (ih (omega arith) (rw n at e)))
    go ih false t h e = rw (le-ltb x y (omega arith), eq-eqb x y (sym e))

insert_new : (x : ℕ) (l : List ℕ) → (lead x l < length l → get_or l (lead x l) 0 ≡ x → ⊥)
    → insert x l ≡ take (lead x l) l ++ (x ∷ drop (lead x l) l)
unfolding insert
insert_new x [] d = refl
insert_new x (y ∷ ys) d = go (insert_new x ys) (ltb y x) refl d
  where
    go : ((lead x ys < length ys → get_or ys (lead x ys) 0 ≡ x → ⊥)
        → insert x ys ≡ take (lead x ys) ys ++ (x ∷ drop (lead x ys) ys)) → (b : Bool) → ltb y x ≡ b
        → (cond b (1 + lead x ys) 0 < length (y ∷ ys)
        → get_or (y ∷ ys) (cond b (1 + lead x ys) 0) 0 ≡ x → ⊥)
        → pick (ltb x y) (x ∷ y ∷ ys) (pick (eqb x y) (y ∷ ys) (y ∷ insert x ys))
        ≡ take (cond b (1 + lead x ys) 0) (y ∷ ys)
        ++ (x ∷ drop (cond b (1 + lead x ys) 0) (y ∷ ys))
    go ih true t d =
        let below : y < x = ltb-true y x t in
        let n : 1 + lead x ys ≡ suc (lead x ys) = omega arith in
        rw (le-ltb x y (omega arith), ne_eqb x y (λ q. omega arith), n)
        (ap (λ (k : List ℕ). y ∷ k) (ih (λ h e. (rw n at d) (omega arith) e)))
    go ih false t d = rw (lt-ltb x y
        (lib.Arith.lt_of_le-ne (ltb-false y x t) (λ e. d (omega arith) (sym e))))

-- ---- the whole: x does not stand at its place i of the first len numbers of o,
-- so that those from i on are moved up for it
pub record Opened (x : ℕ) (o : List ℕ) (len i : ℕ) : Type 0 where
  pub low : i ≤ len
  pub room : len < length o
  pub count : len + 1 ≡ length (insert x (take len o))
  pub gives : set (copy_within o i len (i + 1)) i x ≡ at_start (insert x (take len o)) o

-- i is x's place in the first len numbers of o
pub record Placed (x : ℕ) (o : List ℕ) (len i : ℕ) : Type 0 where
  pub fits : len ≤ length o
  pub place : i ≡ lead x (take len o)

module _ {x : ℕ} {o : List ℕ} {len i : ℕ} (P : Placed x o len i) where
  size : length (take len o) ≡ len
  size = length-take-le len o P.fits

  pub within : i ≤ len
  within = omega (arith, size, P.place, prefix_len-le-length (λ y. ltb y x) (take len o))

  pub there : i < len → get_or o i 0 ≡ x → Wrote length (insert x (take len o)) o len o
  there h e =
      let q : get_or (take len o) (lead x (take len o)) 0 ≡ x =
      rw (← P.place) (get_or-take len o i 0 h ∙ e) in
      let s : insert x (take len o) ≡ take len o =
      insert-there x (take len o) (omega (arith, size, P.place)) q in
      record {
        count = sym (ap length s ∙ size);
        memory = rw (s, size) (sym (take-append-drop len o));
      }

  module _ (differ : i < len → get_or o i 0 ≡ x → ⊥)
      (spare : length (insert x (take len o)) ≤ length o) where
    inserted : insert x (take len o) ≡ take i o ++ (x ∷ take (len - i) (drop i o))
    inserted =
        let e : i + (len - i) ≡ len = omega (arith, within) in
        insert_new x (take len o)
        (λ h q. let l : i < len = omega (arith, size, P.place) in differ l
        (sym (get_or-take len o i 0 l) ∙ ap (λ (k : ℕ). get_or (take len o) k 0) P.place ∙ q))
        ∙ rw (← P.place, take-take i len o within)
        (ap (λ (k : List ℕ). take i o ++ (x ∷ k)) (ap (λ (j : ℕ). drop i (take j o)) (sym e)
        ∙ drop-take i (len - i) o))

    grows : len + 1 ≡ length (insert x (take len o))
    grows =
        let low : i ≤ len = within in
        let tail : length (take (len - i) (drop i o)) ≡ len - i =
        length-take-le (len - i) (drop i o) (omega (arith, length-drop i o, P.fits)) in
        omega (
          arith,
          ap length inserted,
          length-append (take i o) (x ∷ take (len - i) (drop i o)),
          length-take-le i o (omega (arith, P.fits)),
        )

    pub opened : Opened x o len i
    opened = let l : i ≤ len = within in let r : len < length o = omega (arith, grows) in
        let above : List ℕ = take (len - i) (drop i o) ++ drop (len + 1) o in
        let end : i + 1 + (len - i) ≡ len + 1 = omega arith in
        record {
          low = l;
          room = r;
          count = grows;
          gives =
              rw (← grows, inserted, end, add-one i, take-suc o i 0 (omega arith))
              (simp append_assoc (set_at (take i o) (get_or o i 0) above x i
              (length-take-le i o (omega arith))));
        }
