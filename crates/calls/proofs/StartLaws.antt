-- A list at the start of a lent one. Assumes nothing.
use mathlib.Core.Path.{◌≡◌, refl, ap, ap₂, sym, ◌∙◌}
use mathlib.Core.List.{List, [], ◌∷◌, ◌++◌, append_assoc}
use Prim.Native.Nat.{ℕ, suc, ◌+◌, ◌-◌, ◌≤◌, ◌<◌}
use native.Mathlib.Omega.{arith}
use native.Mathlib.Numerals.{add-one}
use lib.ListN.{length, get_or, set, take, drop, length-append, length-drop}
use lib.Seq.{take-append_seam, drop-append-add, drop-drop, drop-cons, set_at}
use Rattle.calls.specs.Calls.{at_start}
use Rattle.calls.specs.Between.{Wrote}

module _ (l m : List ℕ) where
  pub start_length : length l ≤ length m → length (at_start l m) ≡ length m
  start_length h =
      length-append l (drop (length l) m) ∙ omega (arith, length-drop (length l) m, h)

  pub start_take : take (length l) (at_start l m) ≡ l
  start_take = take-append_seam l (drop (length l) m)

  -- one more is put behind it
  pub start_put : (x : ℕ) → length l < length m
      → set (at_start l m) (length l) x ≡ at_start (l ++ x ∷ []) m
  start_put x h =
      ap (λ (r : List ℕ). set (l ++ r) (length l) x) (drop-cons m (length l) 0 h)
      ∙ set_at l (get_or m (length l) 0) (drop (suc (length l)) m) x (length l) refl
      ∙ rw (length-append, add-one (length l), append_assoc)

-- a list that is no shorter is written over it
pub start_again : (k l m : List ℕ) → length k ≤ length l → at_start l (at_start k m) ≡ at_start l m
start_again k l m h =
    let e : length k + (length l - length k) ≡ length l = omega (arith, h) in
    ap (λ (r : List ℕ). l ++ r)
    (ap (λ (i : ℕ). drop i (at_start k m)) (sym e)
    ∙ drop-append-add k (drop (length k) m) (length l - length k)
    ∙ drop-drop (length l - length k) (length k) m
    ∙ ap (λ (i : ℕ). drop i m) e)

-- ---- what was written
module _ {told : List ℕ → ℕ} {l m : List ℕ} {r : ℕ} {m' : List ℕ} (w : Wrote told l m r m') where
  pub wrote-length : length l ≤ length m → length m' ≡ length m
  wrote-length h = ap length w.memory ∙ start_length l m h

  pub wrote-within : length l ≤ length m'
  wrote-within = omega (
    arith,
    ap length w.memory,
    length-append l (drop (length l) m),
  )

module _ {l m : List ℕ} {r : ℕ} {m' : List ℕ} (w : Wrote length l m r m') where
  pub wrote-take : take r m' ≡ l
  wrote-take = ap₂ take w.count w.memory ∙ start_take l m

  pub wrote-part : r ≡ length (take r m')
  wrote-part = w.count ∙ sym (ap length wrote-take)

  pub wrote_end : r ≤ length m'
  wrote_end = omega (arith, w.count, wrote-within w)

  pub wrote_more : (x : ℕ) → r < length m → Wrote length (l ++ x ∷ []) m (r + 1) (set m' r x)
  wrote_more x h = record {
    count = omega (arith, w.count, length-append l (x ∷ []));
    memory = ap₂ (λ (o : List ℕ) (i : ℕ). set o i x) w.memory w.count
        ∙ start_put l m x (omega (arith, w.count, h));
  }
