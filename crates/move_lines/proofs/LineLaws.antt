-- The lines of the first partitions, one more, and all; the saved line after
-- them; and that they are few bytes. Assumes nothing.
use mathlib.Core.Path.{◌≡◌, refl, sym, ap, ◌∙◌}
use mathlib.Core.List.{List, [], ◌∷◌, ◌++◌, append_assoc, append-nil}
use Prim.Native.Nat.{ℕ, suc, ◌+◌, ◌*◌, ◌^◌, ◌≤◌, ◌<◌}
use native.Mathlib.Nat.{add-zero}
use native.Mathlib.Omega.{arith}
use native.Mathlib.Numerals.{add-one}
use lib.ListN.{length, get_or, take, drop, length-append, take-append-drop}
use lib.Seq.{take-suc, length-take-le, take-length}
use mir.Syntax.{w64}
use mir.Val.{Fits}
use Rattle.taxa.specs.Most.{most_partitions}
use Rattle.lines.specs.Lines.{verdict_line, saved_line}
use Rattle.lines.proofs.Widths.{verdict_few, saved_few}
use Rattle.group_rule.specs.Zeros.{zeros}
use Rattle.move_lines.specs.MoveLines.{verdict_lines, lines_with}

verdicts_append : (m p : ℕ) (xs ys : List ℕ)
    → verdict_lines m p (xs ++ ys) ≡ verdict_lines m p xs ++ verdict_lines m (p + length xs) ys
unfolding verdict_lines
verdicts_append m p [] ys = ap (λ (q : ℕ). verdict_lines m q ys) (sym (add-zero p))
verdicts_append m p (x ∷ xs) ys =
    let e : p + 1 + length xs ≡ p + suc (length xs) = omega arith in
    ap (λ (l : List ℕ). verdict_line m p x ++ l) (verdicts_append m (p + 1) xs ys
    ∙ ap (λ (q : ℕ). verdict_lines m (p + 1) xs ++ verdict_lines m q ys) e)
    ∙ sym (append_assoc (verdict_line m p x) (verdict_lines m (p + 1) xs)
    (verdict_lines m (p + suc (length xs)) ys))

one_line : (m p d : ℕ) → verdict_lines m p (d ∷ []) ≡ verdict_line m p d
unfolding verdict_lines
one_line m p d = append-nil (verdict_line m p d)

-- the line of the partition after the first i
pub verdicts_next : (m : ℕ) (ds : List ℕ) (i : ℕ) → i < length ds
    → verdict_lines m 1 (take (i + 1) ds) ≡ verdict_lines m 1 (take i ds) ++ verdict_line m (i + 1)
    (get_or ds i 0)
verdicts_next m ds i l =
    ap (verdict_lines m 1) (ap (λ (j : ℕ). take j ds) (add-one i) ∙ take-suc ds i 0 l)
    ∙ verdicts_append m 1 (take i ds) (get_or ds i 0 ∷ [])
    ∙ ap (λ (l : List ℕ). verdict_lines m 1 (take i ds) ++ l)
    (one_line m (1 + length (take i ds)) (get_or ds i 0))
    ∙ ap (λ (q : ℕ). verdict_lines m 1 (take i ds) ++ verdict_line m q (get_or ds i 0))
    (omega (arith, length-take-le i ds (omega (arith, l))))

-- so the lines before it and that line are no longer than all
pub verdicts_room : (m : ℕ) (ds : List ℕ) (i : ℕ) → i < length ds
    → length (verdict_lines m 1 (take i ds)) + length (verdict_line m (i + 1) (get_or ds i 0))
    ≤ length (verdict_lines m 1 ds)
verdicts_room m ds i l =
    let e : verdict_lines m 1 ds
    ≡ (verdict_lines m 1 (take i ds) ++ verdict_line m (i + 1) (get_or ds i 0)) ++ verdict_lines m
    (1 + length (take (i + 1) ds)) (drop (i + 1) ds)
    = ap (verdict_lines m 1) (sym (take-append-drop (i + 1) ds))
    ∙ verdicts_append m 1 (take (i + 1) ds) (drop (i + 1) ds)
    ∙ ap (λ (x : List ℕ). x ++ verdict_lines m (1 + length (take (i + 1) ds)) (drop (i + 1) ds))
    (verdicts_next m ds i l) in
    omega (
      arith,
      ap length e,
      length-append (verdict_lines m 1 (take i ds) ++ verdict_line m (i + 1) (get_or ds i 0))
          (verdict_lines m (1 + length (take (i + 1) ds)) (drop (i + 1) ds)),
      length-append (verdict_lines m 1 (take i ds)) (verdict_line m (i + 1) (get_or ds i 0)),
    )

pub verdicts_end : (m : ℕ) (ds : List ℕ) (i : ℕ) → i ≤ length ds → length ds ≤ i
    → verdict_lines m 1 (take i ds) ≡ verdict_lines m 1 ds
verdicts_end m ds i l g =
    let e : i ≡ length ds = omega arith in
    ap (verdict_lines m 1) (ap (λ (j : ℕ). take j ds) e ∙ take-length ds)

-- ---- the lines of no partition
pub none_yet : (m : ℕ) (ds : List ℕ) → verdict_lines m 1 (take 0 ds) ≡ []
unfolding verdict_lines
none_yet m ds = refl

-- ---- the verdict lines and the saved line are all lines of a move
module _ (m : ℕ) (ds : List ℕ) (s same : ℕ) (counted : same ≡ zeros ds) where
  abbrev last : List ℕ
  last = saved_line m s same (length ds)

  pub lines_are : verdict_lines m 1 ds ++ last ≡ lines_with m ds s
  unfolding lines_with
  lines_are = rw counted

  pub lines_length : length (verdict_lines m 1 ds) + length last ≡ length (lines_with m ds s)
  lines_length = sym (length-append (verdict_lines m 1 ds) last) ∙ ap length lines_are

-- ---- they are few bytes, as the numbers in the code are
verdicts_few : (m p : ℕ) (ds : List ℕ) → m < 2 ^ 64 → p + length ds < 2 ^ 64
    → ((j : ℕ) → Fits w64 (get_or ds j 0)) → length (verdict_lines m p ds) ≤ 80 * length ds
unfolding verdict_lines
verdicts_few m p [] hm hp hd = omega arith
verdicts_few m p (d ∷ ds) hm hp hd = omega (
  arith,
  length-append (verdict_line m p d) (verdict_lines m (p + 1) ds),
  verdict_few m p d hm (omega arith) (hd 0).fits,
  verdicts_few m (p + 1) ds hm (omega arith) (λ j. hd (suc j)),
)

pub lines_short : (m : ℕ) (ds : List ℕ) (s same : ℕ) → same ≡ zeros ds → m < 2 ^ 64
    → length ds ≤ most_partitions → ((j : ℕ) → Fits w64 (get_or ds j 0)) → s < 2 ^ 64
    → length (lines_with m ds s) < 2 ^ 64
lines_short m ds s same counted hm few hd hs = omega (
  arith,
  lines_length m ds s same counted,
  verdicts_few m 1 ds hm (omega arith) hd,
  saved_few m s same (length ds) hm hs,
)
