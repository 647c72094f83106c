-- Every line is plain, and so are lines after lines. Assumes nothing.
use mathlib.Core.Path.{◌≡◌, refl, sym, subst}
use mathlib.Core.Bool.{Bool, true, false, ◌&&◌}
use mathlib.Core.List.{List, [], ◌∷◌, ◌++◌, append_assoc, append-nil}
use Prim.Native.Nat.{ℕ, zero, suc, ◌/◌, ◌%◌, ◌≤◌, ◌<◌}
use native.Mathlib.Omega.{arith}
use lib.Dec.{eqb, ltb, leb}
use borrow.Author.Tests.{lt-ltb, le-leb}
use Rattle.taxa.specs.Sets.{pick}
use Rattle.taxa.proofs.Bools.{and_left, and_right, and_both}
use Rattle.io.specs.Digits.{last_digits, hex_digit_ascii}
use Rattle.lines.specs.Lines.{width_to, decimal, blank, feed, same_word, changed_word, saved_word}
use Rattle.lines.specs.Lines.{end_word, refused_word, at_word, none_word, full_word, pt_word, bin}
use Rattle.lines.specs.Lines.{class_name, verdict_line, saved_line, end_line, refused_line}
use Rattle.lines.specs.Plain.{shown, Line, ended, Plain, none, then}

-- ---- bytes that are shown
shown-append : (v w : List ℕ) → shown v ≡ true → shown w ≡ true → shown (v ++ w) ≡ true
unfolding shown
shown-append [] w p q = q
shown-append (c ∷ v) w p q =
    let t = leb 32 c && ltb c 127 in
    and_both t (shown (v ++ w)) (and_left t (shown v) p)
    (shown-append v w (and_right t (shown v) p) q)

shown_one : (c : ℕ) → 32 ≤ c → c < 127 → shown (c ∷ []) ≡ true
unfolding shown
shown_one c p q = rw (le-leb 32 c p, lt-ltb c 127 q)

-- A digit is shown, and is no blank.
glyph_shown : (d : ℕ) → d < 10 → (32 < hex_digit_ascii d) × (hex_digit_ascii d < 127)
glyph_shown d l = rw (lt-ltb d 10 l) (omega arith, omega arith)

digits_shown : (k n : ℕ) → shown (last_digits 10 k n) ≡ true
unfolding shown
digits_shown zero n = refl
digits_shown (suc k) n =
    let g = glyph_shown (n % 10) (omega arith) in
    shown-append (last_digits 10 k (n / 10)) (hex_digit_ascii (n % 10) ∷ []) (digits_shown k (n / 10))
    (shown_one (hex_digit_ascii (n % 10)) (omega (arith, g.0)) g.1)

decimal-shown : (n : ℕ) → shown (decimal n) ≡ true
unfolding decimal
decimal-shown n = digits_shown (width_to n n) n

-- Shown bytes, then a number.
then-decimal : (w : List ℕ) (n : ℕ) → shown w ≡ true → shown (w ++ decimal n) ≡ true
then-decimal w n h = shown-append w (decimal n) h (decimal-shown n)

-- ---- one line

-- Shown bytes before a line are in it.
line_after : (w l : List ℕ) → shown w ≡ true → Line l → Line (w ++ l)
line_after w l h (ended v c s p q) =
    subst Line (append_assoc w v (c ∷ 10 ∷ [])) (ended (w ++ v) c (shown-append w v h s) p q)

width_least : (f n : ℕ) → 1 ≤ width_to f n
unfolding width_to
width_least zero n = omega arith
width_least (suc f) n = go (ltb n 10)
  where
    go : (b : Bool) → 1 ≤ pick b 1 (suc (width_to f (n / 10)))
    go true = omega arith
    go false = omega arith

-- A number at the end of a line: it has a last digit.
decimal_line : (n : ℕ) → Line (decimal n ++ feed)
unfolding decimal
decimal_line n = go (width_to n n) (width_least n n)
  where
    go : (k : ℕ) → 1 ≤ k → Line (last_digits 10 k n ++ feed)
    go zero l = absurd (omega arith)
    go (suc k) l =
        let c = hex_digit_ascii (n % 10) in
        let g = glyph_shown (n % 10) (omega arith) in
        subst Line (sym (append_assoc (last_digits 10 k (n / 10)) (c ∷ []) feed))
        (ended (last_digits 10 k (n / 10)) c (digits_shown k (n / 10)) g.0 g.1)

-- Shown bytes, then a number at the end of the line.
number_line : (w : List ℕ) (n : ℕ) → shown w ≡ true → Line (w ++ decimal n ++ feed)
number_line w n h = subst Line (sym (append_assoc w (decimal n) feed))
    (line_after w (decimal n ++ feed) h (decimal_line n))

class_line : (s k : ℕ) → Line (class_name s k ++ feed)
unfolding class_name none_word full_word pt_word shown
class_line s k = go (eqb s 0) (eqb s k)
  where
    go : (a b : Bool) → Line (pick a none_word (pick b full_word (pt_word ++ decimal (bin s k)))
        ++ feed)
    go true b = ended (110 ∷ 111 ∷ 110 ∷ []) 101 refl (omega arith) (omega arith)
    go false true = ended (102 ∷ 117 ∷ 108 ∷ []) 108 refl (omega arith) (omega arith)
    go false false = number_line pt_word (bin s k) refl

-- ---- the lines
verdict_line_lem : (m p d : ℕ) → Line (verdict_line m p d)
unfolding verdict_line same_word changed_word shown
verdict_line_lem m p d = line_after (decimal m ++ blank ++ decimal p) (rest (eqb d 0))
    (then-decimal (decimal m ++ blank) p (shown-append (decimal m) blank (decimal-shown m) refl))
    (go (eqb d 0))
  where
    rest : Bool → List ℕ
    rest b = pick b same_word (changed_word ++ decimal d ++ feed)

    go : (b : Bool) → Line (rest b)
    go true = ended (32 ∷ 115 ∷ 97 ∷ 109 ∷ 101 ∷ 32 ∷ []) 48 refl (omega arith) (omega arith)
    go false = number_line changed_word d refl

saved_line_lem : (m s c k : ℕ) → Line (saved_line m s c k)
unfolding saved_line saved_word shown
saved_line_lem m s c k =
    let w = decimal m ++ saved_word ++ decimal s ++ blank in
    let h = shown-append (decimal m ++ saved_word ++ decimal s) blank
    (then-decimal (decimal m ++ saved_word) s
    (shown-append (decimal m) saved_word (decimal-shown m) refl)) refl in
    subst Line (sym (append_assoc w (class_name c k) feed))
    (line_after w (class_name c k ++ feed) h (class_line c k))

end_line_lem : (m : ℕ) → Line (end_line m)
unfolding end_line end_word shown
end_line_lem m = number_line end_word m refl

refused_line_lem : (r p : ℕ) → Line (refused_line r p)
unfolding refused_line refused_word at_word shown
refused_line_lem r p = number_line (refused_word ++ decimal r ++ at_word) p
    (shown-append (refused_word ++ decimal r) at_word (then-decimal refused_word r refl) refl)

-- ---- plain text
one_plain : (l : List ℕ) → Line l → Plain l
one_plain l h = subst Plain (append-nil l) (then l [] h none)

pub verdict_plain : (m p d : ℕ) → Plain (verdict_line m p d)
verdict_plain m p d = one_plain (verdict_line m p d) (verdict_line_lem m p d)

pub saved_plain : (m s c k : ℕ) → Plain (saved_line m s c k)
saved_plain m s c k = one_plain (saved_line m s c k) (saved_line_lem m s c k)

pub end_plain : (m : ℕ) → Plain (end_line m)
end_plain m = one_plain (end_line m) (end_line_lem m)

pub refused_plain : (r p : ℕ) → Plain (refused_line r p)
refused_plain r p = one_plain (refused_line r p) (refused_line_lem r p)

pub plain_append : (a b : List ℕ) → Plain a → Plain b → Plain (a ++ b)
plain_append a b none q = q
plain_append a b (then l more h p) q =
    subst Plain (sym (append_assoc l more b)) (then l (more ++ b) h (plain_append more b p q))
