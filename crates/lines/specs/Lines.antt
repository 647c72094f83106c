-- Numbers and lines as text, in bytes: decimal without leading zeros, one
-- blank between, one line feed after each line.
use Rattle.std.specs.Prelude.{ℕ, zero, suc, ◌+◌, ◌*◌, ◌/◌, List, [], ◌∷◌, ◌++◌, eqb, ltb, leb, length, take, drop}
use Rattle.taxa.specs.Sets.{pick}
use Rattle.io.specs.Digits.{last_digits}

-- How many digits n has in decimal; f is at least that.
unfoldable pub width_to : ℕ → ℕ → ℕ
width_to zero n = 1
width_to (suc f) n = pick (ltb n 10) 1 (suc (width_to f (n / 10)))

-- A number in decimal, no leading zeros.
unfoldable pub decimal : ℕ → List ℕ
decimal n = last_digits 10 (width_to n n) n

abbrev pub blank : List ℕ
blank = 32 ∷ []

abbrev pub feed : List ℕ
feed = 10 ∷ []

-- ` same 0` with its line feed, ` changed `, ` saved `, `end `, `refused ` and
-- ` at `.
unfoldable pub same_word : List ℕ
same_word = 32 ∷ 115 ∷ 97 ∷ 109 ∷ 101 ∷ 32 ∷ 48 ∷ 10 ∷ []

unfoldable pub changed_word : List ℕ
changed_word = 32 ∷ 99 ∷ 104 ∷ 97 ∷ 110 ∷ 103 ∷ 101 ∷ 100 ∷ 32 ∷ []

unfoldable pub saved_word : List ℕ
saved_word = 32 ∷ 115 ∷ 97 ∷ 118 ∷ 101 ∷ 100 ∷ 32 ∷ []

unfoldable pub end_word : List ℕ
end_word = 101 ∷ 110 ∷ 100 ∷ 32 ∷ []

unfoldable pub refused_word : List ℕ
refused_word = 114 ∷ 101 ∷ 102 ∷ 117 ∷ 115 ∷ 101 ∷ 100 ∷ 32 ∷ []

unfoldable pub at_word : List ℕ
at_word = 32 ∷ 97 ∷ 116 ∷ 32 ∷ []

-- ---- the terrace class of s of k partitions, s being the number that are the
-- same
unfoldable pub none_word : List ℕ
none_word = 110 ∷ 111 ∷ 110 ∷ 101 ∷ []

unfoldable pub full_word : List ℕ
full_word = 102 ∷ 117 ∷ 108 ∷ 108 ∷ []

unfoldable pub pt_word : List ℕ
pt_word = 112 ∷ 116 ∷ []

-- The smallest i from i₀ on, within f more, with 10 s at most i times k.
unfoldable pub bin_from : ℕ → ℕ → ℕ → ℕ → ℕ
bin_from zero i s k = i
bin_from (suc f) i s k = pick (leb (10 * s) (i * k)) i (bin_from f (suc i) s k)

-- pt1 to pt10: the smallest i with 10 s at most i times k.
abbrev pub bin : ℕ → ℕ → ℕ
bin s k = bin_from 9 1 s k

-- `none` for s = 0, `full` for s = k partitions, between them `pt1` to `pt10`.
unfoldable pub class_name : ℕ → ℕ → List ℕ
class_name s k =
    pick (eqb s 0) none_word (pick (eqb s k) full_word (pt_word ++ decimal (bin s k)))

-- ---- the lines

-- `m p same 0` or `m p changed d`: move number, partition number, word,
-- distance.
unfoldable pub verdict_line : ℕ → ℕ → ℕ → List ℕ
verdict_line m p d =
    decimal m ++ blank ++ decimal p ++ pick (eqb d 0) same_word (changed_word ++ decimal d ++ feed)

-- `m saved s t`: s is the number saved, t is the terrace class, from the number
-- c of k partitions that are the same.
unfoldable pub saved_line : ℕ → ℕ → ℕ → ℕ → List ℕ
saved_line m s c k =
    decimal m ++ saved_word ++ decimal s ++ blank ++ class_name c k ++ feed

-- `end M`.
unfoldable pub end_line : ℕ → List ℕ
end_line m = end_word ++ decimal m ++ feed

-- `refused N at P`.
unfoldable pub refused_line : ℕ → ℕ → List ℕ
refused_line r p = refused_word ++ decimal r ++ at_word ++ decimal p ++ feed

-- ---- memory

-- o with ds from place at
abbrev pub placed : List ℕ → ℕ → List ℕ → List ℕ
placed o at ds = take at o ++ (ds ++ drop (at + length ds) o)
