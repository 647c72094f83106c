-- Pieces after pieces make a line. Assumes nothing.
use mathlib.Core.Path.{◌≡◌, ◌∙◌}
use mathlib.Core.List.{List, [], ◌++◌, append-nil}
use Prim.Native.Nat.{ℕ, ◌+◌, ◌-◌, ◌≤◌}
use native.Mathlib.Nat.{zero-add}
use native.Mathlib.Omega.{arith}
use lib.ListN.{length, take, drop, length-append, length-drop, drop_of_length-le}
use lib.Seq.{drop-drop, take_all}
use Rattle.calls.specs.Calls.{at_start}
use Rattle.calls.specs.Between.{Wrote}
use Rattle.lines.specs.Between.{WroteAt, Takes}
use Rattle.lines.specs.Room.{Fitted, fitted-joined}
use Rattle.lines.specs.Lines.{decimal, feed}
use Rattle.lines.specs.Lines.{end_word, refused_word, at_word}
use Rattle.lines.specs.Lines.{end_line, refused_line, placed}

-- ---- what takes bytes takes one piece after another
module _
    {S : Type 0} {room : S → ℕ} {took : S → List ℕ → S → Type 0}
    (joined : (s : S) (v : List ℕ) (t : S) (w : List ℕ) (u : S) → took s v t → took t w u
    → took s (v ++ w) u)
  where
    pub both : {s t u : S} {v w : List ℕ} → Takes room took s v t → Takes room took t w u
        → Takes room took s (v ++ w) u
    both {s} {t} {u} {v} {w} f g = record {
      bytes = joined s v t w u f.bytes g.bytes;
      less = omega (arith, f.less, g.less, length-append v w);
    }

-- ---- the same on a page
pub placed_start : (o ds : List ℕ) → placed o 0 ds ≡ at_start ds o
placed_start o ds = rw (zero-add (length ds))

pub starts : {o ds : List ℕ} {a : ℕ} {out : List ℕ} → Fitted ds 0 o a out
    → Wrote length ds o a out
starts {o} {ds} t = record {
  count = t.wrote.place ∙ zero-add (length ds);
  memory = t.wrote.memory ∙ placed_start o ds;
}

-- a part from at on, that came back with ds at its start
part_back : (o : List ℕ) (at : ℕ) (ds : List ℕ) → at ≤ length o
    → take at o ++ (at_start ds (take (length o - at) (drop at o)) ++ drop (length o - at)
    (drop at o)) ≡ placed o at ds
part_back o at ds h =
    let whole : take (length o - at) (drop at o) ≡ drop at o =
    take_all (length o - at) (drop at o) (omega (arith, length-drop at o)) in
    let none : drop (length o - at) (drop at o) ≡ [] =
    drop_of_length-le (drop at o) {i = length o - at} (omega (arith, length-drop at o)) in
    rw (whole, none, append-nil, drop-drop)

pub back : (o : List ℕ) (at : ℕ) (ds : List ℕ) {part : List ℕ} {k : ℕ} → at + length ds ≤ length o
    → Wrote length ds (take (length o - at) (drop at o)) k part
    → WroteAt ds at o (at + k) (take at o ++ (part ++ drop (length o - at) (drop at o)))
back o at ds h w = record {
  place = rw w.count;
  memory = rw w.memory (part_back o at ds (omega arith));
}

module _ {o : List ℕ} {a b c : ℕ} {p q r : List ℕ} where
  pub end_made : (m : ℕ) → Fitted end_word 0 o a p → Fitted (decimal m) a p b q
      → Fitted feed b q c r → Wrote length (end_line m) o c r
  unfolding end_line
  end_made m f g h = starts (fitted-joined _ (fitted-joined _ f g) h)

  pub refused_made : (x y : ℕ) {e f : ℕ} {s t : List ℕ} → Fitted refused_word 0 o a p
      → Fitted (decimal x) a p b q → Fitted at_word b q c r → Fitted (decimal y) c r e s
      → Fitted feed e s f t → Wrote length (refused_line x y) o f t
  unfolding refused_line
  refused_made x y h1 h2 h3 h4 h5 =
      starts (fitted-joined _ (fitted-joined _ (fitted-joined _ (fitted-joined _ h1 h2) h3) h4) h5)
