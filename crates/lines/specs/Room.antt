-- What only stands between the functions: bytes after bytes in lent memory, as
-- long as there is room. The laws of it are those of what takes bytes.
-- Assumes nothing.
use Rattle.std.specs.Prelude.{ℕ, ◌+◌, ◌-◌, ◌≤◌, ◌≡◌, List, [], ◌∷◌, ◌++◌, length, take, drop}
use Rattle.std.proofs.Common.{sym, ap, ap₂, ◌∙◌, arith, append_assoc, length-append}
use lib.ListN.{length-drop, take-append-drop}
use lib.Seq.{take_at, drop_at, drop-drop, length-take-le}
use Rattle.lines.specs.Lines.{placed}
use Rattle.lines.specs.Between.{WroteAt}

-- There is room for w from place at on, and it stands there.
pub record Fitted (w : List ℕ) (at : ℕ) (out : List ℕ) (r : ℕ) (out' : List ℕ) : Type 0 where
  pub fits : length w ≤ length out - at
  pub wrote : WroteAt w at out r out'

-- placed twice
pub placed-placed : (o : List ℕ) (at : ℕ) (ds es : List ℕ) → at + length ds + length es ≤ length o
    → placed (placed o at ds) (at + length ds) es ≡ placed o at (ds ++ es)
placed-placed o at ds es h =
    let n : length (take at o ++ ds) ≡ at + length ds = length-append (take at o) ds
    ∙ ap (λ (k : ℕ). k + length ds) (length-take-le at o (omega arith)) in
    let r : List ℕ = drop (at + length ds) o in
    let e : take at o ++ (ds ++ r) ≡ (take at o ++ ds) ++ r = sym (append_assoc (take at o) ds r) in
    let f : take (at + length ds) (take at o ++ (ds ++ r)) ≡ take at o ++ ds =
    ap (λ (l : List ℕ). take (at + length ds) l) e
    ∙ take_at (take at o ++ ds) r (at + length ds) n in
    let q : at + length ds + length es ≡ at + length (ds ++ es) =
    omega (arith, length-append ds es) in
    let g : drop (at + length ds + length es) (take at o ++ (ds ++ r))
    ≡ drop (at + length (ds ++ es)) o =
    sym (drop-drop (length es) (at + length ds) (take at o ++ (ds ++ r)))
    ∙ ap (λ (l : List ℕ). drop (length es) l) (ap (λ (l : List ℕ). drop (at + length ds) l) e
    ∙ drop_at (take at o ++ ds) r (at + length ds) n)
    ∙ drop-drop (length es) (at + length ds) o
    ∙ ap (λ (k : ℕ). drop k o) q in
    rw (f, g) (simp append_assoc)

-- nothing placed
pub placed-nothing : (o : List ℕ) (at : ℕ) → placed o at [] ≡ o
placed-nothing o at = ap (λ (k : ℕ). take at o ++ drop k o) (omega arith) ∙ take-append-drop at o

-- What is placed where there is room for it leaves the length.
pub placed-length : (o : List ℕ) (at : ℕ) (ds : List ℕ) → length ds ≤ length o - at
    → length (placed o at ds) ≡ length o
placed-length o at [] h = ap length (placed-nothing o at)
placed-length o at (d ∷ ds) h = omega (
  arith,
  length-append (take at o) ((d ∷ ds) ++ drop (at + length (d ∷ ds)) o),
  length-append (d ∷ ds) (drop (at + length (d ∷ ds)) o),
  length-take-le at o (omega arith),
  length-drop (at + length (d ∷ ds)) o,
)

-- Nothing fits everywhere.
pub fitted-nothing : (at : ℕ) (out : List ℕ) → Fitted [] at out at out
fitted-nothing at out = record {
  fits = omega arith;
  wrote = record { place = omega arith; memory = sym (placed-nothing out at) };
}

-- Two pieces, one after the other.
pub fitted-joined : (v : List ℕ) {w : List ℕ} {at : ℕ} {o : List ℕ} {a b : ℕ} {p q : List ℕ}
    → Fitted v at o a p → Fitted w a p b q → Fitted (v ++ w) at o b q
fitted-joined [] {w} {at} {o} {a} {b} {p} {q} f g =
    let e : a ≡ at = omega (arith, f.wrote.place) in
    let u : p ≡ o = f.wrote.memory ∙ placed-nothing o at in
    rw (e, u) at g
fitted-joined (x ∷ v) {w} {at} {o} {a} {b} {p} {q} f g =
    let n = placed-length o at (x ∷ v) f.fits in
    let room : length w ≤ length p - a = g.fits in
    let m : length p ≡ length o = ap length f.wrote.memory ∙ n in
    record {
      fits = omega (arith, f.fits, f.wrote.place, room, m, length-append (x ∷ v) w);
      wrote = record {
        place = g.wrote.place ∙ omega (arith, f.wrote.place, length-append (x ∷ v) w);
        memory = g.wrote.memory
            ∙ ap₂ (λ (l : List ℕ) (k : ℕ). placed l k w) f.wrote.memory f.wrote.place
            ∙ placed-placed o at (x ∷ v) w (omega (arith, f.fits, f.wrote.place, room, m));
      };
    }
