-- The three moves of document 01, in its order, and what a move is refused
-- for. Rows are written smaller end first.
use Rattle.std.specs.Prelude.{ℕ, ◌+◌, ◌*◌, ◌-◌, min, max, Bool, true, false, not, ◌&&◌, ◌||◌, List, [], ◌∷◌, eqb, ltb, leb, get_or, set}
use Rattle.calls.specs.declared.Refusal.{Refusal}
use Rattle.taxa.specs.Sets.{pick, has}
use Rattle.tree.specs.Tree.{lo, hi, rows, touches, far, others, part}
use Rattle.tree.specs.Refusals.{each}
use Rattle.calls.specs.Calls.{Check, ◌else◌}

-- A move is four bytes: kind, then three row numbers.
pub record Move : Type 0 where
  pub kind : ℕ
  pub first : ℕ
  pub second : ℕ
  pub third : ℕ

-- What is meant by kind: for an NNI, for an SPR, for a TBR, and for no move.
abbrev pub by_kind : {A : Type 0} → Move → A → A → A → A → A
by_kind m one two three none =
    pick (eqb m.kind 1) one (pick (eqb m.kind 2) two (pick (eqb m.kind 3) three none))

-- Row r becomes u-v.
unfoldable pub put : List ℕ → ℕ → ℕ → ℕ → List ℕ
put t r u v = set (set t (2 * r) (min u v)) (2 * r + 1) (max u v)

-- ---- kind 1, NNI: e, x, y

-- The end that row x has on row e.
abbrev pub end_on : List ℕ → ℕ → ℕ → ℕ
end_on t e x = pick (touches t x (lo t e)) (lo t e) (hi t e)

-- The end that x has on e and the end that y has on e are exchanged.
unfoldable pub nni : List ℕ → ℕ → ℕ → ℕ → List ℕ
nni t e x y =
    let p = end_on t e x in
    let q = far t e p in
    put (put t x q (far t x p)) y p (far t y q)

-- Both ends of e are inner nodes; x is another row at one end of e, y another
-- row at the other end.
unfoldable pub nni_fits : ℕ → List ℕ → ℕ → ℕ → ℕ → Bool
nni_fits n t e x y =
    leb n (lo t e) && leb n (hi t e) && not (eqb x e) && not (eqb y e)
    && (touches t x (lo t e) && touches t y (hi t e) || touches t x (hi t e) && touches t y
    (lo t e))

-- ---- kind 2, SPR: a, b, 0

-- The end of a in b's part.
unfoldable pub end_with : ℕ → List ℕ → ℕ → ℕ → ℕ
end_with n t a b = pick (has (part n t a (lo t a)) (lo t b)) (lo t a) (hi t a)

-- With p an end of a, f and g the other rows at p, f the lower row number, r
-- and s their far ends, and b the row c-d: f becomes r-s, b becomes c-p, g
-- becomes p-d.
abbrev pub put_end : List ℕ → ℕ → ℕ → ℕ → ℕ → List ℕ
put_end t p f g b = put (put (put t f (far t f p) (far t g p)) b (lo t b) p) g p (hi t b)

unfoldable pub move_end : ℕ → List ℕ → ℕ → ℕ → ℕ → List ℕ
move_end n t p a b =
    let fs = others t a p (rows n) in
    put_end t p (get_or fs 0 0) (get_or fs 1 0) b

unfoldable pub spr : ℕ → List ℕ → ℕ → ℕ → List ℕ
spr n t a b = move_end n t (end_with n t a b) a b

-- ---- kind 3, TBR: a, b, c

-- A target touching that end of a means that this end stays.
unfoldable pub stay_or : ℕ → List ℕ → ℕ → ℕ → ℕ → List ℕ
stay_or n t p a b = pick (touches t b p) t (move_end n t p a b)

-- Row a is cut; b is the target in the part of a's smaller end, c in the part
-- of its larger end.
unfoldable pub tbr : ℕ → List ℕ → ℕ → ℕ → ℕ → List ℕ
tbr n t a b c = stay_or n (stay_or n t (lo t a) a b) (hi t a) a c

-- Row b lies in the part of a's end v. A part that is a single taxon has no
-- row, and its target must be a itself.
unfoldable pub target : ℕ → List ℕ → ℕ → ℕ → ℕ → Bool
target n t a v b =
    pick (ltb v n) (eqb b a) (not (eqb b a) && has (part n t a v) (lo t b))

-- Each end of a has its target: b in the part of its smaller end, c in the part
-- of its larger end.
abbrev pub targets : ℕ → List ℕ → ℕ → ℕ → ℕ → Bool
targets n t a b c = target n t a (lo t a) b && target n t a (hi t a) c

-- Row x touches u, and row y touches v.
abbrev pub at_both : List ℕ → ℕ → ℕ → ℕ → ℕ → Bool
at_both t x u y v = touches t x u && touches t y v

-- ---- any move

-- The table after a move.
unfoldable pub moved : ℕ → List ℕ → Move → List ℕ
moved n t m =
    by_kind m (nni t m.first m.second m.third) (spr n t m.first m.second)
    (tbr n t m.first m.second m.third) t

-- Kind 1 to 3, and the last row number of an SPR is 0.
unfoldable pub kind_right : Move → Bool
kind_right m = by_kind m true (eqb m.third 0) true false

-- The row numbers that the move uses, and that each is at most 2n-4.
abbrev pub used_rows : Move → List ℕ
used_rows m =
    let three = m.first ∷ m.second ∷ m.third ∷ [] in
    by_kind m three (m.first ∷ m.second ∷ []) three []

abbrev pub all_rows : ℕ → List ℕ → Bool
all_rows n rs = each (λ r. leb r (2 * n - 4)) rs

unfoldable pub rows_right : ℕ → Move → Bool
rows_right n m = all_rows n (used_rows m)

-- The rows fit the move.
unfoldable pub fits : ℕ → List ℕ → Move → Bool
fits n t m =
    let a = m.first in
    by_kind m (nni_fits n t a m.second m.third) (not (eqb a m.second))
    (targets n t a m.second m.third) false

-- Some end moves: in an SPR b does not touch the end p; in a TBR not both
-- targets touch their ends of a.
unfoldable pub any_moves : ℕ → List ℕ → Move → Bool
any_moves n t m =
    let a = m.first in
    by_kind m true (not (touches t m.second (end_with n t a m.second)))
    (not (at_both t m.second (lo t a) m.third (hi t a))) false

-- 7 to 10.
abbrev pub move_checks : ℕ → List ℕ → Move → List Check
move_checks n t m =
    (kind_right m else Refusal.Kind)
    ∷ (rows_right n m else Refusal.Row)
    ∷ (fits n t m else Refusal.Misfit)
    ∷ (any_moves n t m else Refusal.Idle)
    ∷ []
