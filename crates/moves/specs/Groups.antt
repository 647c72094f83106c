-- The groups of taxa about a move, and the papers' distance from how many of
-- them are met.
use Rattle.std.specs.Prelude.{ℕ, zero, suc, ◌+◌, ◌*◌, ◌-◌, ◌^◌, ◌%◌, Bool, true, false, ◌||◌, List, [], ◌∷◌, ◌++◌, eqb, ltb, get_or}
use Rattle.std.specs.Int.Bits.{bit_and}
use Rattle.taxa.specs.Sets.{pick, tally, has, some}
use Rattle.tree.specs.Tree.{lo, hi, rows, nodes, far, others, part}
use Rattle.moves.specs.Moves.{Move, by_kind, end_with}

-- The taxa beyond row x, seen from its end v.
unfoldable pub beyond : ℕ → List ℕ → ℕ → ℕ → ℕ
beyond n t v x = part n t x (far t x v) % 2 ^ n

-- From v, row x is row b or leads to it.
unfoldable pub leads : ℕ → List ℕ → ℕ → ℕ → ℕ → Bool
leads n t b v x = eqb x b || has (part n t x (far t x v)) (lo t b)

-- At node v, come by row e: of the two other rows the one that leads on to row
-- b, and the one that does not.
unfoldable pub onward : ℕ → List ℕ → ℕ → ℕ → ℕ → ℕ
onward n t b v e =
    let x = get_or (others t e v (rows n)) 0 0 in
    let y = get_or (others t e v (rows n)) 1 0 in
    pick (leads n t b v x) x y

unfoldable pub aside : ℕ → List ℕ → ℕ → ℕ → ℕ → ℕ
aside n t b v e =
    let x = get_or (others t e v (rows n)) 0 0 in
    let y = get_or (others t e v (rows n)) 1 0 in
    pick (leads n t b v x) y x

-- From node v, reached by row e, walk towards row b in at most k nodes: each
-- node passed adds the group that hangs from it; the last is beyond b.
unfoldable pub walk : ℕ → List ℕ → ℕ → ℕ → ℕ → ℕ → List ℕ
walk n t b zero v e = []
walk n t b (suc k) v e =
    let on = onward n t b v e in
    beyond n t v (aside n t b v e)
    ∷ elim (eqb on b) [ true ↦ beyond n t v b ∷ [] | false ↦ walk n t b k (far t on v) on ]

-- The groups on the side of row a's end v, whose target is b: no row, one
-- group, the single taxon; otherwise those on the walk.
unfoldable pub groups : ℕ → List ℕ → ℕ → ℕ → ℕ → List ℕ
groups n t a v b = pick (ltb v n) (2 ^ v ∷ []) (walk n t b (nodes n) v a)

-- An end that stays has two groups, one beyond each row, or the single taxon.
unfoldable pub stayed : ℕ → List ℕ → ℕ → ℕ → List ℕ
stayed n t a v =
    pick (ltb v n) (2 ^ v ∷ [])
    (beyond n t v (get_or (others t a v (rows n)) 0 0) ∷ beyond n t v
    (get_or (others t a v (rows n)) 1 0) ∷ [])

-- How many groups meet y.
unfoldable pub met : ℕ → List ℕ → ℕ
met y [] = 0
met y (g ∷ gs) = tally (some (bit_and g y)) + met y gs

-- The distance from the numbers k and j of groups met on the two sides.
unfoldable pub rule : ℕ → ℕ → ℕ
rule k j = pick (eqb k 0 || eqb j 0) 0 (2 * (k - 2 + (j - 2)))

-- NNI: four groups hang around e, two at each end; the distance is 2 when all
-- four meet y, else 0.
unfoldable pub nni_rule : ℕ → List ℕ → ℕ → ℕ → ℕ
nni_rule n t e y =
    pick (eqb (met y (stayed n t e (lo t e) ++ stayed n t e (hi t e))) 4) 2 0

-- SPR: the groups from the moved row's end p to its target, and those of the
-- part that is moved, a staying end.
unfoldable pub spr_rule : ℕ → List ℕ → ℕ → ℕ → ℕ → ℕ
spr_rule n t a b y =
    let p = end_with n t a b in rule (met y (groups n t a p b)) (met y (stayed n t a (far t a p)))

-- TBR: the groups on the two sides of the row that is cut.
unfoldable pub tbr_rule : ℕ → List ℕ → ℕ → ℕ → ℕ → ℕ → ℕ
tbr_rule n t a b c y =
    rule (met y (groups n t a (lo t a) b)) (met y (groups n t a (hi t a) c))

-- The papers' distance of a move over y.
unfoldable pub move_rule : ℕ → List ℕ → Move → ℕ → ℕ
move_rule n t m y =
    by_kind m (nni_rule n t m.first y) (spr_rule n t m.first m.second y)
    (tbr_rule n t m.first m.second m.third y) 0
