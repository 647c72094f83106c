-- `split_lists::number` meets its contract.
use mathlib.Core.Path.{◌≡◌, sym, ap, ◌∙◌}
use mathlib.Core.Bool.{true, false}
use Prim.Native.Nat.{ℕ}
use native.Mathlib.Omega.{arith}
use lib.Bits.{bit_and}
use Rattle.std.proofs.Common.{Ordering, Less, Equal, Greater, nat_cmp}
use Rattle.std.specs.Ordering.{MatchOrdering}
use Rattle.std.proofs.lemmas.Cmp.{ranked}
use Rattle.taxa.specs.Most.{most}
use Rattle.taxa.specs.Sets.{has, size, less, lowest}
use Rattle.tree.specs.Splits.{split}
use Rattle.tree.proofs.SideWritten.{inside-written, outside_written, inside_tie, outside_tie}
use Rattle.split_lists.proofs.number.Goals as goal

-- the order of both counts says which side is written; u is the other side
by_counts : (y s : ℕ) {u own other : ℕ} → u ≡ less y s → own ≡ size most (bit_and s y)
    → other ≡ size most u → (r : Ordering) → r ≡ nat_cmp own other
    → MatchOrdering r (bit_and s y ≡ split most y s)
    ((has s (lowest most y) ≡ true → u ≡ split most y s)
    × (has s (lowest most y) ≡ false → bit_and s y ≡ split most y s))
    (u ≡ split most y s)
by_counts y s {u} {own} {other} hu hi ho Less h =
    let smaller = ranked own other Less h in
    inside-written most y s (omega (arith, smaller, hi, ho ∙ ap (size most) hu))
by_counts y s {u} {own} {other} hu hi ho Equal h =
    let same = sym hi ∙ ranked own other Equal h ∙ ho ∙ ap (size most) hu in
    (λ t. hu ∙ outside_tie most y s same t, λ t. inside_tie most y s same t)
by_counts y s {u} {own} {other} hu hi ho Greater h =
    let larger = ranked own other Greater h in
    hu ∙ outside_written most y s (omega (arith, larger, hi, ho ∙ ap (size most) hu))

pub returns-in-Less : goal.returns-in-Less
returns-in-Less c =
    let a = c.args in
    by_counts a.y a.s c.less-outside.ensures c.size-own.ensures c.size-other.ensures Less
    c.in-Less.ensures

pub returns-in-Greater : goal.returns-in-Greater
returns-in-Greater c =
    let a = c.args in
    by_counts a.y a.s c.less-outside.ensures c.size-own.ensures c.size-other.ensures Greater
    c.in-Greater.ensures

pub returns-in-Equal : goal.returns-in-Equal
returns-in-Equal c =
    let a = c.args in
    (by_counts a.y a.s c.less-outside.ensures c.size-own.ensures c.size-other.ensures Equal
    c.in-Equal.ensures).0 (rw (← c.requires.0) (sym c.if-has.ensures))

pub returns-in-Equal-2 : goal.returns-in-Equal-2
returns-in-Equal-2 c =
    let a = c.args in
    (by_counts a.y a.s c.less-outside.ensures c.size-own.ensures c.size-other.ensures Equal
    c.in-Equal.ensures).1 (rw (← c.requires.0) (sym c.if-has.ensures))
