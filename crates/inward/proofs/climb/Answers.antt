-- `inward::climb` meets its contract. At each turn row r is to be given on
-- from its end v; the measure is how many nodes may still come into the order.
use mathlib.Core.Path.{refl, sym, ◌∙◌}
use native.Mathlib.Numerals.{add-one}
use native.Mathlib.Omega.{arith}
use Rattle.std.proofs.lemmas.Result.{err_from_is_err_and}
use Rattle.inward.proofs.Counts.{climbs-few}
use Rattle.inward.proofs.Arrives.{Arrives, arrive_node}
use Rattle.inward.proofs.Steps.{next-taxon, come_home, come_first, second-room, come_second}
use Rattle.inward.proofs.Outward.{no_taxon, not_again}
use Rattle.inward.proofs.climb.Goals.{Else-w-n}
use Rattle.inward.proofs.climb.Goals as goal

-- past both tests row r comes to an inner node
arrives : (c : Else-w-n)
    → let l = c.loop-n in
    let g = c.args in
    Arrives g.n g.t.now l.a g.i l.c l.v l.r c.far-w.result
arrives c =
    record {
      rowed = c.requires.0;
      from = c.loop-n.invariant;
      to = c.far-w.ensures;
      inner = c.if-w-n.false;
    }

pub loop-n-init : goal.loop-n-init
loop-n-init c =
    let p = c.requires in
    next-taxon p.0 p.3 p.1 p.2 refl

pub returns-then-w-eq0 : goal.returns-then-w-eq0
returns-then-w-eq0 c =
    come_home c.requires.0 c.loop-n.invariant
    (sym c.far-w.ensures ∙ c.if-w-eq0.true)

pub returns-then-w-n : goal.returns-then-w-n
returns-then-w-n c =
    no_taxon c.requires.2 c.loop-n.invariant
    (omega (arith, c.far-w.ensures, c.if-w-eq0.false))
    (omega (arith, c.far-w.ensures, c.if-w-n.true))

pub come-requires : goal.come-requires
come-requires c =
    let A = arrives (goal.at.come-requires c).Else-w-n in
    let o = A.rowed.ordered in
    let C = A.from.climbs in (
      C.room,
      omega (arith, o.few, arrive_node A),
      omega (arith, o.few, o.big, climbs-few C),
    )

pub returns-in_default : goal.returns-in_default
returns-in_default c =
    let h = rw c.in_default.is at c.in_ok-x.ensures in
    rw h.1 (come_first (arrives (goal.at.returns-in_default c).Else-w-n) h.0)

pub returns-in_err-x : goal.returns-in_err-x
returns-in_err-x c =
    let A = arrives (goal.at.returns-in_err-x c).Else-w-n in
    rw (err_from_is_err_and c.from_residual.result c.from_residual.ensures.1).1
    (not_again c.requires.2 A c.in_err-x.ensures)

-- where it comes as the second there is room for a node more
pub overflow_add-c : goal.overflow_add-c
overflow_add-c c =
    let A = arrives (goal.at.overflow_add-c c).Else-w-n in
    let h = rw c.in-Some.is at c.in_ok-x.ensures in
    omega (arith, second-room A h.1, A.rowed.ordered.few)

pub loop-n-smaller : goal.loop-n-smaller
loop-n-smaller c =
    let A = arrives (goal.at.loop-n-smaller c).Else-w-n in
    let h = rw c.in-Some.is at c.in_ok-x.ensures in
    omega (arith, second-room A h.1)

pub loop-n-preserved : goal.loop-n-preserved
loop-n-preserved c =
    let h = rw c.in-Some.is at c.in_ok-x.ensures in
    rw (h.3, h.2, add-one c.loop-n.c)
    (come_second (arrives (goal.at.loop-n-preserved c).Else-w-n) h.1 h.0 c.requires.2)
