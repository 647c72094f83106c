-- `ascending::insert` meets its contract: x stands at its place already, or a
-- place is opened for it.
use Rattle.std.proofs.Common.{arith}
use Rattle.ascending.proofs.Insertion.{Opened, opened, there}
use Rattle.ascending.proofs.insert.Goals as goal
use Rattle.ascending.proofs.insert.Goals.{Joined-else-i-len}
use Rattle.ascending.proofs.insert.Goals.{else-i-len-via-then-i-len+else-out-i}
use Rattle.ascending.proofs.insert.Goals.{else-i-len-via-else-i-len}

-- where a place is opened, x does not stand there
opens : (c : Joined-else-i-len) → Opened c.args.x c.args.out.now c.args.len c.place-i.result
opens c =
    opened (record { fits = c.requires.0; place = c.place-i.ensures })
    (λ h e. elim c.else-i-len.branch [
      | else-i-len-via-then-i-len+else-out-i w ↦ omega arith
      | else-i-len-via-else-i-len w ↦ omega arith
    ])
    c.requires.1

pub returns-then-out-i : goal.returns-then-out-i
returns-then-out-i c =
    there (record { fits = c.requires.0; place = c.place-i.ensures }) c.if-i-len.true
    c.if-out-i.true

pub overflow_add-i : goal.overflow_add-i
overflow_add-i c =
    let w = opens (goal.at.overflow_add-i c).Joined-else-i-len in record { fits = omega arith }

pub copy_within-requires-clause-start_le_end : goal.copy_within-requires-clause-start_le_end
copy_within-requires-clause-start_le_end c =
    (opens (goal.at.copy_within-requires-clause-start_le_end c).Joined-else-i-len).low

pub copy_within-requires-clause-dest_in_bounds : goal.copy_within-requires-clause-dest_in_bounds
copy_within-requires-clause-dest_in_bounds c =
    let w = opens (goal.at.copy_within-requires-clause-dest_in_bounds c).Joined-else-i-len in
    omega arith

pub offset_bounds-out-i-2 : goal.offset_bounds-out-i-2
offset_bounds-out-i-2 c =
    let w = opens (goal.at.offset_bounds-out-i-2 c).Joined-else-i-len in
    omega (arith, c.well_formed)

pub bounds-out-i-2 : goal.bounds-out-i-2
bounds-out-i-2 c =
    let w = opens (goal.at.bounds-out-i-2 c).Joined-else-i-len in
    omega arith

pub returns : goal.returns
returns c =
    let w = opens (goal.at.returns c).Joined-else-i-len in
    record { count = w.count; memory = rw c.copy_within.ensures.after w.gives }
