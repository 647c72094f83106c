-- `move_listing::write_where_room` meets its contract.
use Rattle.std.proofs.Common.{rules, ◌≡◌, ◌<◌, ◌+◌, ◌≤◌, arith, length}
use Rattle.calls.specs.declared.Refusal.{Refusal}
use Rattle.calls.proofs.SaysLaws.{handed_on}
use Rattle.lines.proofs.Placing.{back}
use Rattle.move_lines.specs.Told.{told}
use Rattle.move_listing.proofs.ListsLaws.{puts_11, puts_done}
use Rattle.move_listing.proofs.write_where_room.Goals as goal

pub returns-in_err-room : goal.returns-in_err-room
returns-in_err-room c =
    let a = c.args in
    let why : c.in_err-room.field-0.0 ≡ Refusal.Room = search rules in
    let past : length a.out.now < a.place = search rules in
    rw (handed_on _ c.from_residual.ensures.1, why)
    (puts_11 (told a.lines.now) a.place a.out.now (omega arith))

pub returns-then-room-width : goal.returns-then-room-width
returns-then-room-width c =
    let a = c.args in
    let some : a.place + c.in_ok-room.room ≡ length a.out.now = search rules in
    puts_11 (told a.lines.now) a.place a.out.now (omega arith)

pub returns : goal.returns
returns c =
    let a = c.args in
    let some : a.place + c.in_ok-room.room ≡ length a.out.now = search rules in
    let fits : a.place + length (told a.lines.now) ≤ length a.out.now = omega arith in
    puts_done (told a.lines.now) a.place a.out.now fits
    (back a.out.now a.place (told a.lines.now) fits c.write.ensures)
