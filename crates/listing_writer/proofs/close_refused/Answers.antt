-- `listing_writer::close_refused` meets its contract.
use Rattle.std.proofs.Common.{arith}
use Rattle.lines.proofs.Widths.{refused-bytes, number-few, decimal-few}
use Rattle.listing_writer.proofs.close_refused.Goals as goal

pub refused_line-wrote-requires : goal.refused_line-wrote-requires
refused_line-wrote-requires g c =
    let why = c.from-number.result in
    let bytes = refused-bytes why c.args.place in
    omega (arith, number-few, decimal-few why (omega arith))
