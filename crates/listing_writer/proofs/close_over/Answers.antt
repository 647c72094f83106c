-- `listing_writer::close_over` meets its contract.
use Rattle.std.proofs.Common.{arith}
use Rattle.lines.proofs.Widths.{end_bytes, number-few}
use Rattle.listing_writer.proofs.close_over.Goals as goal

pub end_line-wrote-requires : goal.end_line-wrote-requires
end_line-wrote-requires g c = omega (arith, end_bytes c.args.moves, number-few)
