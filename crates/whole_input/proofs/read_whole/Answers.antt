-- `whole_input::read_whole` meets its contract.
use Rattle.std.proofs.Common.{◌++◌, arith, take, length-append, length-take-le}
use Rattle.std.proofs.KnownBytes.{Consumes-trans}
use Rattle.whole_input.proofs.read_whole.Goals as goal

pub returns-else-whole-clause-read : goal.returns-else-whole-clause-read
returns-else-whole-clause-read g c =
    let put = c.fill-got.ensures in
    let more = c.whole.ensures.one in
    let got = c.fill-got.result in
    let bs = take got c.fill-got.new.buf in (
      bs ++ more.0,
      Consumes-trans _ _ _ _ _ put.bytes more.1,
      Prim.omega (
        arith,
        length-append bs more.0,
        length-take-le got c.fill-got.new.buf put.within,
        more.2,
      ),
    )
