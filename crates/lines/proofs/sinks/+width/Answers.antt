-- `lines::width` meets its contract.
use Rattle.std.proofs.Common.{arith}
use Rattle.lines.proofs.Widths.{decimal_one, decimal_more, number-few}
use Rattle.lines.proofs.sinks.+width.Goals as goal

pub returns-then-n-lt10 : goal.returns-then-n-lt10
returns-then-n-lt10 t c = decimal_one c.if-n-lt10.true

pub overflow_add-result : goal.overflow_add-result
overflow_add-result t c = omega (arith, number-few, decimal_more c.if-n-lt10.false)

pub returns : goal.returns
returns t c = omega (arith, decimal_more c.if-n-lt10.false)
