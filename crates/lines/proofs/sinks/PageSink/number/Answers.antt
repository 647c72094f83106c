-- `lines::Page::number` meets its contract.
use Rattle.std.proofs.Common.{◌≡◌, arith, ap, ◌∙◌, length, take}
use Rattle.lines.specs.Lines.{decimal}
use Rattle.lines.proofs.Widths.{fewest_decimal}
use Rattle.lines.proofs.sinks.PageSink.number.Goals.{After-decimal-k}
use Rattle.lines.proofs.sinks.PageSink.number.Goals as goal

-- the digits that `io::decimal` left are those of n
digits_are : (c : After-decimal-k)
    → take c.decimal-k.result c.decimal-k.new.out ≡ decimal c.args.n
digits_are c = c.decimal-k.ensures.digits ∙ fewest_decimal _ _ c.decimal-k.ensures.len

pub word-requires : goal.word-requires
word-requires c =
    omega (arith, c.requires, ap length (digits_are (goal.at.word-requires c).After-decimal-k))

pub returns : goal.returns
returns c =
    rw (digits_are (goal.at.returns c).After-decimal-k) at c.word.ensures
