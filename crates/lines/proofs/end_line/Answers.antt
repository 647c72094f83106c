-- `lines::end_line` meets its contract.
use Rattle.std.proofs.Common.{rules}
use Rattle.lines.specs.Lines.{end_word}
use Rattle.lines.proofs.Placing.{end_made}
use Rattle.lines.proofs.end_line.Goals as goal

pub returns : goal.returns
unfolding end_word
returns c =
    let w = end_made c.args.m c.word.ensures.bytes.1 c.number.ensures.bytes.1
    c.word-2.ensures.bytes.1 in
    search rules
