-- `lines::refused_line` meets its contract.
use Rattle.std.proofs.Common.{rules}
use Rattle.lines.specs.Lines.{refused_word, at_word}
use Rattle.lines.proofs.Placing.{refused_made}
use Rattle.lines.proofs.refused_line.Goals as goal

pub returns : goal.returns
unfolding refused_word at_word
returns c =
    let w = refused_made c.args.r c.args.p c.word.ensures.bytes.1 c.number.ensures.bytes.1
    c.word-2.ensures.bytes.1 c.number-2.ensures.bytes.1 c.word-3.ensures.bytes.1 in
    search rules
