-- `lines::saved_line` meets its contract.
use Rattle.lines.specs.Lines.{saved_word, saved_line}
use Rattle.lines.proofs.Placing.{both}
use Rattle.lines.proofs.saved_line.Goals as goal

pub returns : goal.returns
unfolding saved_word saved_line
returns g c =
    let j = g.met.S.Sink.joined in
    both j (both j (both j (both j (both j c.number.ensures c.word.ensures) c.number-2.ensures)
    c.word-2.ensures) c.class.ensures) c.word-3.ensures
