-- `lines::verdict_line` meets its contract.
use Rattle.lines.specs.Lines.{same_word, changed_word}
use Rattle.lines.proofs.Widths.{same_pieces, changed_pieces}
use Rattle.lines.proofs.Placing.{both}
use Rattle.lines.proofs.verdict_line.Goals as goal

pub returns-then-d-eq0 : goal.returns-then-d-eq0
unfolding same_word
returns-then-d-eq0 g c =
    let j = g.met.S.Sink.joined in
    rw (same_pieces _ _ _ c.if-d-eq0.true)
    (both j (both j (both j c.number.ensures c.word.ensures) c.number-2.ensures)
    c.word-then-d-eq0.ensures)

pub returns : goal.returns
unfolding changed_word
returns g c =
    let j = g.met.S.Sink.joined in
    rw (changed_pieces _ _ _ c.if-d-eq0.false)
    (both j (both j (both j (both j (both j c.number.ensures c.word.ensures) c.number-2.ensures)
    c.word-2.ensures) c.number-3.ensures) c.word-3.ensures)
