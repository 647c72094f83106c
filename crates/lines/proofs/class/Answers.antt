-- `lines::class` meets its contract.
use Rattle.lines.specs.Lines.{none_word, full_word, pt_word}
use Rattle.lines.proofs.Widths.{class_none, class_full, class_part}
use Rattle.lines.proofs.Placing.{both}
use Rattle.lines.proofs.class.Goals as goal

pub returns-then-s-eq0 : goal.returns-then-s-eq0
unfolding none_word
returns-then-s-eq0 g c = rw (class_none _ _ c.if-s-eq0.true) c.word.ensures

pub returns-then-s-k : goal.returns-then-s-k
unfolding full_word
returns-then-s-k g c =
    rw (class_full _ _ c.if-s-eq0.false c.if-s-k.true) c.word-then-s-k.ensures

pub returns : goal.returns
unfolding pt_word
returns g c =
    rw (class_part _ _ c.if-s-eq0.false c.if-s-k.false, ← c.class_bin.ensures)
    (both g.met.S.Sink.joined c.word-2.ensures c.number.ensures)
