-- The four bytes of a move as document 01's move.
use Rattle.moves.specs.Moves as moves
use Rattle.move_plan.specs.declared.Move.{Move}

-- The move that the bytes give.
abbrev pub move_of : Move → moves.Move
move_of m =
    record { kind = m.kind; first = m.first; second = m.second; third = m.third }
