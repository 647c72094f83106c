-- `job_reads::read_move` meets its contract.
use mathlib.Core.Path.{ap}
use Rattle.calls.proofs.SaysLaws.{handed_on}
use Rattle.fields.specs.Fields.{move_in}
use Rattle.job_steps.proofs.StepLaws.{MoveRead, refused-there, done-there}
use Rattle.job_reads.proofs.read_move.Goals.{After-table_bytes}
use Rattle.job_reads.proofs.read_move.Goals as goal

-- past the first test the move is read, and the length of the table is known
read : (c : After-table_bytes)
    → let a = c.args in
    MoveRead a.job.now a.s a.table.now a.parts.now a.out.now
    c.table_bytes.result (move_in c.in_ok-kind.field-0.now)
read c =
    record {
      held = c.requires.2;
      past = c.requires.1;
      framed = record { right = c.in_ok-kind.ensures.0 };
      long = c.table_bytes.ensures;
      is = ap move_in c.in_ok-kind.ensures.1;
    }

pub returns-in_err-wrote : goal.returns-in_err-wrote
returns-in_err-wrote c =
    rw (handed_on _ c.from_residual-in_err-wrote.ensures.1)
    (refused-there (read (goal.at.returns-in_err-wrote c).After-table_bytes) c.in_err-wrote.was
    c.list_move.ensures)

pub returns : goal.returns
returns c =
    done-there (read (goal.at.returns c).After-table_bytes) c.in_ok-wrote.was c.list_move.ensures
