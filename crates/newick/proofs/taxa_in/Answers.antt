-- `newick::taxa_in` meets its contract.
use Rattle.std.proofs.Common.{arith, sym}
use Rattle.newick.proofs.LineLaws.{no_digit, zero_first, no_second, other_length}
use Rattle.newick.proofs.LineLaws.{one_line, two_line}
use Rattle.newick.proofs.taxa_in.Goals as goal

pub returns-in_err-a : goal.returns-in_err-a
returns-in_err-a c = rw c.from_residual.ensures (no_digit _ (grind arith))

pub returns-then-a-eq0 : goal.returns-then-a-eq0
returns-then-a-eq0 c = zero_first _ (sym c.in_ok-a.ensures.is) c.if-a-eq0.true

pub returns-in_err-digit_at-in-2 : goal.returns-in_err-digit_at-in-2
returns-in_err-digit_at-in-2 c =
    rw c.from_residual-in_err-digit_at-in-2.ensures (no_second _ c.in-2.is (grind arith))

pub returns-in-1 : goal.returns-in-1
returns-in-1 c = one_line _ (sym c.in_ok-a.ensures.is) c.if-a-eq0.false c.in-1.is

pub returns-in_ok-digit_at-in-2 : goal.returns-in_ok-digit_at-in-2
returns-in_ok-digit_at-in-2 c =
    two_line _ (sym c.in_ok-a.ensures.is) c.if-a-eq0.false (sym c.in_ok-digit_at-in-2.ensures.is)
    c.in-2.is

pub returns-in_default : goal.returns-in_default
returns-in_default c = other_length _ (λ q. omega arith) (λ q. omega arith)
