-- Each call is for a number of fewer digits.
use Rattle.lines.proofs.sinks.+width.Given as goal

abbrev pub decreases-width : goal.decreases-width
decreases-width l = l.n
