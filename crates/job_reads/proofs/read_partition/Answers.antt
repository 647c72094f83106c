-- `job_reads::read_partition` meets its contract.
use Rattle.std.proofs.Common.{arith, ◌<◌, length}
use Rattle.std.proofs.lemmas.Grind.{common_steps}
use Rattle.calls.specs.Calls.{judged}
use Rattle.job_reads.proofs.ReadLaws.{one_more, set_next}
use Rattle.job_reads.proofs.read_partition.Goals as goal

pub returns : goal.returns
unfolding judged
returns c =
    let a = c.args in
    let free : a.s.parts < length a.parts.now = omega arith in
    let n = one_more a.parts.now a.s.parts c.number_in-y.result free in
    let e = set_next a.parts.now a.s.parts c.number_in-y.result free in
    let f = c.in_ok-content.ensures in
    grind (arith, common_steps)
