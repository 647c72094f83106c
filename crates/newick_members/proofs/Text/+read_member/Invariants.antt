-- Each call begins further on in the text.
use Rattle.std.proofs.Common.{◌-◌, length}
use Rattle.newick_members.proofs.Text.+read_member.Given as goal

abbrev pub decreases-read_member : goal.decreases-read_member
decreases-read_member l = length l.self.now.bytes.now - l.c.at
