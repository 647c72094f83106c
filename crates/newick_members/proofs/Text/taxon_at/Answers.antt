-- `newick_members::Text::taxon_at` meets its contract.
use Rattle.std.proofs.Common.{arith, refl, ap, bit_or}
use Rattle.taxa.specs.Sets.{add}
use Rattle.newick_labels.specs.Between.{Found}
use Rattle.newick_members.specs.Between.{allowed}
use Rattle.newick_members.proofs.Members.{allowed-low}
use Rattle.newick_members.proofs.Text.taxon_at.Goals.{In_ok-label}
use Rattle.newick_members.proofs.Text.taxon_at.Goals as goal

-- a label was read, of a taxon that may stand at the cursor
found : (c : In_ok-label)
    → let a = c.args in
    let l = c.in_ok-label.label in
    Found a.self.now.bytes.now a.c.at (allowed a.self.now.n a.c.used a.more) l.taxon l.end
found c = rw c.free_taxa.ensures at c.in_ok-label.ensures

pub only-requires : goal.only-requires
only-requires c =
    let f = found (goal.at.only-requires c).In_ok-label in
    omega (arith, c.args.self.now.few, allowed-low c.args.c.used c.args.more f.among)

pub returns : goal.returns
unfolding add
returns c = record {
  found = found (goal.at.returns c).In_ok-label;
  next = refl;
  used = ap (bit_or c.args.c.used) c.only.ensures;
}
