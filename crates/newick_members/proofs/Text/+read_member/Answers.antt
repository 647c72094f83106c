-- `newick_members::Text::read_member` meets its contract.
use Rattle.std.proofs.Common.{◌≡◌, ℕ, true, arith, rules, sym, ap, ◌∙◌}
use Rattle.newick_grammar.specs.Newick.{opens, comma}
use Rattle.newick_members.specs.Between.{here}
use Rattle.newick_members.proofs.Places.{here_in}
use Rattle.newick_members.proofs.StageLaws.{LeftRead, BothRead, got_taxon, group_bad}
use Rattle.newick_members.proofs.StageLaws.{left_ready, comma_bad, right_ready, to_close}
use Rattle.newick_members.proofs.StageLaws.{got_group}
use Rattle.newick_members.proofs.Text.+read_member.Goals.{Else-not-is_at, In_ok-x, In_ok-y}
use Rattle.newick_members.proofs.Text.+read_member.Goals as goal

-- past the first test a parenthesis opens a group at the cursor
opened : (t : ℕ) (c : Else-not-is_at t)
    → here c.args.self.now.bytes.now c.args.c.at opens ≡ true
opened t c = sym c.is_at.ensures ∙ c.if-not-is_at.false

-- the first member is read
half : (t : ℕ) (c : In_ok-x t)
    → let a = c.args in
    LeftRead a.self.now.n a.self.now.bytes.now a.table.now a.c a.least a.more c.read_member.new.table
    c.in_ok-x.x.after c.in_ok-x.x.node
half t c = record {
  ready = c.requires;
  opened = sym c.is_at.ensures ∙ c.if-not-is_at.false;
  left = rw c.ahead-slot.ensures at c.in_ok-x.ensures;
}

-- the second member is read
both : (t : ℕ) (c : In_ok-y t)
    → let a = c.args in
    LeftRead a.self.now.n a.self.now.bytes.now a.table.now a.c a.least a.more c.read_member.new.table
    c.in_ok-x.x.after c.in_ok-x.x.node
    → BothRead a.self.now.n a.self.now.bytes.now a.table.now a.c a.least a.more
    c.read_member-2.new.table c.in_ok-y.y.after c.in_ok-x.x.node c.in_ok-y.y.node
both t c h = record {
  table = _;
  between = _;
  half = h;
  parted = c.in_ok-slot.ensures.0;
  right = rw c.in_ok-slot.ensures.1 at c.in_ok-y.ensures;
}

pub returns-then-not-is_at : goal.returns-then-not-is_at
returns-then-not-is_at t c =
    got_taxon c.args.self.now.few c.requires (sym c.is_at.ensures ∙ c.if-not-is_at.true) _
    c.taxon_at.result c.taxon_at.ensures

pub returns-then-self-size : goal.returns-then-self-size
returns-then-self-size t c =
    let h = opened t (goal.at.returns-then-self-size t c).Else-not-is_at in
    group_bad c.args.self.now.few c.requires h
    (omega (arith, c.if-self-size.true, c.size.ensures))

pub read_member-requires : goal.read_member-requires
read_member-requires t c =
    let h = opened t (goal.at.read_member-requires t c).Else-not-is_at in
    let i = here_in c.args.self.now.bytes.now _ opens h in (
      omega (arith, i, c.decreases, ap (λ z. z.at) c.ahead-slot.ensures),
      rw c.ahead-slot.ensures (left_ready c.args.self.now.few c.requires h
          (omega (arith, c.if-self-size.false, c.size.ensures))),
    )

pub returns-in_err-slot : goal.returns-in_err-slot
returns-in_err-slot t c =
    let h = comma_bad c.args.self.now.few (half t (goal.at.returns-in_err-slot t c).In_ok-x) in
    search rules

pub read_member-requires-2 : goal.read_member-requires-2
read_member-requires-2 t c =
    let h = half t (goal.at.read_member-requires-2 t c).In_ok-x in
    let k = c.in_ok-slot.ensures in
    let i = here_in c.args.self.now.bytes.now _ comma k.0 in (
      omega (arith, i, c.decreases, h.left.past.moved, ap (λ z. z.at) k.1),
      rw k.1 (right_ready c.args.self.now.few h k.0),
    )

pub close-requires : goal.close-requires
close-requires t c =
    let r = c.args.self.now in
    let at = goal.at.close-requires t c in
    to_close r.big r.few (both t at.In_ok-y (half t at.In_ok-x))

pub returns : goal.returns
returns t c =
    let r = c.args.self.now in
    let at = goal.at.returns t c in
    got_group r.big r.few (both t at.In_ok-y (half t at.In_ok-x)) _ c.close.result c.close.ensures
