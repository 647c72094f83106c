-- `job::read_next` meets its contract.
use Rattle.std.proofs.Common.{◌≡◌, rules, arith, sym, ap, ◌∙◌}
use Rattle.calls.proofs.CallLaws.{call-is}
use Rattle.calls.proofs.SaysLaws.{handed_on}
use Rattle.fields.specs.Fields.{tag_at}
use Rattle.fields.specs.Kinds.{tag_of}
use Rattle.fields.specs.declared.Kind.{Kind}
use Rattle.job_steps.specs.Steps.{lending}
use Rattle.job.proofs.FieldSteps.{AtField, tag_16, tag_12, tag_next, taxa_there, table_there}
use Rattle.job.proofs.FieldSteps.{taxa-gives, table-gives, partition_gives, move_gives}
use Rattle.job.proofs.read_next.Goals.{Start, In_ok-allowed}
use Rattle.job.proofs.read_next.Goals as goal

at_field : (c : Start)
    → AtField c.args.job.now c.args.s (lending c.args.table.now c.args.parts.now c.args.out.now)
at_field c = record { held = c.requires.2; inside = c.requires.0 }

-- past both tests the tag is that of the kind
tag_is : (c : In_ok-allowed) {k : Kind} → c.in_ok-allowed.field-0 ≡ k
    → tag_at c.args.job.now c.args.s.at ≡ tag_of k
tag_is c e = sym c.in_ok-allowed.ensures.0 ∙ ap tag_of e

pub returns-in_err-seen_before : goal.returns-in_err-seen_before
returns-in_err-seen_before c =
    let w = c.in_err-seen_before.ensures in
    rw (handed_on _ c.from_residual.ensures.1, w.0)
    (tag_16 (at_field (goal.at.returns-in_err-seen_before c).Start) w.1)

pub returns-in_err-allowed : goal.returns-in_err-allowed
returns-in_err-allowed c =
    let w = c.in_err-allowed.ensures in
    rw (handed_on _ c.from_residual-in_err-allowed.ensures.1, w.0)
    (tag_12 (at_field (goal.at.returns-in_err-allowed c).Start) c.in_ok-seen_before.ensures w.1)

pub read_table-requires : goal.read_table-requires
read_table-requires c =
    let e = tag_is (goal.at.read_table-requires c).In_ok-allowed c.in-Table.is in
    let big = taxa_there c.requires.2 c.in_ok-allowed.ensures.1 (λ h. omega (arith, e, h)) in
    search rules

pub read_partition-requires : goal.read_partition-requires
read_partition-requires c =
    let e = tag_is (goal.at.read_partition-requires c).In_ok-allowed c.in-Partition.is in
    let big = taxa_there c.requires.2 c.in_ok-allowed.ensures.1 (λ h. omega (arith, e, h)) in
    search rules

pub read_move-requires : goal.read_move-requires
read_move-requires c =
    let e = tag_is (goal.at.read_move-requires c).In_ok-allowed c.in-Move.is in
    let past = table_there c.requires.2 c.in_ok-allowed.ensures.1 (λ h. omega (arith, e, h))
    (λ h. omega (arith, e, h)) in
    search rules

pub returns-in-Taxa : goal.returns-in-Taxa
returns-in-Taxa c =
    let a = c.args in
    let at = goal.at.returns-in-Taxa c in
    call-is (tag_next (at_field at.Start) c.in_ok-seen_before.ensures c.in_ok-allowed.ensures.1)
    (taxa-gives a.job.now a.s c.read_taxa.result _ (tag_is at.In_ok-allowed c.in-Taxa.is)
    c.read_taxa.ensures)

pub returns-in-Table : goal.returns-in-Table
returns-in-Table c =
    let a = c.args in
    let at = goal.at.returns-in-Table c in
    call-is (tag_next (at_field at.Start) c.in_ok-seen_before.ensures c.in_ok-allowed.ensures.1)
    (table-gives a.job.now a.s c.read_table.result _ _ _ _
    (tag_is at.In_ok-allowed c.in-Table.is) c.read_table.ensures)

pub returns-in-Partition : goal.returns-in-Partition
returns-in-Partition c =
    let a = c.args in
    let at = goal.at.returns-in-Partition c in
    call-is (tag_next (at_field at.Start) c.in_ok-seen_before.ensures c.in_ok-allowed.ensures.1)
    (partition_gives a.job.now a.s c.read_partition.result _ _ _ _
    (tag_is at.In_ok-allowed c.in-Partition.is) c.read_partition.ensures)

pub returns-in-Move : goal.returns-in-Move
returns-in-Move c =
    let a = c.args in
    let at = goal.at.returns-in-Move c in
    call-is (tag_next (at_field at.Start) c.in_ok-seen_before.ensures c.in_ok-allowed.ensures.1)
    (move_gives a.job.now a.s c.read_move.result (tag_is at.In_ok-allowed c.in-Move.is)
    c.read_move.ensures)
