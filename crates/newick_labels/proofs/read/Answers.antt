-- `newick_labels::read` meets its contract.
use Rattle.std.proofs.Common.{◌≡◌, true, false, arith, rules, sym, ◌∙◌, None}
use Rattle.std.proofs.lemmas.Result.{err_from_is_err_and}
use Rattle.taxa.specs.Sets.{has}
use Rattle.newick_labels.specs.Between.{digit_at, begun}
use Rattle.newick_labels.proofs.LabelLaws.{Digit, missed_byte, missed_digit}
use Rattle.newick_labels.proofs.LabelLaws.{found_zero, found_one, found-two}
use Rattle.newick_labels.proofs.LabelLaws.{missed_single, missed_double}
use Rattle.newick_labels.proofs.read.Goals.{In_ok-a, in-Some, in-None}
use Rattle.newick_labels.proofs.read.Goals as goal

-- past the first test a digit stands at the place
first : (c : In_ok-a) → Digit c.args.s.now c.args.at c.args.allowed c.in_ok-a.a
first c = record { small = search rules; is = grind arith }

pub returns-in_err-a : goal.returns-in_err-a
returns-in_err-a c =
    let e : digit_at c.args.s.now c.args.at ≡ None = grind arith in
    let q : c.args.at ≡ c.in_err-a.field-0.0.at = grind arith in
    let p = err_from_is_err_and c.from_residual.result c.from_residual.ensures.1 in
    rw (p.1, p.2, ← q) (missed_byte (search rules) c.requires e)

pub returns-then-not-begins : goal.returns-then-not-begins
returns-then-not-begins c =
    missed_digit (first (goal.at.returns-then-not-begins c).In_ok-a)
    (sym c.begins.ensures ∙ c.if-not-begins.true)

pub returns-then-a-eq0 : goal.returns-then-a-eq0
returns-then-a-eq0 c =
    let at = goal.at.returns-then-a-eq0 c in
    found_zero (first at.In_ok-a) (sym c.begins.ensures ∙ c.if-not-begins.false) c.if-a-eq0.true

pub returns-then-not-among : goal.returns-then-not-among
returns-then-not-among c =
    let at = goal.at.returns-then-not-among c in
    let d = first at.In_ok-a in
    let b : begun c.args.allowed c.in_ok-a.a ≡ true =
    sym c.begins.ensures ∙ c.if-not-begins.false in
    let n : has c.args.allowed c.match-digit_at.taxon.0 ≡ false =
    sym c.among.ensures ∙ c.if-not-among.true in
    elim c.match-digit_at.branch [
      | in-Some w ↦
          missed_double (record {
            first = d;
            more = omega arith;
            is = sym w.in-Some.ensures.is;
          }) b (rw w.taxon-is at n)
      | in-None w ↦ missed_single d b (sym w.in-None.ensures.is) (rw w.taxon-is at n)
    ]

pub returns : goal.returns
returns c =
    let at = goal.at.returns c in
    let d = first at.In_ok-a in
    let m : has c.args.allowed c.match-digit_at.taxon.0 ≡ true =
    sym c.among.ensures ∙ c.if-not-among.false in
    elim c.match-digit_at.branch [
      | in-Some w ↦
          rw w.taxon-is (found-two (record {
            first = d;
            more = omega arith;
            is = sym w.in-Some.ensures.is;
          }) (rw w.taxon-is at m))
      | in-None w ↦ rw w.taxon-is (found_one d (sym w.in-None.ensures.is) (rw w.taxon-is at m))
    ]
