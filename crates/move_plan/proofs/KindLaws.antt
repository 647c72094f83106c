-- Which byte a kind has, and what is left where a byte has none. Assumes
-- nothing.
use Rattle.std.proofs.Common.{◌≡◌, ℕ, false, Ok, Err, arith, eqb}
use Rattle.std.proofs.lemmas.Bool.Decides.{nat_tests}
use Rattle.calls.specs.declared.Refusal.{Refusal}
use Rattle.move_plan.specs.declared.Kind.{Kind}
use Rattle.move_plan.specs.Between.{kind_of}

pub is_nni : (k : ℕ) → kind_of k ≡ Ok Kind.Nni → k ≡ 1
is_nni k h = grind (arith, nat_tests)

pub is_spr : (k : ℕ) → kind_of k ≡ Ok Kind.Spr → k ≡ 2
is_spr k h = grind (arith, nat_tests)

pub is_tbr : (k : ℕ) → kind_of k ≡ Ok Kind.Tbr → k ≡ 3
is_tbr k h = grind (arith, nat_tests)

-- it is refused with 7
pub record NoKind (k : ℕ) (r : Refusal) : Type 0 where
  pub why : r ≡ Refusal.Kind
  pub one : eqb k 1 ≡ false
  pub two : eqb k 2 ≡ false
  pub three : eqb k 3 ≡ false

pub no_kind : (k : ℕ) {r : Refusal} → kind_of k ≡ Err r → NoKind k r
no_kind k h = record {
  why = grind (arith, nat_tests);
  one = grind (arith, nat_tests);
  two = grind (arith, nat_tests);
  three = grind (arith, nat_tests);
}

-- what the check is to use
pub ruleset kinds = (is_nni, is_spr, is_tbr, no_kind)
