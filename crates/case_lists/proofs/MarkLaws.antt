-- What the test of lent lists says of lists of numbers. Assumes nothing.
use Rattle.std.proofs.Common.{ℕ, List, Bool, eqb, ◌∙◌}
use Rattle.std.proofs.lemmas.Bool.{eqb-true, eq-eqb}
use Rattle.std.proofs.lemmas.List.{get_or_default}
use Rattle.case_lists.specs.Marks.{Tells, TellsBy}

-- by the test that numbers are equal, an element is the mark where it is equal
pub tells_numbers : {s : List ℕ} {mark from : ℕ} {r : Bool} →
    TellsBy eqb s mark from r → Tells s mark from r
tells_numbers {s} {mark} T = record {
  kept = λ e k below past. eqb-true _ _ (T.kept e k below past 0);
  yes = λ same. T.yes (λ k below past d.
      eq-eqb _ _ (get_or_default s k d 0 below ∙ same k below past));
}
