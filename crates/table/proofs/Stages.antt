-- What the checks 1 to 4 say at each test of the code. Assumes nothing.
use mathlib.Core.Path.{◌≡◌, sym, ap, ◌∙◌}
use mathlib.Core.Bool.{Bool, true, false, ◌&&◌}
use mathlib.Core.List.{List, [], ◌∷◌, ◌++◌}
use Prim.Native.Nat.{ℕ, ◌*◌, ◌≤◌, ◌<◌}
use lib.Dec.{eqb, leb}
use lib.ListN.{length}
use borrow.Author.Tests.{le-leb, lt-leb, leb-true, eq-eqb, ne_eqb, eqb-true}
use Rattle.calls.specs.declared.Refusal.{Refusal}
use Rattle.taxa.specs.Most.{most}
use Rattle.taxa.proofs.Bools.{and_left, and_right, and_both, and_false_r}
use Rattle.tree.specs.Tree.{rows, nodes, in_order, right_degree, every}
use Rattle.calls.specs.Calls.{◌else◌, gives, refuses, judged}
use Rattle.table.specs.Between.{row_said, Rowed}
use Rattle.tree.specs.Refusals.{count_checks, row_checks}
use Rattle.calls.proofs.CheckLaws.{judged-next, judged_fail, gives_pass}
use Rattle.table.proofs.Tallies.{Sized, ordered_of, rowed_of}

module _ {n : ℕ} (t : List ℕ) where
  pub is_1_low : n < 4 → refuses Refusal.Count ≡ row_said n t
  is_1_low h = sym (judged_fail (leb 4 n && leb n most) Refusal.Count (row_checks n t) tt
      (ap (λ (b : Bool). b && leb n most) (lt-leb 4 n h)))

  pub is_1_high : most < n → refuses Refusal.Count ≡ row_said n t
  is_1_high h = sym (judged_fail (leb 4 n && leb n most) Refusal.Count (row_checks n t) tt
      (ap (λ (b : Bool). leb 4 n && b) (lt-leb n most h) ∙ and_false_r (leb 4 n)))

  module _ (big : 4 ≤ n) (few : n ≤ most) where
    past_1 : row_said n t ≡ judged (row_checks n t) (tt {0})
    past_1 = judged-next (leb 4 n && leb n most) Refusal.Count (row_checks n t) tt
        (and_both (leb 4 n) (leb n most) (le-leb 4 n big) (le-leb n most few))

    pub is_2 : (length t ≡ 2 * rows n → ⊥) → refuses Refusal.Length ≡ row_said n t
    is_2 h = sym (past_1 ∙ judged_fail (eqb (length t) (2 * rows n)) Refusal.Length _ tt
        (ne_eqb (length t) (2 * rows n) h))

module _ {n : ℕ} {t : List ℕ} (z : Sized n t) where
  past_2 : row_said n t ≡ judged
      ((every (in_order n t) (rows n) else Refusal.Ends)
      ∷ (every (right_degree n t) (nodes n) else Refusal.Degree) ∷ []) (tt {0})
  past_2 = past_1 t z.big z.few
      ∙ judged-next (eqb (length t) (2 * rows n)) Refusal.Length _ tt
      (eq-eqb (length t) (2 * rows n) z.len)

  pub is_3 : every (in_order n t) (rows n) ≡ false → refuses Refusal.Ends ≡ row_said n t
  is_3 h = sym (past_2 ∙ judged_fail (every (in_order n t) (rows n)) Refusal.Ends _ tt h)

  module _ (o : every (in_order n t) (rows n) ≡ true) where
    past_3 : row_said n t
        ≡ judged ((every (right_degree n t) (nodes n) else Refusal.Degree) ∷ []) (tt {0})
    past_3 = past_2 ∙ judged-next (every (in_order n t) (rows n)) Refusal.Ends _ tt o

    pub is_4 : every (right_degree n t) (nodes n) ≡ false → refuses Refusal.Degree ≡ row_said n t
    is_4 h = sym (past_3 ∙ judged_fail (every (right_degree n t) (nodes n)) Refusal.Degree [] tt h)

    pub is_rowed : every (right_degree n t) (nodes n) ≡ true → gives (tt {0}) ≡ row_said n t
    unfolding judged
    is_rowed h = sym (past_3 ∙ judged-next (every (right_degree n t) (nodes n)) Refusal.Degree [] tt
        h)

-- where the checks 1 to 4 refuse nothing, the table has its rows
pub said_rowed : (n : ℕ) (t : List ℕ) → row_said n t ≡ gives tt → Rowed n t
said_rowed n t h =
    let p = gives_pass (count_checks n ++ row_checks n t) tt tt h in
    rowed_of (ordered_of (record {
      big = leb-true 4 n (and_left (leb 4 n) (leb n most) p.0);
      few = leb-true n most (and_right (leb 4 n) (leb n most) p.0);
      len = eqb-true (length t) (2 * rows n) p.1.0;
    }) p.1.1.0) p.1.1.1.0
