-- What the check of a tree says at each test of the code. Assumes nothing.
use mathlib.Core.Path.{◌≡◌, sym, ap, ◌∙◌}
use mathlib.Core.Bool.{Bool, true, false}
use mathlib.Core.List.{List, [], ◌++◌}
use Rattle.std.specs.Prelude.{Result, Ok, Err}
use Prim.Native.Nat.{ℕ}
use native.Mathlib.Omega.{arith}
use Rattle.tree.specs.Tree.{nodes, from_zero, every}
use Rattle.calls.specs.Calls.{gives, refuses, judged, says}
use Rattle.tree.specs.Refusals.{count_checks, row_checks, reach_checks, tree_checks, tree_said, Accepted}
use Rattle.calls.proofs.CheckLaws.{judged_pass, judged-next, judged_fail, gives_pass, refuses_more}
use Rattle.tree.proofs.RefusalLaws.{pass_accepted}
use Rattle.table.specs.Between.{row_said, Rowed}
use Rattle.table.proofs.Stages.{said_rowed}
use Rattle.calls.specs.declared.Refusal.{Refusal}
use Rattle.inward.specs.Between.{Inward, Arranged}
use Rattle.inward.proofs.Whole.{inward-near}
use Rattle.sides.specs.Between.{Sides, Sided, Looked, Arranges, Sighted, Found}

module _ (n : ℕ) (t : List ℕ) where
  past_4 : row_said n t ≡ gives tt → tree_said n t ≡ judged (reach_checks n t) (tt {0})
  past_4 h = judged_pass (count_checks n ++ row_checks n t) (reach_checks n t) tt
      (gives_pass (count_checks n ++ row_checks n t) tt tt h)

  is_tree : row_said n t ≡ gives tt → every (from_zero n t) (nodes n) ≡ true
      → gives (tt {0}) ≡ tree_said n t
  unfolding judged
  is_tree h r = sym (past_4 h ∙ judged-next (every (from_zero n t) (nodes n)) Refusal.Unreached [] tt
      r)

  is_5 : row_said n t ≡ gives tt → every (from_zero n t) (nodes n) ≡ false
      → refuses Refusal.Unreached ≡ tree_said n t
  is_5 h r = sym (past_4 h ∙ judged_fail (every (from_zero n t) (nodes n)) Refusal.Unreached [] tt r)

  -- a refusal gives no tree
  not_tree : {X : Type 0} (k : Refusal) → refuses k ≡ tree_said n t → tree_said n t ≡ gives tt → X
  not_tree k h g = absurd (let z : ◌≡◌ {A = ℕ} 0 1 = cc in omega arith)

-- ---- what is found; c is what the checks 1 to 4 answer
rows_right : (n : ℕ) (t : List ℕ) {c : Result (Unit {0}) Refusal} → says c ≡ row_said n t → c ≡ Ok tt
    → row_said n t ≡ gives tt
rows_right n t e h = sym e ∙ ap says h

pub found_rowed : {n : ℕ} {t : List ℕ} {c : Result (Unit {0}) Refusal} → says c ≡ row_said n t
    → c ≡ Ok tt → Rowed n t
found_rowed {n} {t} e h = said_rowed n t (rows_right n t e h)

-- at each return of the search for an order
module _ {n : ℕ} {t : List ℕ} {c : Result (Unit {0}) Refusal} (rows-say : says c ≡ row_said n t)
    {a : List ℕ} where
  pub arranges_rows : {k : Refusal} → c ≡ Err k → Arranges n t (Err k) a
  arranges_rows {k} h =
      let said : row_said n t ≡ refuses k = sym rows-say ∙ ap says h in
      let e : refuses k ≡ tree_said n t =
      sym (refuses_more (count_checks n ++ row_checks n t) (reach_checks n t) tt tt k said) in
      record { says = e; inward = not_tree n t k e }

  module _ (h : c ≡ Ok tt) {b : Bool} (A : Arranged n t b a) where
    pub arranges_tree : b ≡ true → Arranges n t (Ok tt) a
    arranges_tree w =
        record {
          says = is_tree n t (rows_right n t rows-say h) (sym A.all ∙ w);
          inward = λ g. A.inward w;
        }

    pub arranges_5 : b ≡ false → Arranges n t (Err Refusal.Unreached) a
    arranges_5 w =
        let e = is_5 n t (rows_right n t rows-say h) (sym A.all ∙ w) in
        record { says = e; inward = not_tree n t _ e }

-- at each return of the look
module _ {n : ℕ} {t : List ℕ} {c : Result (Unit {0}) Refusal} {a : List ℕ} (R : Arranges n t c a) where
  pub found_refusal : {s : List ℕ} {k : Refusal} → c ≡ Err k
      → Found n t (Err k) a s
  found_refusal {k = k} h =
      let e : refuses k ≡ tree_said n t = ap says (sym h) ∙ R.says in
      record { sighted = record { says = e; sides = not_tree n t k e }; near = not_tree n t k e }

  module _ (h : c ≡ Ok tt) where
    tree_said_lem : gives tt ≡ tree_said n t
    tree_said_lem = ap says (sym h) ∙ R.says

    pub tree_inward : Inward n t a
    tree_inward = R.inward (sym tree_said_lem)

    pub tree_accepted : Accepted n t
    tree_accepted = pass_accepted n t (gives_pass (tree_checks n t) tt tt (sym tree_said_lem))

    pub found_tree : {s : List ℕ} → Sides n t s → Found n t (Ok tt) a s
    found_tree S =
        record {
          sighted = record { says = tree_said_lem; sides = λ g. S };
          near = λ g. inward-near tree_inward;
        }

-- a tree's table has its rows
pub accepted_rowed : {n : ℕ} {t : List ℕ} → Accepted n t → Rowed n t
accepted_rowed a = record {
  ordered = record {
    big = a.valid.big;
    few = a.few;
    len = a.valid.len;
    order = a.valid.order;
  };
  leaf = a.valid.leaf;
  inner = a.valid.inner;
}

-- what an answer of the check tells
module _ {n : ℕ} {t : List ℕ} {c : Result (Unit {0}) Refusal} {s : List ℕ} (f : Sighted n t c s) where
  pub sighted-given : tree_said n t ≡ gives tt → Sided n t s
  sighted-given g = record {
    good = pass_accepted n t (gives_pass (tree_checks n t) tt tt g);
    sides = f.sides g;
  }

  pub sighted_sided : c ≡ Ok tt → Sided n t s
  sighted_sided e = sighted-given (sym f.says ∙ ap says e)

  pub sighted-refused : {r : Refusal} → c ≡ Err r → tree_said n t ≡ refuses r
  sighted-refused e = sym f.says ∙ ap says e

module _ {n : ℕ} {t : List ℕ} {c : Result (Unit {0}) Refusal} {near s : List ℕ} (f : Found n t c near s) where
  pub found-given : tree_said n t ≡ gives tt → Looked n t near s
  found-given g =
      let S = sighted-given f.sighted g in
      record { good = S.good; rows = f.near g; sides = S.sides }

  pub found-looked : c ≡ Ok tt → Looked n t near s
  found-looked e = found-given (sym f.sighted.says ∙ ap says e)

  pub found-refused : {r : Refusal} → c ≡ Err r → tree_said n t ≡ refuses r
  found-refused = sighted-refused f.sighted

-- a tree that was looked at has its sides
pub looked_sided : {n : ℕ} {t near s : List ℕ} → Looked n t near s → Sided n t s
looked_sided l = record { good = l.good; sides = l.sides }
