-- A table that no check refuses is valid, and the other way round, in any
-- edition that reads two node numbers to a row. Assumes nothing.
use mathlib.Core.Path.{◌≡◌, sym, ap, ◌∙◌}
use mathlib.Core.Logic.{◌⊎◌, inl, inr, ◌↔◌}
use mathlib.Core.Bool.{Bool, true, false}
use mathlib.Core.List.{List}
use Prim.Native.Nat.{ℕ, ◌*◌, ◌-◌, ◌≤◌, ◌<◌}
use native.Mathlib.Omega.{arith}
use lib.Dec.{eqb, ltb, leb}
use lib.ListN.{length}
use borrow.Author.Tests.{eqb-true, ltb-true, ltb-false, leb-true, le-ltb, lt-ltb, le-leb, eq-eqb}
use Rattle.calls.specs.Calls.{gives, Pass}
use Rattle.calls.proofs.CheckLaws.{gives_pass, judged-all}
use Rattle.taxa.specs.Sets.{pick}
use Rattle.taxa.proofs.Bools.{either, and_left, and_right, and_both}
use Rattle.tree.specs.Tree.{lo, hi, rows, nodes, in_order, right_degree, from_zero, degree}
use Rattle.tree.specs.Tree.{wanted, Valid}
use Rattle.tree.specs.Editions.{Edition, narrow}
use Rattle.tree.specs.Refusals.{tree_checks_of, tree_said_of, AcceptedOf, tree_checks, tree_said}
use Rattle.tree.specs.Refusals.{Accepted}
use Rattle.tree.proofs.RowCounts.{every-all, all-every}

-- A table of the right length in bytes is read as two node numbers to a row.
abbrev pub Sized : Edition → Type 0
Sized E = (k : ℕ) (b : List ℕ) → length b ≡ E.long k → length (E.read b) ≡ 2 * k

module _ (E : Edition) (sized : Sized E) (n : ℕ) (b : List ℕ) where
  abbrev t : List ℕ
  t = E.read b

  pub pass_accepted_of : Pass (tree_checks_of E n b) → AcceptedOf E n b
  pass_accepted_of p =
      let big = leb-true 4 n (and_left (leb 4 n) (leb n E.taxa) p.0) in
      let whole = eqb-true (length b) (E.long (rows n)) p.1.0 in
      record {
        few = leb-true n E.taxa (and_right (leb 4 n) (leb n E.taxa) p.0);
        whole = whole;
        valid = record {
          big = big;
          len = sized (rows n) b whole;
          order = λ r l.
              let w = every-all (in_order n t) (rows n) p.1.1.0 r l in
              let high = and_right (ltb (lo t r) (hi t r)) (leb (hi t r) (2 * n - 3)) w in (
                ltb-true (lo t r) (hi t r)
                    (and_left (ltb (lo t r) (hi t r)) (leb (hi t r) (2 * n - 3)) w),
                omega (arith, leb-true (hi t r) (2 * n - 3) high, big),
              );
          leaf = λ v a.
              let w = every-all (right_degree n t) (nodes n) p.1.1.1.0 v
              (omega (arith, big)) in
              eqb-true (degree n t v) (wanted n v) w ∙ ap (λ (x : Bool). pick x 1 3) (lt-ltb v n a);
          inner = λ v a l.
              let w = every-all (right_degree n t) (nodes n) p.1.1.1.0 v l in
              eqb-true (degree n t v) (wanted n v) w ∙ ap (λ (x : Bool). pick x 1 3) (le-ltb v n a);
          connected = record {
            reached = λ v l. every-all (from_zero n t) (nodes n)
                p.1.1.1.1.0 v l;
          };
        };
      }

module _ (E : Edition) (n : ℕ) (b : List ℕ) (a : AcceptedOf E n b) where
  right-degree : (v : ℕ) → v < nodes n → (ltb v n ≡ true) ⊎ (ltb v n ≡ false)
      → eqb (degree n (E.read b) v) (wanted n v) ≡ true
  right-degree v l (inl w) =
      eq-eqb (degree n (E.read b) v) (wanted n v)
      (a.valid.leaf v (ltb-true v n w) ∙ sym (ap (λ (x : Bool). pick x 1 3) w))
  right-degree v l (inr w) =
      eq-eqb (degree n (E.read b) v) (wanted n v)
      (a.valid.inner v (ltb-false v n w) l ∙ sym (ap (λ (x : Bool). pick x 1 3) w))

  in_order_lem : (r : ℕ) → r < rows n → in_order n (E.read b) r ≡ true
  in_order_lem r l =
      let t = E.read b in
      let w = a.valid.order r l in
      and_both (ltb (lo t r) (hi t r)) (leb (hi t r) (2 * n - 3)) (lt-ltb (lo t r) (hi t r) w.0)
      (le-leb (hi t r) (2 * n - 3) (omega (arith, w.1)))

  pub accepted_pass_of : Pass (tree_checks_of E n b)
  accepted_pass_of =
      let t = E.read b in
      let vt = a.valid in
      let count = and_both (leb 4 n) (leb n E.taxa) (le-leb 4 n vt.big)
      (le-leb n E.taxa a.few) in
      let long = eq-eqb (length b) (E.long (rows n)) a.whole in
      let ends = all-every (in_order n t) (rows n) in_order_lem in
      let degrees = all-every (right_degree n t) (nodes n)
      (λ v l. right-degree v l (either (ltb v n))) in
      let reached = all-every (from_zero n t) (nodes n) (λ v l. vt.connected.reached v l) in
      (count, (long, (ends, (degrees, (reached, tt)))))

-- The checks 1 to 5 refuse nothing exactly where the table has its length and
-- is valid, with no more taxa than the most.
pub accepted_iff_of : {E : Edition} → Sized E → (n : ℕ) (b : List ℕ)
    → (tree_said_of E n b ≡ gives tt) ↔ AcceptedOf E n b
accepted_iff_of {E} sized n b = (
  λ h. pass_accepted_of E sized n b (gives_pass (tree_checks_of E n b) tt tt h),
  λ a. judged-all (tree_checks_of E n b) tt (accepted_pass_of E n b a),
)

-- ---- the narrow edition
narrow_sized : Sized narrow
narrow_sized k b h = h

pub pass_accepted : (n : ℕ) (t : List ℕ) → Pass (tree_checks n t) → Accepted n t
pass_accepted = pass_accepted_of narrow narrow_sized

pub accepted_pass : (n : ℕ) (t : List ℕ) → Accepted n t → Pass (tree_checks n t)
accepted_pass = accepted_pass_of narrow

pub accepted_iff : (n : ℕ) (t : List ℕ) → (tree_said n t ≡ gives tt) ↔ Accepted n t
accepted_iff = accepted_iff_of narrow_sized

-- A valid table of no more taxa than the most is accepted.
pub valid_accepted : {n : ℕ} {t : List ℕ} → n ≤ narrow.taxa → Valid n t → Accepted n t
valid_accepted few v = record { few = few; whole = v.len; valid = v }
