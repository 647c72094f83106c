-- The front door: what it says is what the checks of the tree, the partitions
-- and the move say in order; and what a call through it goes on with. Assumes
-- nothing.
use mathlib.Core.Path.{◌≡◌, refl, sym, ap, ◌∙◌}
use mathlib.Core.Bool.{true}
use mathlib.Core.List.{List, ◌++◌}
use Rattle.std.specs.Prelude.{Result, Ok, Err}
use Prim.Native.Nat.{ℕ}
use Rattle.calls.specs.declared.Refusal.{Refusal}
use Rattle.calls.specs.Calls.{Check, Said, gives, refuses, refuses_at, judged, then_said}
use Rattle.calls.specs.Calls as calls
use Rattle.calls.proofs.SaysLaws.{handed_on}
use Rattle.calls.proofs.CheckLaws.{judged-then, judged_pass, judged-all, gives_pass, gives_same}
use Rattle.calls.proofs.CheckLaws.{refuses_more, pass_before, pass_after, pass_both}
use Rattle.tree.specs.Refusals.{tree_checks, tree_said}
use Rattle.tree.proofs.RefusalLaws.{accepted_pass}
use Rattle.sides.specs.Between.{Found}
use Rattle.sides.proofs.LookLaws.{found-refused, found-given}
use Rattle.moves.specs.Moves.{Move, moved, move_checks}
use Rattle.moves.specs.Between.{plan_of, plan_moved, Planned}
use Rattle.moves.specs.declared.Plan.{Plan}
use Rattle.moves.proofs.AnyMove.Plans.{plan-moved}
use Rattle.door.specs.Between.{counted, door_checks, parts_said, opened_said, entered_said}
use Rattle.door.specs.Between.{Entered, Ready, Opened}

module _ (n : ℕ) (t : List ℕ) (cs : List Check) (m : Move) where
  -- The door says what these checks say.
  pub entered_is : entered_said n t (parts_said n cs) m ≡ judged (door_checks n t cs m) (plan_of n t m)
  entered_is = go (tree_said n t) refl
      ∙ sym (judged-then (tree_checks n t) (cs ++ move_checks n t m) (plan_of n t m))
    where
      rest : Said Plan
      rest = judged (cs ++ move_checks n t m) (plan_of n t m)

      go : (s : Said (Unit {0})) → tree_said n t ≡ s
          → then_said s (λ u. opened_said n t (parts_said n cs) m) ≡ then_said s (λ u. rest)
      go (gives tt) h =
          let n_right : counted n ≡ true = (gives_pass (tree_checks n t) tt tt h).0 in
          rw n_right (sym (judged-then cs (move_checks n t m) (plan_of n t m)))
      go (refuses k) h = refl
      go (refuses_at k p) h = refl

  -- And so it is with more checks after them, and another answer.
  module _ {A : Type 0} (more : List Check) (a : A) where
    pub door_stands : {k : Refusal} → entered_said n t (parts_said n cs) m ≡ refuses k
        → judged (door_checks n t cs m ++ more) a ≡ refuses k
    door_stands {k} h = refuses_more (door_checks n t cs m) more (plan_of n t m) a k
        (sym entered_is ∙ h)

-- ---- the answer of the door
module _ (cs : List Check) {n : ℕ} {t : List ℕ} {m : Move} {r : Result Plan Refusal} {near s : List ℕ}
    {parts : Said (Unit {0})}
    (by : parts ≡ parts_said n cs) (e : Entered n t parts m r near s) where
  says : calls.says r ≡ entered_said n t (parts_said n cs) m
  says = e.says ∙ ap (λ (x : Said (Unit {0})). entered_said n t x m) by

  -- A refusal is the call's.
  pub door_refuses : {A : Type 0} (more : List Check) (a : A) {k : Refusal} → r ≡ Err k
      → judged (door_checks n t cs m ++ more) a ≡ refuses k
  door_refuses more a h = door_stands n t cs m more a (sym says ∙ ap calls.says h)

  -- A plan goes on.
  pub door_opens : {p : Plan} → r ≡ Ok p → Opened n t near s cs m p
  door_opens {p} h =
      let w : judged (door_checks n t cs m) (plan_of n t m) ≡ gives p =
      sym (says ∙ entered_is n t cs m) ∙ ap calls.says h in
      let all = gives_pass (door_checks n t cs m) (plan_of n t m) p w in
      let rest = pass_after (tree_checks n t) (cs ++ move_checks n t m) all in
      record {
        looked = e.looked (judged-all (tree_checks n t) tt
            (pass_before (tree_checks n t) (cs ++ move_checks n t m) all));
        parts = pass_before cs (move_checks n t m) rest;
        fits = pass_after cs (move_checks n t m) rest;
        is = sym (gives_same (door_checks n t cs m) (plan_of n t m) p w);
      }

-- ---- what goes on through it
module _ {n : ℕ} {t near s : List ℕ} {cs : List Check} {m : Move} {p : Plan}
    (o : Opened n t near s cs m p) where
  planned : Planned n t p
  planned = record { move = m; fits = o.fits; is = o.is }

  pub opened_ready : Ready n t near s p
  opened_ready = record { looked = o.looked; plan = planned }

  -- The table after the plan is that after the move.
  pub opened-moved : plan_moved n t p ≡ moved n t m
  unfolding planned
  opened-moved = plan-moved o.looked.good.valid planned

  -- What is left to be said is what the later checks say.
  pub opened-says : {A : Type 0} (more : List Check) (a : A)
      → judged (door_checks n t cs m ++ more) a ≡ judged more a
  opened-says more a =
      let first = pass_both (tree_checks n t) cs (accepted_pass n t o.looked.good) o.parts in
      judged_pass (door_checks n t cs m) more a
      (pass_both (tree_checks n t ++ cs) (move_checks n t m) first o.fits)

-- ---- the answer of the look at the tree
module _ {n : ℕ} {t : List ℕ} {c : Result (Unit {0}) Refusal} {near s : List ℕ} (f : Found n t c near s)
    {parts : Said (Unit {0})} {m : Move} where
  pub entered_refused : {k : Refusal} → c ≡ Err k
      → Entered n t parts m (Err k) near s
  entered_refused h =
      let w = found-refused f h in
      record {
        says = sym (ap (λ (x : Said (Unit {0})). then_said x (λ u. opened_said n t parts m)) w);
        looked = λ g. found-given f g;
      }

  pub entered_tree : {r : Result Plan Refusal} → c ≡ Ok tt → calls.says r ≡ opened_said n t parts m
      → Entered n t parts m r near s
  entered_tree h e =
      let w : tree_said n t ≡ gives tt = sym f.sighted.says ∙ ap calls.says h in
      record {
        says = e ∙ sym (ap (λ (x : Said (Unit {0})). then_said x (λ u. opened_said n t parts m)) w);
        looked = λ g. found-given f g;
      }

-- what the check is to use
pub ruleset entering = (handed_on, entered_refused, entered_tree)
