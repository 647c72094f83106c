-- The groups on the two sides of a plan: what they ask for, and that the
-- numbers from them are the distances of the trees before and after the move.
-- Assumes nothing.
use mathlib.Core.Path.{◌≡◌, sym, ap, ◌∙◌}
use mathlib.Core.Bool.{Bool, true}
use mathlib.Core.List.{List, [], ◌∷◌}
use Prim.Native.Nat.{ℕ, ◌^◌, ◌≤◌, ◌<◌}
use native.Mathlib.Omega.{arith}
use lib.Dec.{ltb}
use lib.ListN.{length, get_or}
use borrow.Author.Tests.{le-ltb, lt-ltb}
use Rattle.taxa.specs.Most.{most}
use Rattle.tree.specs.Splits.{dist, distances_by, distances}
use Rattle.tree.specs.Refusals.{each, Accepted}
use Rattle.moves.specs.Groups.{stayed}
use Rattle.std.specs.Prelude.{None, is_some}
use Rattle.moves.specs.Between.{Planned, plan_moved, side_groups, by_groups}
use Rattle.moves.specs.declared.Side.{Side}
use Rattle.moves.specs.declared.Plan.{Plan}
use Rattle.moves.proofs.AnyMove.Plans.{PlanRight, plan-right, plan-dist}
use Rattle.calls.specs.Calls.{at_start}
use Rattle.calls.specs.Between.{Wrote}
use Rattle.moved_rows.specs.Between.{Rewrites}
use Rattle.group_rule.specs.Zeros.{zeros}
use Rattle.group_rule.specs.Between.{Few, Judges}
use Rattle.group_rule.proofs.Judging.{mapped-distances}
use Rattle.door.specs.Between.{Ready}
use Rattle.judge.specs.Between.{Judgeable}

-- an inner node that stays has two groups
inner-two : (n : ℕ) (t : List ℕ) (a : ℕ) (s : Side) → n ≤ s.node → s.target ≡ None
    → length (side_groups n t a s) ≡ 2
unfolding side_groups stayed
inner-two n t a s l h = rw (h, le-ltb s.node n l)

-- what the rewriting of the rows asks for
pub ready_rewrites : {n : ℕ} {t near s : List ℕ} {p : Plan} → Ready n t near s p → Rewrites n t near p
ready_rewrites R = record { good = R.looked.good; holds = R.looked.rows; plan = R.plan }

module _ {n : ℕ} {t : List ℕ} {p : Plan} (good : Accepted n t) (P : Planned n t p) where
  -- ---- what the groups ask for
  pub rights : PlanRight n t p
  rights = plan-right good.valid P

  -- ---- those that were listed, few by the room of a list
  module _ {nni : Bool} {gs hs : List ℕ} (k : nni ≡ is_some p.exchanged)
      (g : gs ≡ side_groups n t p.row p.first) (h : hs ≡ side_groups n t p.row p.second) where
    pub listed_few : length gs ≤ most → length hs ≤ most → Few nni gs hs
    listed_few a b = record {
      first = omega arith;
      second = omega arith;
      twos = λ q.
          let e = sym k ∙ q in (
            ap length g ∙ inner-two n t p.row p.first (rights.inner e).0 (rights.stay e).0,
            ap length h ∙ inner-two n t p.row p.second (rights.inner e).1 (rights.stay e).1,
          );
    }

    listed_dist : (y : ℕ) → y < 2 ^ n → by_groups nni gs hs y ≡ dist n t (plan_moved n t p) y
    listed_dist y l = rw (k, g, h) (plan-dist good.valid P y l)

    pub listed_told : (ys out : List ℕ) {r : ℕ} {out' : List ℕ}
        → each (λ y. ltb y (2 ^ n)) ys ≡ true
        → Judges (by_groups nni gs hs) ys out r out'
        → Wrote zeros (distances n t (plan_moved n t p) ys) out r out'
    listed_told ys out all J =
        let e = mapped-distances (by_groups nni gs hs) n t (plan_moved n t p) ys all listed_dist in
        record {
          count = J.count ∙ ap zeros e;
          memory = J.memory ∙ ap (λ (ds : List ℕ). at_start ds out) e;
        }

-- ---- a list of one partition
pub one_judged : {n y : ℕ} → y < 2 ^ n → Judgeable n (y ∷ []) (0 ∷ [])
unfolding each
one_judged {n} {y} l = record { within = rw (lt-ltb y (2 ^ n) l); room = omega arith }

pub one_written : (n y : ℕ) (t u : List ℕ) {r : ℕ} {out : List ℕ}
    → Wrote zeros (distances n t u (y ∷ [])) (0 ∷ []) r out → get_or out 0 0 ≡ dist n t u y
unfolding distances_by
one_written n y t u w = rw w.memory

-- what the check is to use
pub ruleset of_one = (one_judged, one_written)
