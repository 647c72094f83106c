-- What the stored sides say of one row: the taxa beyond it, whether it leads
-- to row b, and which end of it b lies with. Assumes nothing.
use mathlib.Core.Path.{◌≡◌, sym, ap, ap₂, ◌∙◌}
use mathlib.Core.List.{List}
use Prim.Native.Nat.{ℕ, ◌<◌}
use lib.ListN.{get_or}
use Rattle.taxa.specs.Sets.{pick, has}
use Rattle.tree.specs.Tree.{lo, hi, rows, far, part}
use Rattle.tree.specs.Refusals.{Accepted}
use Rattle.tree.proofs.Joins.{hi-touch, far-hi}
use Rattle.tree.proofs.Ends.{far_end, far-far}
use Rattle.sides.specs.Between.{At, Sided}
use Rattle.sides.proofs.FillLaws.{at_end}
use Rattle.moves.specs.Moves.{end_with}
use Rattle.moves.specs.Groups.{beyond, leads}
use Rattle.moves.proofs.Ways.Leads.{parts, leads-beyond, leads-parts}

-- ---- what lies beyond a row
pub far_at : {n : ℕ} {t : List ℕ} {x v : ℕ} → At n t x v → At n t x (far t x v)
far_at a = record { good = a.good; row = a.row; touch = (far_end (at_end a)).touch }

-- ---- the test of leading
pub leads_by : {n : ℕ} {t s : List ℕ} {v x b y : ℕ} → Sided n t s
    → (At n t x v) × (b < rows n) → (x ≡ b → ⊥) → y ≡ beyond n t v x
    → parts y (get_or s b 0) ≡ leads n t b v x
leads_by {b = b} S k d h =
    ap₂ parts h (S.sides.right b k.1) ∙ leads-parts (at_end k.0) k.1 (λ w. d (sym w))

-- ---- which end of row a lies with b: the smaller, where a leads to b from the
-- larger
pub hi_at : {n : ℕ} {t : List ℕ} {a q : ℕ} → Accepted n t → a < rows n → q ≡ hi t a → At n t a q
hi_at {t = t} {a = a} good la h = rw h (record { good = good; row = la; touch = hi-touch t a })

pub end_is : {n : ℕ} {t : List ℕ} {a b q : ℕ} → Accepted n t
    → (a < rows n) × (b < rows n) × (a ≡ b → ⊥) → q ≡ hi t a
    → end_with n t a b ≡ pick (leads n t b q a) (lo t a) (hi t a)
unfolding end_with
end_is {n} {t} {a = a} good k h =
    let across = ap (far t a) h ∙ far-hi a good.valid k.0 in
    let E = at_end (hi_at good k.0 h) in
    rw (leads-beyond E k.1 (λ d. k.2 (sym d)), across)

-- ---- whether b lies in the part of row a's end v: a leads to it from its
-- other end
pub target_at : {n : ℕ} {t : List ℕ} {a v w : ℕ} → At n t a v → w ≡ far t a v → At n t a w
target_at A hw = rw hw (far_at A)

pub target_led : {n : ℕ} {t : List ℕ} {a v b w : ℕ} → (At n t a v) × (b < rows n)
    → w ≡ far t a v → (b ≡ a → ⊥) → leads n t b w a ≡ has (part n t a v) (lo t b)
target_led {n} {t} {a = a} {b = b} k hw d =
    leads-beyond (at_end (target_at k.0 hw)) k.1 d
    ∙ ap (λ (x : ℕ). has (part n t a x) (lo t b)) (ap (far t a) hw ∙ far-far (at_end k.0))

-- what the check is to use
pub ruleset targets = (target_at, target_led)
