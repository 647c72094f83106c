-- A move changes only the rows that document 01 names for it, and the table
-- keeps its length. Assumes nothing.
use mathlib.Core.Path.{◌≡◌, refl, sym, ap, ap₂, ◌∙◌}
use mathlib.Core.Bool.{Bool, true, false}
use mathlib.Core.List.{List, [], ◌∷◌, ◌++◌}
use Prim.Native.Nat.{ℕ}
use lib.Dec.{eqb}
use lib.ListN.{length, get_or}
use borrow.Author.Tests.{eqb-false}
use Rattle.taxa.specs.Sets.{pick}
use Rattle.taxa.proofs.Bools.{or_neither}
use Rattle.tree.specs.Tree.{lo, hi, rows, touches, far, others, Valid}
use Rattle.tree.specs.Lists.{mem}
use Rattle.tree.proofs.Lists.{mem-append}
use Rattle.calls.specs.Calls.{Pass}
use Rattle.moves.specs.Moves.{Move, put, end_on, nni, end_with, move_end, spr}
use Rattle.moves.specs.Moves.{stay_or, tbr, moved, move_checks}
use Rattle.moves.specs.Named.{end_named, stay_named, named}
use Rattle.moves.proofs.Rows.Puts.{length-put, lo_other, hi_other}
use Rattle.moves.proofs.Rows.Ends.{SameRow, others_same}
use Rattle.moves.proofs.Nni.Move.{nni-rest}
use Rattle.moves.proofs.Tbr.Aims.{Aim}
use Rattle.moves.proofs.Tbr.Rule.{at_high}
use Rattle.moves.proofs.AnyMove.Moved.{Passed, by_nni, by_spr, by_tbr, passed, low-aim}
use Rattle.moves.proofs.AnyMove.Moved.{high_aim, moved-nni, moved-spr, moved-tbr}

-- ---- the length, of any table and any move: an end moved, and an end that moves or stays
length-move_end : (n : ℕ) (t : List ℕ) (p a b : ℕ) → length (move_end n t p a b) ≡ length t
unfolding move_end
length-move_end n t p a b =
    let f = get_or (others t a p (rows n)) 0 0 in
    let g = get_or (others t a p (rows n)) 1 0 in
    let t₁ = put t f (far t f p) (far t g p) in
    let t₂ = put t₁ b (lo t b) p in
    length-put t₂ g p (hi t b) ∙ length-put t₁ b (lo t b) p ∙ length-put t f (far t f p) (far t g p)

length-stay_or : (n : ℕ) (t : List ℕ) (p a b : ℕ) → length (stay_or n t p a b) ≡ length t
unfolding stay_or
length-stay_or n t p a b = go (touches t b p)
  where
    go : (c : Bool) → length (pick c t (move_end n t p a b)) ≡ length t
    go true = refl
    go false = length-move_end n t p a b

-- an exchange across e
length-nni : (t : List ℕ) (e x y : ℕ) → length (nni t e x y) ≡ length t
unfolding nni
length-nni t e x y =
    let p = end_on t e x in
    let q = far t e p in
    length-put (put t x q (far t x p)) y p (far t y q) ∙ length-put t x q (far t x p)

-- the table keeps its length
pub moved_length : (n : ℕ) (t : List ℕ) (m : Move) → length (moved n t m) ≡ length t
unfolding moved spr tbr
moved_length n t m =
    go m.first m.second m.third (eqb m.kind 1) (eqb m.kind 2) (eqb m.kind 3)
  where
    go : (e x y : ℕ) (c d f : Bool)
        → length (pick c (nni t e x y) (pick d (spr n t e x) (pick f (tbr n t e x y) t))) ≡ length t
    go e x y true d f = length-nni t e x y
    go e x y false true f = length-move_end n t (end_with n t e x) e x
    go e x y false false true =
        length-stay_or n (stay_or n t (lo t e) e x) (hi t e) e y ∙ length-stay_or n t (lo t e) e x
    go e x y false false false = refl

-- ---- the rows that stay
-- two tables after one another
same_trans : (t t₁ t₂ : List ℕ) (r : ℕ) → SameRow t t₁ r → SameRow t₁ t₂ r → SameRow t t₂ r
same_trans t t₁ t₂ r a b = (b.0 ∙ a.0, b.1 ∙ a.1)

-- a number that is not on a list is not its first, nor one of the others
not_on : (r x : ℕ) (xs : List ℕ) → mem r (x ∷ xs) ≡ false → (r ≡ x → ⊥) × (mem r xs ≡ false)
unfolding mem
not_on r x xs h = let w = or_neither (eqb r x) (mem r xs) h in (eqb-false r x w.0, w.1)

-- a row put into the table changes no other
put_rest : (t : List ℕ) (k u v r : ℕ) → (r ≡ k → ⊥) → SameRow t (put t k u v) r
put_rest t k u v r d = (lo_other t k u v r d, hi_other t k u v r d)

-- where an end moves, every row but the three named keeps its ends; so too
-- where it may stay
end_rest : (n : ℕ) (t : List ℕ) (p a b r : ℕ)
    → mem r (end_named n t p a b) ≡ false
    → SameRow t (move_end n t p a b) r
unfolding move_end end_named
end_rest n t p a b r h =
    let f = get_or (others t a p (rows n)) 0 0 in
    let g = get_or (others t a p (rows n)) 1 0 in
    let t₁ = put t f (far t f p) (far t g p) in
    let t₂ = put t₁ b (lo t b) p in
    let x = not_on r f (b ∷ g ∷ []) h in
    let y = not_on r b (g ∷ []) x.1 in
    let z = not_on r g [] y.1 in
    same_trans t t₂ (put t₂ g p (hi t b)) r
    (same_trans t t₁ t₂ r (put_rest t f (far t f p) (far t g p) r x.0)
    (put_rest t₁ b (lo t b) p r y.0))
    (put_rest t₂ g p (hi t b) r z.0)

stay-rest : (n : ℕ) (t : List ℕ) (p a b r : ℕ)
    → mem r (stay_named n t p a b) ≡ false
    → SameRow t (stay_or n t p a b) r
unfolding stay_or stay_named
stay-rest n t p a b r h = go (touches t b p) h
  where
    go : (c : Bool)
        → mem r (pick c [] (end_named n t p a b)) ≡ false
        → SameRow t (pick c t (move_end n t p a b)) r
    go true h = (refl, refl)
    go false h = end_rest n t p a b r h

-- the second end's rows are named in the table before the first end is moved:
-- they are the same after it
second-named : (n : ℕ) (t t' : List ℕ) (p a b : ℕ)
    → ((j : ℕ) → touches t' j p ≡ touches t j p)
    → stay_named n t' p a b ≡ stay_named n t p a b
unfolding stay_named end_named
second-named n t t' p a b h =
    ap₂ (λ (c : Bool) (l : List ℕ). pick c [] (get_or l 0 0 ∷ b ∷ get_or l 1 0 ∷ [])) (h b)
    (others_same t t' a p (rows n) h)

-- so a TBR changes only the rows named at the ends that move
tbr-rest : {n : ℕ} {t : List ℕ} {a b c : ℕ} → Aim n t a (lo t a) b → Aim n t a (hi t a) c → (r : ℕ)
    → mem r (stay_named n t (lo t a) a b ++ stay_named n t (hi t a) a c) ≡ false
    → SameRow t (tbr n t a b c) r
unfolding tbr
tbr-rest {n} {t} {a} {b} {c} low high r h =
    same_trans t t₁ (stay_or n t₁ (hi t a) a c) r (stay-rest n t (lo t a) a b r w.0)
    (stay-rest n t₁ (hi t a) a c r
    (ap (mem r) (second-named n t t₁ (hi t a) a c (at_high low high)) ∙ w.1))
  where
    t₁ : List ℕ
    t₁ = stay_or n t (lo t a) a b

    w : (mem r (stay_named n t (lo t a) a b) ≡ false) × (mem r (stay_named n t (hi t a) a c) ≡ false)
    w = or_neither (mem r (stay_named n t (lo t a) a b)) (mem r (stay_named n t (hi t a) a c))
        (sym (mem-append r (stay_named n t (lo t a) a b) (stay_named n t (hi t a) a c)) ∙ h)

-- every row that is not named for the move keeps both its ends
pub moved-rest : {n : ℕ} {t : List ℕ} (m : Move)
    → Valid n t
    → Pass (move_checks n t m)
    → (r : ℕ) → mem r (named n t m) ≡ false
    → (lo (moved n t m) r ≡ lo t r) × (hi (moved n t m) r ≡ hi t r)
unfolding named spr
moved-rest {n} {t} m vt w r h = go (passed n t m vt.big w)
  where
    go : Passed n t m → SameRow t (moved n t m) r
    go (by_nni k) =
        let a = not_on r m.second (m.third ∷ []) (rw k.kind-is at h) in
        let b = not_on r m.third [] a.1 in
        let after = nni-rest m.first m.second m.third vt k.e_lt k.x_lt k.y_lt
        k.fit in
        rw (moved-nni n t m k.kind-is) (after.rest r a.0 b.0)
    go (by_spr k) =
        rw (moved-spr n t m k.kind-is)
        (end_rest n t (end_with n t m.first m.second) m.first m.second r
        (rw k.kind-is at h))
    go (by_tbr k) =
        rw (moved-tbr n t m k.kind-is)
        (tbr-rest (low-aim vt k) (high_aim vt k) r (rw k.kind-is at h))
