-- One answer and one state of the lent table: a text has one tree at most, and
-- a text that is none has one place. Assumes nothing.
use Rattle.std.specs.Prelude.{Result, Ok, Err}
use mathlib.Core.Path.{◌≡◌, refl, sym, ap, ap₂, ◌∙◌, subst}
use mathlib.Core.Logic.{◌↔◌}
use mathlib.Core.Bool.{false}
use mathlib.Core.List.{List, ◌∷◌, ◌++◌, append_assoc, head-eq_of_cons-eq, tail-eq_of_cons-eq}
use Prim.Native.Nat.{ℕ, suc, ◌*◌, ◌≤◌, ◌<◌}
use native.Mathlib.Nat.{lt_of_not-le}
use native.Mathlib.Omega.{arith}
use lib.ListN.{take, drop, take-append-drop}
use lib.Seq.{take-take}
use Rattle.taxa.specs.Most.{most}
use Rattle.tree.specs.Tree.{rows, Valid}
use Rattle.tree.specs.Refusals.{Accepted}
use Rattle.calls.specs.declared.Refusal.{Refusal}
use Rattle.newick_labels.specs.Between.{digit}
use Rattle.newick_grammar.specs.Newick.{Member, Outermost, two, three, text, whole, times, times_in}
use Rattle.newick_grammar.specs.Newick.{EachOnce, IsTree, GoesOn, NoTree, comma, closes}
use Rattle.newick_grammar.specs.Numbers.{table}
use Rattle.newick_grammar.proofs.Labels.{Below}
use Rattle.newick_grammar.proofs.Low.{low-some}
use Rattle.newick_grammar.proofs.Valid.{table-valid}
use Rattle.newick_reader.specs.declared.Unread.{Unread}
use Rattle.newick_reader.specs.declared.Unread.TheVariants as unread
use Rattle.calls.specs.Calls.{Said, gives, refuses_at}
use Rattle.newick_reader.specs.Promises.{Right, Reads, of_count, of_text, of_room, of_tree}
use Rattle.newick_reader.specs.Promises.{reading_says}
use Rattle.newick_members.proofs.Members.{over_stop, stop_at, settled}
use Rattle.newick_members.proofs.Places.{as_tree}

-- ---- a text has one tree at most

-- one member after the other
both : (a b : Member) (i j : ℕ) (u v : List ℕ) → Below 100 a → Below 100 b
    → digit i ≡ false → digit j ≡ false → text a (i ∷ u) ≡ text b (j ∷ v)
    → (a ≡ b) × (i ≡ j) × (u ≡ v)
both a b i j u v h k p q e =
    let w = settled a b (i ∷ u) (j ∷ v) h k
    (over_stop a (i ∷ u) (stop_at i u p)) (stop_at j v q) e in
    (w.0, head-eq_of_cons-eq w.1, tail-eq_of_cons-eq w.1)

module _ (n : ℕ) (few : n ≤ most) where
  low : (t : Member) (o : Outermost) → EachOnce n o
      → ((x : ℕ) → times x t ≤ times_in x o) → Below 100 t
  low t o h k x p = omega
      (arith, few, low-some n x (times x t) p (omega (arith, h x, k x)))

  -- a text is that of one tree at most
  pub one_tree : (o q : Outermost) → EachOnce n o → EachOnce n q → whole o ≡ whole q
      → o ≡ q
  unfolding whole times_in
  one_tree (two a b) (two c d) h k e =
      let w = both a c comma comma _ _ (low a (two a b) h (λ x. omega arith))
      (low c (two c d) k (λ x. omega arith)) refl refl (tail-eq_of_cons-eq e) in
      let v = both b d closes closes _ _ (low b (two a b) h (λ x. omega arith))
      (low d (two c d) k (λ x. omega arith)) refl refl w.2 in
      ap₂ two w.0 v.0
  one_tree (two a b) (three c d f) h k e =
      let w = both a c comma comma _ _ (low a (two a b) h (λ x. omega arith))
      (low c (three c d f) k (λ x. omega arith)) refl refl (tail-eq_of_cons-eq e) in
      let v = both b d closes comma _ _ (low b (two a b) h (λ x. omega arith))
      (low d (three c d f) k (λ x. omega arith)) refl refl w.2 in
      absurd (omega (arith, v.1))
  one_tree (three a b c) (two d f) h k e =
      let w = both a d comma comma _ _
      (low a (three a b c) h (λ x. omega arith))
      (low d (two d f) k (λ x. omega arith)) refl refl (tail-eq_of_cons-eq e) in
      let v = both b f comma closes _ _
      (low b (three a b c) h (λ x. omega arith))
      (low f (two d f) k (λ x. omega arith)) refl refl w.2 in
      absurd (omega (arith, v.1))
  one_tree (three a b c) (three d f g) h k e =
      let w = both a d comma comma _ _
      (low a (three a b c) h (λ x. omega arith))
      (low d (three d f g) k (λ x. omega arith)) refl refl (tail-eq_of_cons-eq e) in
      let v = both b f comma comma _ _
      (low b (three a b c) h (λ x. omega arith))
      (low f (three d f g) k (λ x. omega arith)) refl refl w.2 in
      let u = both c g closes closes _ _
      (low c (three a b c) h (λ x. omega arith))
      (low g (three d f g) k (λ x. omega arith)) refl refl v.2 in
      three_same w.0 v.0 u.0
    where
      three_same : {a b c d f g : Member} → a ≡ d → b ≡ f → c ≡ g
          → three a b c ≡ three d f g
      three_same p q r = cc

-- ---- a text that is no tree has one place

-- what goes on to a tree does so from every place before
shorter : (n : ℕ) (s : List ℕ) (i j : ℕ) → i ≤ j → GoesOn n (take j s)
    → GoesOn n (take i s)
shorter n s i j h (w, t) = (
  drop i (take j s) ++ w,
  as_tree n (ap (λ (l : List ℕ). l ++ w) (sym (take-append-drop i (take j s))
      ∙ ap (λ (l : List ℕ). l ++ drop i (take j s)) (take-take i j s h))
      ∙ append_assoc (take i s) (drop i (take j s)) w) t,
)

not_before : (n : ℕ) (s : List ℕ) (p q : ℕ) → NoTree n s p → NoTree n s q
    → p < q → ⊥
not_before n s p q a b h = a.there (omega (arith, h, b.inside))
    (shorter n s (suc p) q h b.before)

pub one_place : (n : ℕ) (s : List ℕ) (p q : ℕ) → NoTree n s p → NoTree n s q
    → p ≡ q
one_place n s p q a b = omega (
  arith,
  lt_of_not-le (not_before n s p q a b),
  lt_of_not-le (not_before n s q p b a),
)

-- ---- one thing is said of a text
pub reads_one : (n : ℕ) (s : List ℕ) (room : ℕ) (h k : Said (List ℕ))
    → Reads n s room h → Reads n s room k → h ≡ k
reads_one n s room h k (of_count a e) (of_count b f) = e ∙ sym f
reads_one n s room h k (of_count a e) (of_text r q b f) = absurd (a r)
reads_one n s room h k (of_count a e) (of_room r b l f) = absurd (a r)
reads_one n s room h k (of_count a e) (of_tree r o b l f) = absurd (a r)
reads_one n s room h k (of_text r p a e) (of_count b f) = absurd (b r)
reads_one n s room h k (of_text r p a e) (of_text x q b f) = e
    ∙ ap (refuses_at Refusal.Text) (one_place n s p q a b) ∙ sym f
reads_one n s room h k (of_text r p a e) (of_room x b l f) = absurd (a.none b)
reads_one n s room h k (of_text r p a e) (of_tree x o b l f) = absurd
    (a.none (o, b))
reads_one n s room h k (of_room r a l e) (of_count b f) = absurd (b r)
reads_one n s room h k (of_room r a l e) (of_text x q b f) = absurd (b.none a)
reads_one n s room h k (of_room r a l e) (of_room x b m f) = e ∙ sym f
reads_one n s room h k (of_room r a l e) (of_tree x o b m f) = absurd
    (omega (arith, l, m))
reads_one n s room h k (of_tree r o a l e) (of_count b f) = absurd (b r)
reads_one n s room h k (of_tree r o a l e) (of_text x q b f) = absurd
    (b.none (o, a))
reads_one n s room h k (of_tree r o a l e) (of_room x b m f) = absurd
    (omega (arith, l, m))
reads_one n s room h k (of_tree r o a l e) (of_tree x q b m f) =
    e ∙ ap (λ (w : Outermost). gives (table n w))
    (one_tree n r.1 o q a.each b.each (sym a.is ∙ b.is))
    ∙ sym f

-- ---- an answer is settled by what it says
pub reading_one : (a b : Result (Unit {0}) Unread) → reading_says a ≡ reading_says b → a ≡ b
reading_one (Ok a) (Ok b) h = refl
reading_one (Ok a) (Err (unread.Refused q)) h = cc
reading_one (Ok a) (Err (unread.NotNewick f)) h = cc
reading_one (Err (unread.Refused r)) (Ok b) h = cc
reading_one (Err (unread.Refused r)) (Err (unread.Refused q)) h = cc
reading_one (Err (unread.Refused r)) (Err (unread.NotNewick f)) h = cc
reading_one (Err (unread.NotNewick e)) (Ok b) h = cc
reading_one (Err (unread.NotNewick e)) (Err (unread.Refused q)) h = cc
reading_one (Err (unread.NotNewick e)) (Err (unread.NotNewick f)) h =
    let p : e.at ≡ f.at = cc in
    ap (λ (p : ℕ). Err (unread.NotNewick (record { at = p }))) p

-- ---- the table that is given is valid, and is given for trees alone
pub reads_valid : (n : ℕ) (s : List ℕ) (room : ℕ) (t : List ℕ)
    → Reads n s room (gives t) → Accepted n t
reads_valid n s room t (of_count a e) = cc
reads_valid n s room t (of_text r p a e) = cc
reads_valid n s room t (of_room r a l e) = cc
reads_valid n s room t (of_tree r o a l e) =
    let f : t ≡ table n o = cc in
    let v : Valid n t = subst (λ (u : List ℕ). Valid n u) (sym f)
    (table-valid n o r.0 a.each) in
    record { few = r.1; whole = v.len; valid = v }

-- With a right taxon count and room for it, a table is given exactly for the
-- texts of the grammar.
pub reads_iff : (n : ℕ) (s : List ℕ) (room : ℕ) → Right n → 2 * rows n ≤ room
    → ((t : List ℕ) × Reads n s room (gives t)) ↔ IsTree n s
reads_iff n s room r l = (λ (t, q). to t q, λ (o, a). (table n o, of_tree r o a l refl))
  where
    to : (t : List ℕ) → Reads n s room (gives t) → IsTree n s
    to t (of_count a e) = absurd (a r)
    to t (of_text x p a e) = absurd
        (let z : ◌≡◌ {A = ℕ} 0 1 = cc in omega arith)
    to t (of_room x a m e) = a
    to t (of_tree x o a m e) = (o, a)
