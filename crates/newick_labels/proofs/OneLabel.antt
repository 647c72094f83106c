-- `LabelIs` leaves one answer. Assumes nothing.
use Rattle.std.specs.Prelude.{Result, Ok, Err}
use mathlib.Core.Path.{◌≡◌, sym, ap, ap₂, ◌∙◌}
use mathlib.Core.Logic.{◌⊎◌, inl, inr}
use mathlib.Core.Bool.{true}
use mathlib.Core.List.{List, [], ◌++◌, append-nil, append_assoc}
use Prim.Native.Nat.{ℕ, suc, ◌+◌, ◌-◌, ◌^◌, ◌<◌}
use native.Mathlib.Nat.{lt_of_not-le}
use native.Mathlib.Omega.{arith}
use lib.ListN.{length, take, drop, take-append-drop, length-drop}
use lib.Seq.{take-add}
use Rattle.taxa.specs.Most.{most}
use Rattle.taxa.specs.Sets.{has}
use Rattle.taxa.proofs.Sets.{has_below}
use Rattle.lines.specs.Lines.{decimal}
use Rattle.newick_labels.specs.declared.Label.{Label}
use Rattle.newick_labels.specs.declared.NotNewick.{NotNewick}
use Rattle.newick_labels.specs.Between.{Stop, Found, Missed, LabelIs}
use Rattle.newick_labels.proofs.TextLaws.{cancel, label_settled}

module _ (s : List ℕ) (at u : ℕ) where
  -- the text by the label that was read
  parts : (d p : ℕ) → Found s at u d p
      → s ≡ take at s ++ (decimal d ++ drop p s)
  parts d p f = sym (take-append-drop p s) ∙ f.is (drop p s)

  -- ---- two labels
  module _ (small : u < 2 ^ most) where
    below : (d p : ℕ) → Found s at u d p → d < 100
    below d p f = omega (arith, has_below most u d small f.among)

    found_same : (d p e q : ℕ) → Found s at u d p → Found s at u e q
        → (d ≡ e) × (p ≡ q)
    found_same d p e q f g = (settled.0, omega (arith, left, f.inside, g.inside))
      where
        same : decimal d ++ drop p s ≡ decimal e ++ drop q s
        same =
            cancel (take at s) (decimal d ++ drop p s) (decimal e ++ drop q s)
            (sym (parts d p f) ∙ parts e q g)

        settled : (d ≡ e) × (drop p s ≡ drop q s)
        settled =
            label_settled d e (drop p s) (drop q s) (below d p f) (below e q g)
            f.ends g.ends same

        left : length s - p ≡ length s - q
        left = sym (length-drop p s) ∙ ap length settled.1 ∙ length-drop q s

  -- ---- a label and none
  found_missed : (d p q : ℕ) → Found s at u d p → Missed s at u q → ⊥
  found_missed d p q f m =
      m.none d (drop p s) f.among f.ends (parts d p f)

  -- ---- none, twice: the later place says that a label goes on at the earlier
  not_sooner : (p q : ℕ) → Missed s at u p → Missed s at u q → p < q → ⊥
  unfolding Stop
  not_sooner p q m n l = go n.before
    where
      go : (q ≡ at)
          ⊎ ((d : ℕ) × (w : List ℕ) × (has u d ≡ true)
          × (take q s ++ w ≡ take at s ++ decimal d)) → ⊥
      go (inl e) = omega (arith, m.after)
      go (inr (d, w, h, e)) =
          let far : suc p + (q - suc p) ≡ q = omega arith in
          let more = take (q - suc p) (drop (suc p) s) in
          let cut : take q s ≡ take (suc p) s ++ more =
          ap (λ (i : ℕ). take i s) (sym far) ∙ take-add (suc p) (q - suc p) s in
          m.there (omega (arith, n.inside)) (more ++ w) d [] h (λ _ _. tt)
          (sym (append_assoc (take (suc p) s) more w)
          ∙ ap (λ (t : List ℕ). t ++ w) (sym cut)
          ∙ e
          ∙ ap (λ (t : List ℕ). take at s ++ t) (sym (append-nil (decimal d))))

  missed_same : (p q : ℕ) → Missed s at u p → Missed s at u q → p ≡ q
  missed_same p q m n =
      omega (arith, lt_of_not-le (not_sooner p q m n), lt_of_not-le (not_sooner q p n m))

-- one answer
pub label_one : (s : List ℕ) (at u : ℕ) → u < 2 ^ most → (a b : Result Label NotNewick)
    → LabelIs s at u a → LabelIs s at u b → a ≡ b
label_one s at u small (Ok l) (Ok k) f g =
    let same = found_same s at u small l.taxon l.end k.taxon k.end f g in
    ap₂ (λ (d p : ℕ). Ok (record { taxon = d; end = p })) same.0 same.1
label_one s at u small (Ok l) (Err e) f m =
    absurd (found_missed s at u l.taxon l.end e.at f m)
label_one s at u small (Err e) (Ok k) m g =
    absurd (found_missed s at u k.taxon k.end e.at g m)
label_one s at u small (Err e) (Err i) m n =
    ap (λ (p : ℕ). Err (record { at = p })) (missed_same s at u e.at i.at m n)
