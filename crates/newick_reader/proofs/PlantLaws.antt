-- What the call says at each of its tests. Assumes nothing.
use Rattle.std.specs.Prelude.{Ok, Err}
use mathlib.Core.Path.{◌≡◌, refl, ap, ap₂, ◌∙◌}
use mathlib.Core.List.{List, ◌++◌}
use Prim.Native.Nat.{ℕ, ◌*◌, ◌≤◌, ◌<◌}
use native.Mathlib.Omega.{arith}
use lib.ListN.{length, drop}
use Rattle.tree.specs.Tree.{rows}
use Rattle.calls.specs.declared.Refusal.TheVariants.{Count, Room, Text}
use Rattle.newick_grammar.specs.Newick.{Outermost, Stands, NoTree}
use Rattle.newick_grammar.specs.Numbers.{table}
use Rattle.newick_grammar.proofs.Valid.{table-length}
use Rattle.newick_reader.specs.declared.Unread.TheVariants as unread
use Rattle.newick_labels.specs.declared.NotNewick.{NotNewick}
use Rattle.calls.specs.Calls.{gives, refuses, refuses_at}
use Rattle.calls.proofs.CallLaws.{call-refuses, call-refuses_at, call-gives}
use Rattle.newick_reader.specs.Promises.{Right, of_count, of_text, of_room, of_tree, Plants}

module _ {n : ℕ} {s out : List ℕ} where
  pub wrong_count : (Right n → ⊥) → Plants n s out (Err (unread.Refused Count)) out
  wrong_count h = record {
    said = refuses Count;
    is = of_count h refl;
    call = call-refuses Count
        refl;
  }

  pub no_tree : Right n → {e : NotNewick} → NoTree n s e.at
      → Plants n s out (Err (unread.NotNewick e)) out
  no_tree right {e} h = record {
    said = refuses_at Text e.at;
    is = of_text right e.at h refl;
    call = call-refuses_at Text e.at refl;
  }

-- the text is the tree o, whose table is t
module _ {n : ℕ} {s t : List ℕ} (right : Right n)
    (W : (o : Outermost) × Stands n s o × (t ≡ table n o)) where
  length-is : length t ≡ 2 * rows n
  length-is = ap length W.2 ∙ table-length n W.0

  pub no_room : {out : List ℕ} → length out < length t
      → Plants n s out (Err (unread.Refused Room)) out
  no_room h = record {
    said = refuses Room;
    is = of_room right (W.0, W.1) (omega (arith, h, length-is)) refl;
    call = call-refuses Room refl;
  }

  pub tree_given : {out u : List ℕ} → length t ≤ length out
      → u ≡ t ++ drop (length t) out → Plants n s out (Ok tt) u
  tree_given {out} h q = record {
    said = gives (table n W.0);
    is = of_tree right W.0 W.1 (omega (arith, h, length-is)) refl;
    call = call-gives (table n W.0) refl refl
        (q ∙ ap₂ ◌++◌ W.2 (ap (λ (l : List ℕ). drop (length l) out) W.2));
  }
