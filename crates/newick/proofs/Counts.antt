-- Where a text is read, its count of taxa is right. Assumes nothing.
use Rattle.std.specs.Prelude.{Result, Ok}
use mathlib.Core.Path.{◌≡◌, sym, ap, ◌∙◌}
use mathlib.Core.List.{List}
use Prim.Native.Nat.{ℕ}
use lib.ListN.{length}
use Rattle.calls.specs.declared.Refusal.{Refusal}
use Rattle.newick_reader.specs.declared.Unread.{Unread}
use Rattle.calls.specs.Calls.{gives, refuses, tells, done}
use Rattle.newick_reader.specs.Promises.{Right, Reads, of_count, of_text, of_room, of_tree}
use Rattle.newick_reader.specs.Promises.{reading_says}
use Rattle.newick_reader.specs.Promises.{Plants}

pub read_right : {n : ℕ} {s out out' : List ℕ} {r : Result (Unit {0}) Unread}
    → Plants n s out r out' → {u : Unit {0}} → r ≡ Ok u → Right n
read_right {n} {s} {out} p e = go p.is
  where
    said : gives tt ≡ tells done p.said
    said = sym (ap reading_says e) ∙ p.call.says

    go : Reads n s (length out) p.said → Right n
    go (of_count h q) =
        let f : gives tt ≡ refuses Refusal.Count = said ∙ ap (tells done) q in
        cc
    go (of_text h _ _ _) = h
    go (of_room h _ _ _) = h
    go (of_tree h _ _ _ _) = h
