-- `splits::compare_lists` meets its contract.
use native.Mathlib.Omega.{arith}
use Rattle.tree.proofs.Lists.{lacks-most}
use Rattle.splits.proofs.compare_lists.Goals as goal

pub overflow_add-result : goal.overflow_add-result
overflow_add-result c =
    let a = c.args in
    record {
      fits = omega (
        arith,
        c.count_lacking-lost.ensures,
        c.count_lacking-gained.ensures,
        lacks-most a.a.now a.b.now,
        lacks-most a.b.now a.a.now,
        c.requires.0.few,
        c.requires.1.few,
      );
    }
