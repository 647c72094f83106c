-- Demand 3 for one tree and one move: more species never turn changed into
-- same, and the number of partitions that are the same never rises.
-- That the move passes its checks is not needed. Assumes nothing.
use mathlib.Core.Path.{◌≡◌}
use mathlib.Core.Logic.{◌↔◌}
use mathlib.Core.List.{List}
use Prim.Native.Nat.{ℕ, ◌^◌, ◌≤◌, ◌<◌}
use Rattle.taxa.specs.Sets.{Sub}
use Rattle.tree.specs.Splits.{splits, dist, unchanged, Gains}
use Rattle.tree.proofs.Monotone.{dist_mono, same_mono, unchanged_mono, same_iff}
use Rattle.moves.specs.Moves.{Move, moved}

module _ (n : ℕ) (t : List ℕ) (m : Move) where
  -- the distance over a partition is no more than over a larger one
  pub move_mono : (y₁ y₂ : ℕ)
      → Sub y₁ y₂
      → y₂ < 2 ^ n
      → dist n t (moved n t m) y₁ ≤ dist n t (moved n t m) y₂
  move_mono y₁ y₂ sub bound = dist_mono n y₁ y₂ sub bound t (moved n t m)

  -- where the larger partition is the same, the smaller is
  pub move_same_mono : (y₁ y₂ : ℕ)
      → Sub y₁ y₂
      → y₂ < 2 ^ n
      → dist n t (moved n t m) y₂ ≡ 0
      → dist n t (moved n t m) y₁ ≡ 0
  move_same_mono y₁ y₂ sub bound = same_mono n y₁ y₂ sub bound t (moved n t m)

  -- where partitions only gain species, the number of those that are the same
  -- never rises
  pub move_unchanged_mono : (ys zs : List ℕ)
      → Gains n ys zs
      → unchanged n t (moved n t m) zs ≤ unchanged n t (moved n t m) ys
  move_unchanged_mono = unchanged_mono n t (moved n t m)

  -- a partition is the same exactly when the induced split sets before and
  -- after are equal
  pub same_iff_splits : (y : ℕ)
      → (dist n t (moved n t m) y ≡ 0) ↔ (splits n t y ≡ splits n (moved n t m) y)
  same_iff_splits = same_iff n t (moved n t m)
