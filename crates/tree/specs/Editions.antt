-- The editions of the library: how many taxa it takes, and how a table stands
-- in bytes. Everything about trees, splits, moves and distances is stated of
-- node numbers, for any number of taxa.
use Rattle.std.specs.Prelude.{ℕ, ◌+◌, ◌*◌, ◌/◌, ◌%◌, List, [], ◌∷◌, get_or}
use Rattle.taxa.specs.Most.{most}

-- What an edition settles: the most taxa; how many bytes a table of so many
-- rows has; the node numbers that a table's bytes stand for; and the bytes
-- that stand for node numbers. For a job: how many bytes a number of taxa or
-- of a row has, and the number that stands in bytes from a place on; and how
-- many bytes a partition has.
pub record Edition : Type 0 where
  pub taxa : ℕ
  pub long : ℕ → ℕ
  pub read : List ℕ → List ℕ
  pub write : List ℕ → List ℕ
  pub bytes : ℕ
  pub number : List ℕ → ℕ → ℕ
  pub set : ℕ

-- The narrow edition, to 64 taxa: two bytes a row, and each is a node number.
abbrev pub narrow : Edition
narrow =
    record {
      taxa = most;
      long = λ k. 2 * k;
      read = λ b. b;
      write = λ t. t;
      bytes = 1;
      number = λ b p. get_or b p 0;
      set = 8;
    }

-- The wide edition, to 256 taxa: four bytes a row, two to a node number, the
-- high byte first.
unfoldable pub pairs : List ℕ → List ℕ
pairs [] = []
pairs (x ∷ []) = []
pairs (x ∷ y ∷ b) = (256 * x + y) ∷ pairs b

unfoldable pub unpaired : List ℕ → List ℕ
unpaired [] = []
unpaired (v ∷ t) = v / 256 ∷ v % 256 ∷ unpaired t

abbrev pub wide : Edition
wide =
    record {
      taxa = 256;
      long = λ k. 4 * k;
      read = pairs;
      write = unpaired;
      bytes = 2;
      number = λ b p. 256 * get_or b p 0 + get_or b (p + 1) 0;
      set = 32;
    }
