-- The tags of the kinds of field.
use Rattle.std.specs.Prelude.{ℕ}
use Rattle.fields.specs.declared.Kind.{Kind}
use Rattle.fields.specs.declared.Kind.TheVariants.{Taxa, Table, Partition, Move}

abbrev pub tag_of : Kind → ℕ
tag_of Taxa = 1
tag_of Table = 2
tag_of Partition = 3
tag_of Move = 4
