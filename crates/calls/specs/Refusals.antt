-- The number of each refusal in the documents. What each is given for stands
-- beside its name, in src/lib.rt.
use Rattle.std.specs.Prelude.{ℕ}
use Rattle.calls.specs.declared.Refusal.{Refusal}
use Rattle.calls.specs.declared.Refusal.TheVariants.{Count, Length, Ends, Degree, Unreached}
use Rattle.calls.specs.declared.Refusal.TheVariants.{Partition, Kind, Row}
use Rattle.calls.specs.declared.Refusal.TheVariants.{Misfit, Idle, Room, Field, Long, Text}
use Rattle.calls.specs.declared.Refusal.TheVariants.{Side, Unseen, Sites}
use Rattle.calls.specs.declared.Refusal.TheVariants.{Data, State, Lengths, Rate}

abbrev pub number_of : Refusal → ℕ
number_of Count = 1
number_of Length = 2
number_of Ends = 3
number_of Degree = 4
number_of Unreached = 5
number_of Partition = 6
number_of Kind = 7
number_of Row = 8
number_of Misfit = 9
number_of Idle = 10
number_of Room = 11
number_of Field = 12
number_of Long = 13
number_of Text = 14
number_of Side = 15
number_of Unseen = 16
number_of Sites = 17
number_of Data = 18
number_of State = 19
number_of Lengths = 20
number_of Rate = 21
