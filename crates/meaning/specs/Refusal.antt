-- What a call that can be refused gives back, as the numbers of an answer. Document 01, "Refusal numbers".
--   number r            the number of a reason, 1 to 25
--   refusing e          refused by the reason's number, at the place
--   told f r            f of what a call gives that is not refused
use Rattle.std.specs.Prelude.{ℕ, Result, Ok, Err}
use Rattle.meaning.specs.Answer.{Answer, refused}
use Rattle.meaning.specs.declared.Reason.{Reason}
use Rattle.meaning.specs.declared.Reason.TheVariants.{Short, Long, Letters, Form, Counts, Distance, Spare, Sum, Order, Target}
use Rattle.meaning.specs.declared.Reason.TheVariants.{Start, Entry, Exit, Places, Edges, Room, Trailer, PlaceRecord}
use Rattle.meaning.specs.declared.Reason.TheVariants.{EdgeRecord, Place, Base, ListLength, ListRoom, Part, Log}
use Rattle.meaning.specs.declared.Refusal.{Refusal}

abbrev pub number : Reason → ℕ
number Short = 1
number Long = 2
number Letters = 3
number Form = 4
number Counts = 5
number Distance = 6
number Spare = 7
number Sum = 8
number Order = 9
number Target = 10
number Start = 11
number Entry = 12
number Exit = 13
number Places = 14
number Edges = 15
number Room = 16
number Trailer = 17
number PlaceRecord = 18
number EdgeRecord = 19
number Place = 20
number Base = 21
number ListLength = 22
number ListRoom = 23
number Part = 24
number Log = 25

abbrev pub refusing : Refusal → Answer
refusing e = refused (number e.reason) e.place

abbrev pub told : {A : Type 0} → (A → Answer) → Result A Refusal → Answer
told f (Ok x) = f x
told f (Err e) = refusing e
