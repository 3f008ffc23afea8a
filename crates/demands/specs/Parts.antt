-- THE PART OF A RECORD. Document 01, "Runs and lists": a record is answered with that part of the caller's own log from end minus
-- length up to end, counted from base. Of a record that a run from place 0 of a book's image wrote, with that run's log and base:
--   Leading             the part is an ending of the bytes read up to the record's end, and its events lead from state 0 to a
--                       state with the record's mark
--   PartsLead           so it is for every record of every such run
use Rattle.std.specs.Prelude.{◌≡◌, ℕ, ◌+◌, take}
use Rattle.std.specs.Prelude.{Some}
use mathlib.Core.List.{List, ◌++◌, Memᴰ}
use Rattle.meaning.specs.Text.{Delta, Marks, events, read}
use Rattle.meaning.specs.Book.{delta, marks}
use Rattle.meaning.specs.Records.{Record}
use Rattle.book.specs.Model.{book_of}
use Rattle.lists.specs.Part.{part_of}
use Rattle.demands.specs.Words.{Compiled, Ran}

pub record Leading (δ : Delta) (mark : Marks) (base : ℕ) (log : List ℕ) (r : Record) : Type 0 where
  pub state : ℕ
  pub its_mark : mark state ≡ r.mark
  pub leads : read δ 0 (events (part_of log base r.end r.length)) ≡ Some state
  pub before : List ℕ
  pub bytes : ℕ
  pub at_end : r.end ≡ base + bytes
  pub ending : before ++ part_of log base r.end r.length ≡ take bytes log

abbrev pub PartsLead : Type 0
PartsLead =
    (xs ys : List ℕ) → Compiled xs ys → (base : ℕ) (log : List ℕ) (n : ℕ) (rs : List Record) → Ran ys base log n rs
    → (r : Record) → Memᴰ r rs → Leading (delta (book_of xs)) (marks (book_of xs)) base log r
