-- Document 01's book A, and edits of it, checked by computation: the starred refusals 3, 11 and 4, the order of 9 and 10,
-- and a place for each other number but 2. An edit of the rules has to keep these. Assumes nothing.
use Prim.Native.Nat.{ℕ}
use mathlib.Core.List.{List, [], ◌∷◌}
use mathlib.Core.Path.{◌≡◌, refl}
use lib.ListN.{set, drop}
use Rattle.meaning.specs.Answer.{Answer, accepted, refused}
use Rattle.meaning.specs.Book.{edge, state}
use Rattle.book.specs.Form.{trailer_of, letters_right, table_at, state_record_at, edge_record_at}
use Rattle.book.specs.Model.{list_from, first_edge, table_book, book_of}
use Rattle.book.specs.Rules.{first_fault, own_faults, entered, check_book}

abbrev pub book_a : List ℕ
book_a =
    0 ∷ 0 ∷ 2 ∷ 0 ∷ 0 ∷ 0 ∷ 1 ∷ 0 ∷ 0 ∷ 0 ∷ 1 ∷ 0 ∷ 0 ∷ 0 ∷ 1 ∷ 0 ∷ 5 ∷ 0 ∷ 0 ∷ 0
    ∷ 0x21 ∷ 0 ∷ 1 ∷ 0 ∷ 0x31 ∷ 0 ∷ 2 ∷ 0 ∷ 0x31 ∷ 0 ∷ 3 ∷ 0 ∷ 0x22 ∷ 0 ∷ 3 ∷ 0 ∷ 0x41 ∷ 0 ∷ 4 ∷ 0
    ∷ 0x34 ∷ 0 ∷ 0 ∷ 0 ∷ 5 ∷ 0 ∷ 5 ∷ 0 ∷ 1 ∷ 0 ∷ 0x53 ∷ 0x42 ∷ []

-- the edit of a byte, and the answer
record Case : Type 0 where
  bytes : List ℕ
  answer : Answer

abbrev with : List ℕ → Answer → Case
with xs a = record { bytes = xs; answer = a }

abbrev cases : List Case
cases =
    with book_a (accepted 5 5 0 0)
    -- A with its last letter changed; with state 0 marked; with the form 2
    ∷ with (set book_a 51 0x4d) (refused 3 0)
    ∷ with (set book_a 0 1) (refused 11 0)
    ∷ with (set book_a 48 2) (refused 4 0)
    -- edge 1 fails 9 and edge 0 fails 10: 9 is judged over the whole book before 10
    ∷ with (set (set book_a 24 0x21) 22 0) (refused 9 24)
    -- a note; 11 bytes; no state; a distance that is 1 too far
    ∷ with (7 ∷ 7 ∷ 7 ∷ book_a) (accepted 5 5 0 0)
    ∷ with (drop 41 book_a) (refused 1 0)
    ∷ with (set book_a 44 0) (refused 5 0)
    ∷ with (set book_a 40 0x35) (refused 6 0)
    ∷ with (drop 1 book_a) (refused 6 0)
    -- the zero bytes of state 2 and of edge 3; one edge too many at state 4
    ∷ with (set (set book_a 9 1) 33 1) (refused 7 8)
    ∷ with (set book_a 33 1) (refused 7 32)
    ∷ with (set book_a 18 1) (refused 8 0)
    -- edge 2 leads to its own state; edge 4 past the last state
    ∷ with (set book_a 30 1) (refused 10 28)
    ∷ with (set book_a 38 5) (refused 10 36)
    -- edge 0 to state 3: none leads into state 1; state 4 unmarked
    ∷ with (set book_a 22 3) (refused 12 4)
    ∷ with (set book_a 16 0) (refused 13 16)
    -- one state and no edges
    ∷ with (0 ∷ 0 ∷ 0 ∷ 0 ∷ 16 ∷ 0 ∷ 0 ∷ 0 ∷ 1 ∷ 0 ∷ 0 ∷ 0 ∷ 1 ∷ 0 ∷ 0x53 ∷ 0x42 ∷ []) (accepted 1 0 0 0)
    ∷ []

abbrev answers : List Case → List Answer
answers [] = []
answers (c ∷ cs) = c.answer ∷ answers cs

abbrev checked : List Case → List Answer
checked [] = []
checked (c ∷ cs) = check_book c.bytes ∷ checked cs

cases_right : checked cases ≡ answers cases
unfolding check_book trailer_of letters_right table_at state_record_at edge_record_at first_edge first_fault own_faults entered
cases_right = refl

pub book_a_accepted : check_book book_a ≡ accepted 5 5 0 0
unfolding check_book trailer_of letters_right table_at state_record_at edge_record_at first_edge first_fault own_faults entered
book_a_accepted = refl

-- the book that A's bytes hold
pub book_a_is : book_of book_a
    ≡ state 0 (edge 0x21 1 ∷ edge 0x31 2 ∷ [])
    ∷ state 0 (edge 0x31 3 ∷ [])
    ∷ state 0 (edge 0x22 3 ∷ [])
    ∷ state 0 (edge 0x41 4 ∷ [])
    ∷ state 5 []
    ∷ []
unfolding trailer_of table_at table_book list_from first_edge state_record_at edge_record_at
book_a_is = refl
