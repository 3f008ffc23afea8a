-- Document 01's books to try, compiled by computation: books A, B, C, D and one state, the bytes of A's image, and
-- what a compile refuses of A. `deep` is the least book that tells document 000's rule from Mohri's: a state found
-- deep in the rest is dropped. Assumes nothing.
use mathlib.Core.Path.{◌≡◌, refl}
use mathlib.Core.List.{List, [], ◌∷◌}
use Prim.Native.Nat.{ℕ}
use lib.ListN.{set}
use Rattle.meaning.specs.Questions.{first_edge}
use Rattle.meaning.specs.Answer.{Answer, accepted, refused}
use Rattle.book.specs.Form.{trailer_of, letters_right, table_at, state_record_at, edge_record_at}
use Rattle.book.specs.Model.{list_from, first_edge as edge_before, table_book, book_of}
use Rattle.book.specs.Rules.{first_fault, own_faults, entered, check_book}
use Rattle.compile.specs.Bytes.{place_of, places_below, edges_below, image_bytes}
use Rattle.compile.specs.Answer.{chains_of, image_of_book, compile_answer}

abbrev book_a : List ℕ
book_a =
    0 ∷ 0 ∷ 2 ∷ 0 ∷ 0 ∷ 0 ∷ 1 ∷ 0 ∷ 0 ∷ 0 ∷ 1 ∷ 0 ∷ 0 ∷ 0 ∷ 1 ∷ 0 ∷ 5 ∷ 0 ∷ 0 ∷ 0
    ∷ 0x21 ∷ 0 ∷ 1 ∷ 0 ∷ 0x31 ∷ 0 ∷ 2 ∷ 0 ∷ 0x31 ∷ 0 ∷ 3 ∷ 0 ∷ 0x22 ∷ 0 ∷ 3 ∷ 0 ∷ 0x41 ∷ 0 ∷ 4 ∷ 0
    ∷ 0x34 ∷ 0 ∷ 0 ∷ 0 ∷ 5 ∷ 0 ∷ 5 ∷ 0 ∷ 1 ∷ 0 ∷ 0x53 ∷ 0x42 ∷ []

abbrev book_b : List ℕ
book_b =
    0 ∷ 0 ∷ 2 ∷ 0 ∷ 0 ∷ 0 ∷ 1 ∷ 0 ∷ 3 ∷ 0 ∷ 0 ∷ 0 ∷ 0x21 ∷ 0 ∷ 1 ∷ 0 ∷ 0x31 ∷ 0 ∷ 2 ∷ 0 ∷ 0x31 ∷ 0 ∷ 2 ∷ 0
    ∷ 0x24 ∷ 0 ∷ 0 ∷ 0 ∷ 3 ∷ 0 ∷ 3 ∷ 0 ∷ 1 ∷ 0 ∷ 0x53 ∷ 0x42 ∷ []

abbrev book_c : List ℕ
book_c =
    0 ∷ 0 ∷ 2 ∷ 0 ∷ 0 ∷ 0 ∷ 1 ∷ 0 ∷ 0 ∷ 0 ∷ 1 ∷ 0 ∷ 0 ∷ 0 ∷ 1 ∷ 0 ∷ 3 ∷ 0 ∷ 0 ∷ 0 ∷ 5 ∷ 0 ∷ 0 ∷ 0
    ∷ 0x21 ∷ 0 ∷ 1 ∷ 0 ∷ 0x31 ∷ 0 ∷ 2 ∷ 0 ∷ 0x31 ∷ 0 ∷ 3 ∷ 0 ∷ 0x41 ∷ 0 ∷ 4 ∷ 0 ∷ 0x41 ∷ 0 ∷ 5 ∷ 0
    ∷ 0x38 ∷ 0 ∷ 0 ∷ 0 ∷ 6 ∷ 0 ∷ 5 ∷ 0 ∷ 1 ∷ 0 ∷ 0x53 ∷ 0x42 ∷ []

abbrev book_d : List ℕ
book_d =
    0 ∷ 0 ∷ 2 ∷ 0 ∷ 0 ∷ 0 ∷ 1 ∷ 0 ∷ 3 ∷ 0 ∷ 0 ∷ 0 ∷ 0x21 ∷ 0 ∷ 1 ∷ 0 ∷ 0x31 ∷ 0 ∷ 2 ∷ 0 ∷ 0x22 ∷ 0 ∷ 2 ∷ 0
    ∷ 0x24 ∷ 0 ∷ 0 ∷ 0 ∷ 3 ∷ 0 ∷ 3 ∷ 0 ∷ 1 ∷ 0 ∷ 0x53 ∷ 0x42 ∷ []

abbrev one : List ℕ
one = 0 ∷ 0 ∷ 0 ∷ 0 ∷ 0x10 ∷ 0 ∷ 0 ∷ 0 ∷ 1 ∷ 0 ∷ 0 ∷ 0 ∷ 1 ∷ 0 ∷ 0x53 ∷ 0x42 ∷ []

-- 0: 10 to 3, 50 to 1; 1: 10 and 50 to 2; 2: 10 to 3; 3 has mark 1
abbrev deep : List ℕ
deep =
    0 ∷ 0 ∷ 2 ∷ 0 ∷ 0 ∷ 0 ∷ 2 ∷ 0 ∷ 0 ∷ 0 ∷ 1 ∷ 0 ∷ 1 ∷ 0 ∷ 0 ∷ 0
    ∷ 0x10 ∷ 0 ∷ 3 ∷ 0 ∷ 0x50 ∷ 0 ∷ 1 ∷ 0 ∷ 0x10 ∷ 0 ∷ 2 ∷ 0 ∷ 0x50 ∷ 0 ∷ 2 ∷ 0 ∷ 0x10 ∷ 0 ∷ 3 ∷ 0
    ∷ 0x30 ∷ 0 ∷ 0 ∷ 0 ∷ 4 ∷ 0 ∷ 5 ∷ 0 ∷ 1 ∷ 0 ∷ 0x53 ∷ 0x42 ∷ []

-- a book, the room for its image, and the answer
record Case : Type 0 where
  book : List ℕ
  room : ℕ
  answer : Answer

abbrev with : List ℕ → ℕ → Answer → Case
with xs n a = record { book = xs; room = n; answer = a }

abbrev cases : List Case
cases =
    with book_a 120 (accepted 120 6 6 0)
    ∷ with book_b 1000 (accepted 66 3 3 0)
    ∷ with book_c 1000 (accepted 116 6 5 0)
    ∷ with book_d 1000 (accepted 80 4 3 0)
    ∷ with one 26 (accepted 26 1 0 0)
    ∷ with deep 1000 (accepted 106 5 6 0)
    -- A with a note; with a byte too little; with its last letter changed
    ∷ with (7 ∷ 7 ∷ book_a) 120 (accepted 120 6 6 0)
    ∷ with book_a 119 (refused 16 0)
    ∷ with (set book_a 51 0x4d) 120 (refused 3 0)
    ∷ []

abbrev answers : List Case → List Answer
answers [] = []
answers (c ∷ cs) = c.answer ∷ answers cs

abbrev compiled : List Case → List Answer
compiled [] = []
compiled (c ∷ cs) = compile_answer c.book c.room ∷ compiled cs

pub cases_right : compiled cases ≡ answers cases
unfolding trailer_of letters_right table_at state_record_at edge_record_at first_fault own_faults entered check_book list_from edge_before table_book first_edge chains_of compile_answer
cases_right = refl

-- places, edges and trailer of A's image: place 3 is the chain 3, 2; place 4 the chain 3 alone
abbrev image_a : List ℕ
image_a =
    0 ∷ 0 ∷ 2 ∷ 0 ∷ 0 ∷ 0 ∷ 0 ∷ 0 ∷ 0 ∷ 0 ∷ 0 ∷ 0 ∷ 0 ∷ 0
    ∷ 2 ∷ 0 ∷ 1 ∷ 0 ∷ 0 ∷ 0 ∷ 1 ∷ 0 ∷ 1 ∷ 0 ∷ 0 ∷ 0 ∷ 0 ∷ 0
    ∷ 3 ∷ 0 ∷ 1 ∷ 0 ∷ 0 ∷ 0 ∷ 1 ∷ 0 ∷ 2 ∷ 0 ∷ 0 ∷ 0 ∷ 0 ∷ 0
    ∷ 4 ∷ 0 ∷ 1 ∷ 0 ∷ 2 ∷ 0 ∷ 2 ∷ 0 ∷ 3 ∷ 0 ∷ 0 ∷ 0 ∷ 0 ∷ 0
    ∷ 5 ∷ 0 ∷ 1 ∷ 0 ∷ 0 ∷ 0 ∷ 2 ∷ 0 ∷ 3 ∷ 0 ∷ 0 ∷ 0 ∷ 0 ∷ 0
    ∷ 6 ∷ 0 ∷ 0 ∷ 0 ∷ 0 ∷ 0 ∷ 3 ∷ 0 ∷ 4 ∷ 0 ∷ 5 ∷ 0 ∷ 5 ∷ 0
    ∷ 0x21 ∷ 0 ∷ 1 ∷ 0 ∷ 0x31 ∷ 0 ∷ 2 ∷ 0 ∷ 0x31 ∷ 0 ∷ 3 ∷ 0 ∷ 0x22 ∷ 0 ∷ 4 ∷ 0 ∷ 0x41 ∷ 0 ∷ 5 ∷ 0 ∷ 0x41 ∷ 0 ∷ 5 ∷ 0
    ∷ 0x78 ∷ 0 ∷ 0 ∷ 0 ∷ 6 ∷ 0 ∷ 6 ∷ 0 ∷ 1 ∷ 0 ∷ 0x53 ∷ 0x4d ∷ []

pub image_right : image_of_book (book_of book_a) ≡ image_a
unfolding trailer_of table_at state_record_at edge_record_at list_from edge_before table_book first_edge chains_of place_of places_below edges_below image_bytes
image_right = refl
