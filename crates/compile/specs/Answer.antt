-- WHAT A COMPILE ANSWERS, and the lent memory afterwards. Document 01, "Refusal numbers" 14 to 16, after those of the
-- book.
--   chains_of B             the places of the book: its chains, numbered; none where there are more than 1,024
--   made_of B room P        14, 15, 16, or image length, places and edges
--   image_of_book B         the bytes of the book's image; none where there are too many places
--   compile_answer xs room  the answer for the book xs with so many bytes of room
--   compile_memory xs out   the lent memory afterwards: the image from its start, or as it was
--   making, told            the numbers of what was made; of each answer
use Rattle.std.specs.Prelude.{Option, None, Some, Result}
use Rattle.std.specs.Prelude.{List, [], ◌∷◌, ℕ, length, ltb}
use Rattle.meaning.specs.Chain.{Chain}
use Rattle.meaning.specs.Places.{places}
use Rattle.meaning.specs.Book.{Book, delta, outs}
use Rattle.meaning.specs.Answer.{Answer, accepted, refused, rule, judged, leaving}
use Rattle.meaning.specs.Refusal as refusal
use Rattle.meaning.specs.declared.Refusal.{Refusal}
use Rattle.book.specs.Model.{book_of}
use Rattle.book.specs.Rules.{check_book}
use Rattle.image.specs.Form.{form1, size_of}
use Rattle.compile.specs.Bytes.{edge_count, image_bytes}
use Rattle.compile.specs.declared.Made.{Made}

unfoldable pub chains_of : Book → Option (List Chain)
chains_of B = places (delta B) (outs B) form1.most_places

abbrev pub made_of : Book → ℕ → Option (List Chain) → Answer
made_of B room None = refused 14 0
made_of B room (Some L) =
    let q = length L in
    let t = edge_count B L in
    judged
    (rule 15 (ltb form1.most_edges t) 0 ∷ rule 16 (ltb room (size_of form1 q t)) 0 ∷ [])
    (accepted (size_of form1 q t) q t 0)

abbrev pub bytes_for : Book → Option (List Chain) → List ℕ
bytes_for B None = []
bytes_for B (Some L) = image_bytes form1 B L

abbrev pub image_of_book : Book → List ℕ
image_of_book B = bytes_for B (chains_of B)

-- the book's own refusals come first
abbrev pub after_book : Answer → Answer → Answer
after_book (accepted a b c d) x = x
after_book (refused n p) x = refused n p

unfoldable pub compile_answer : List ℕ → ℕ → Answer
compile_answer xs room = after_book (check_book xs) (made_of (book_of xs) room (chains_of (book_of xs)))

unfoldable pub compile_memory : List ℕ → List ℕ → List ℕ
compile_memory xs out = leaving (compile_answer xs (length out)) out (image_of_book (book_of xs))

abbrev pub making : Made → Answer
making m = accepted m.length m.places m.edges 0

abbrev pub told : Result Made Refusal → Answer
told r = refusal.told making r
