-- THE STARRED CASES of document 01, "Books to try", as one table: `Starred` says that every line of it holds.
--   laid B                   the bytes of a book with no note: state records, edge records, trailer
--   book_a .. book_d, one    the books to try, in bytes
--   lent, buffer n           memory lent to a compile; a record buffer with room for n records
--   image_of xs              what a compile of the book xs writes into lent memory
--   list_of xs log           what a run over that image, read from the start with base 0, writes into a buffer
--   Line                     a line of the table: what is called, and the figures that the paper gives
--   Holds                    what a line says, over the definitions that the contracts name
--   table, Starred           THE TABLE, and that each of its lines holds
use Rattle.std.specs.Prelude.{◌≡◌, List, [], ◌∷◌, ◌++◌, ℕ, ◌*◌, length, take, set, replicate}
use Rattle.std.proofs.lemmas.List.Edits.{sets}
use Rattle.wire.specs.Little.{bytes16, bytes32}
use Rattle.wire.specs.Record.{record_size}
use Rattle.meaning.specs.Answer.{Answer, accepted, refused}
use Rattle.meaning.specs.Book.{Edge, edge, state, Book}
use Rattle.meaning.specs.Chain.{Chain, live}
use Rattle.meaning.specs.Records.{Record, recorded}
use Rattle.book.specs.Form.{size_of, SB}
use Rattle.book.specs.Rules.{check_book}
use Rattle.image.specs.Calls.{run_answer, run_memory, list_bytes}
use Rattle.lists.specs.Short.{short_answer, short_memory}
use Rattle.compile.specs.Answer.{compile_answer, compile_memory}
use Rattle.demands.specs.Words.{chain_named}

-- ---- the books
abbrev pub laid_edges : List Edge → List ℕ
laid_edges [] = []
laid_edges (e ∷ es) = (e.event ∷ 0 ∷ bytes16 e.target) ++ laid_edges es

-- edges stand in state order
abbrev pub laid_states : Book → List ℕ
laid_states [] = []
laid_states (s ∷ B) = (s.mark ∷ 0 ∷ bytes16 (length s.edges)) ++ laid_states B

abbrev pub all_edges : Book → List Edge
all_edges [] = []
all_edges (s ∷ B) = s.edges ++ all_edges B

abbrev pub laid_trailer : ℕ → ℕ → List ℕ
laid_trailer S E = bytes32 (size_of S E) ++ (bytes16 S ++ (bytes16 E ++ (bytes16 1 ++ SB)))

abbrev pub laid : Book → List ℕ
laid B = laid_states B ++ (laid_edges (all_edges B) ++ laid_trailer (length B) (length (all_edges B)))

-- A as the paper tells it, and its 52 bytes as the paper prints them
abbrev pub told_a : Book
told_a =
    state 0 (edge 0x21 1 ∷ edge 0x31 2 ∷ [])
    ∷ state 0 (edge 0x31 3 ∷ [])
    ∷ state 0 (edge 0x22 3 ∷ [])
    ∷ state 0 (edge 0x41 4 ∷ [])
    ∷ state 5 []
    ∷ []

abbrev pub book_a : List ℕ
book_a =
    0x00 ∷ 0x00 ∷ 0x02 ∷ 0x00 ∷ 0x00 ∷ 0x00 ∷ 0x01 ∷ 0x00 ∷ 0x00 ∷ 0x00 ∷ 0x01 ∷ 0x00
    ∷ 0x00 ∷ 0x00 ∷ 0x01 ∷ 0x00 ∷ 0x05 ∷ 0x00 ∷ 0x00 ∷ 0x00
    ∷ 0x21 ∷ 0x00 ∷ 0x01 ∷ 0x00 ∷ 0x31 ∷ 0x00 ∷ 0x02 ∷ 0x00 ∷ 0x31 ∷ 0x00 ∷ 0x03 ∷ 0x00
    ∷ 0x22 ∷ 0x00 ∷ 0x03 ∷ 0x00 ∷ 0x41 ∷ 0x00 ∷ 0x04 ∷ 0x00
    ∷ 0x34 ∷ 0x00 ∷ 0x00 ∷ 0x00 ∷ 0x05 ∷ 0x00 ∷ 0x05 ∷ 0x00 ∷ 0x01 ∷ 0x00 ∷ 0x53 ∷ 0x42
    ∷ []

abbrev pub book_b : List ℕ
book_b = laid (state 0 (edge 0x21 1 ∷ edge 0x31 2 ∷ []) ∷ state 0 (edge 0x31 2 ∷ []) ∷ state 3 [] ∷ [])

abbrev pub book_c : List ℕ
book_c =
    laid
    (state 0 (edge 0x21 1 ∷ edge 0x31 2 ∷ [])
    ∷ state 0 (edge 0x31 3 ∷ [])
    ∷ state 0 (edge 0x41 4 ∷ [])
    ∷ state 0 (edge 0x41 5 ∷ [])
    ∷ state 3 []
    ∷ state 5 []
    ∷ [])

abbrev pub book_d : List ℕ
book_d = laid (state 0 (edge 0x21 1 ∷ edge 0x31 2 ∷ []) ∷ state 0 (edge 0x22 2 ∷ []) ∷ state 3 [] ∷ [])

-- one state, no edges
abbrev pub one : List ℕ
one = laid (state 0 [] ∷ [])

-- ---- the calls
-- no lent byte is zero, so that every byte of an image is one that the compile wrote
abbrev pub lent : List ℕ
lent = replicate 128 9

abbrev pub buffer : ℕ → List ℕ
buffer room = replicate (record_size * room) 9

abbrev pub first_in : Answer → ℕ
first_in (accepted a b c d) = a
first_in (refused n p) = 0

abbrev pub records_in : Answer → ℕ
records_in (accepted a b c d) = c
records_in (refused n p) = 0

abbrev pub image_of : List ℕ → List ℕ
image_of xs = take (first_in (compile_answer xs (length lent))) (compile_memory xs lent)

-- with room for four records
abbrev pub list_of : List ℕ → List ℕ → List ℕ
list_of xs log =
    let ys = image_of xs in
    take (record_size * records_in (run_answer ys 0 0 log (buffer 4))) (run_memory ys 0 0 log (buffer 4))

-- ---- a line
pub data Line : Type 0 where
  -- the book lies in these bytes
  lies : Book → List ℕ → Line
  -- a book compiles: places, edges, bytes
  compiles : List ℕ → ℕ → ℕ → ℕ → Line
  -- to this image
  makes : List ℕ → List ℕ → Line
  -- a place of its image is this chain
  names : List ℕ → ℕ → Chain → Line
  -- a log run over its image, with room for so many records: events taken, place, records, failure steps
  runs : List ℕ → List ℕ → ℕ → ℕ → ℕ → List Record → ℕ → Line
  -- the short list of that run
  shortens : List ℕ → List ℕ → List Record → Line
  -- a book is refused: number, place
  refuses : List ℕ → ℕ → ℕ → Line

abbrev pub Holds : Line → Type 0
Holds (lies B xs) = laid B ≡ xs
Holds (compiles xs places edges size) = compile_answer xs (length lent) ≡ accepted size places edges 0
Holds (makes xs ys) = compile_memory xs lent ≡ sets lent 0 ys
Holds (names xs p c) = chain_named (image_of xs) p ≡ c
Holds (runs xs log room taken place rs steps) =
    (run_answer (image_of xs) 0 0 log (buffer room) ≡ accepted taken place (length rs) steps)
    × (run_memory (image_of xs) 0 0 log (buffer room) ≡ sets (buffer room) 0 (list_bytes rs))
Holds (shortens xs log rs) =
    (short_answer (list_of xs log) (length (buffer 4)) ≡ accepted (length rs) 0 0 0)
    × (short_memory (list_of xs log) (buffer 4) ≡ sets (buffer 4) 0 (list_bytes rs))
Holds (refuses xs n p) =
    (check_book xs ≡ refused n p)
    × (compile_answer xs (length lent) ≡ refused n p)
    × (compile_memory xs lent ≡ lent)

abbrev pub Each : List Line → Type 0
Each [] = Unit {0}
Each (l ∷ ls) = Holds l × Each ls

-- ---- the table. A run is told by book, log and room; events taken, place, records, failure steps. A record is told by end,
-- length and mark, a live state of a chain by its number and its reach.
abbrev pub table : List Line
table =
    lies told_a book_a
    ∷ compiles book_a 6 6 120
    ∷ names book_a 3 (live 3 2 ∷ live 2 1 ∷ [])
    ∷ names book_a 4 (live 3 2 ∷ [])
    ∷ runs book_a (0x21 ∷ 0x31 ∷ 0x22 ∷ 0x41 ∷ []) 4 4 5 (recorded 4 3 5 ∷ []) 1
    ∷ runs book_a (0x31 ∷ 0x22 ∷ 0x22 ∷ 0x41 ∷ []) 4 4 0 [] 1
    ∷ runs book_a [] 4 0 0 [] 0
    ∷ compiles book_b 3 3 66
    ∷ runs book_b (0x21 ∷ 0x31 ∷ []) 4 2 2 (recorded 2 1 3 ∷ []) 0
    ∷ compiles book_c 6 5 116
    ∷ runs book_c (0x21 ∷ 0x31 ∷ 0x41 ∷ []) 4 3 5 (recorded 3 3 5 ∷ recorded 3 2 3 ∷ []) 0
    ∷ shortens book_c (0x21 ∷ 0x31 ∷ 0x41 ∷ []) (recorded 3 3 5 ∷ [])
    ∷ runs book_c (0x21 ∷ 0x31 ∷ 0x41 ∷ []) 1 2 3 [] 0
    ∷ compiles book_d 4 3 80
    ∷ names book_d 2 (live 2 1 ∷ [])
    ∷ names book_d 3 (live 2 2 ∷ [])
    ∷ runs book_d (0x21 ∷ 0x22 ∷ []) 4 2 3 (recorded 2 2 3 ∷ []) 0
    ∷ runs book_d (0x31 ∷ []) 4 1 2 (recorded 1 1 3 ∷ []) 0
    ∷ compiles one 1 0 26
    ∷ makes one (replicate 14 0 ++ (26 ∷ 0 ∷ 0 ∷ 0 ∷ 1 ∷ 0 ∷ 0 ∷ 0 ∷ 1 ∷ 0 ∷ 0x53 ∷ 0x4D ∷ []))
    -- A with its last letter changed; with state 0 marked; with the form 2
    ∷ refuses (set book_a 51 0x4D) 3 0
    ∷ refuses (set book_a 0 1) 11 0
    ∷ refuses (set book_a 48 2) 4 0
    ∷ []

abbrev pub Starred : Type 0
Starred = Each table
