-- The book that bytes hold, as the states and edges of `meaning`. Document 01, "The book".
--   list_from f n k     f k, f (k + 1), .., n of them
--   first_edge t s      the number of the edges of all lower states
--   table_book t S      the book of a state table; edges stand in state order, so a state's edges follow those of all
--                       lower states
--   book_of xs          THE BOOK of the bytes xs
--   edges_below, firsts_of  for each of 512 states the number of its first edge, in 16 bits
--   RiseFrom, Rising    what a search by halving asks: the events rise
--   lead_of             where an event leads from a state, whose first edge is listed
use Rattle.std.specs.Prelude.{ℕ, zero, suc, ◌+◌, ◌%◌, ◌≤◌, ◌<◌, List, [], ◌∷◌, length, get_or, ltb}
use Rattle.std.specs.Prelude.{Option, None}
use Rattle.meaning.specs.Choice.{when}
use Rattle.meaning.specs.Book.{Edge, edge, State, state, Book, outs, look}
use Rattle.book.specs.Form.{most_states, trailer_of, table_of, state_record_at, edge_record_at}

unfoldable pub list_from : {A : Type 0} → (ℕ → A) → ℕ → ℕ → List A
list_from f zero k = []
list_from f (suc n) k = f k ∷ list_from f n (k + 1)

unfoldable pub first_edge : List ℕ → ℕ → ℕ
first_edge t zero = 0
first_edge t (suc s) = first_edge t s + (state_record_at t s).count

abbrev pub edge_of : List ℕ → ℕ → ℕ → Edge
edge_of t S j = edge (edge_record_at t S j).event (edge_record_at t S j).target

-- n edges from edge j on
abbrev pub edges_from : List ℕ → ℕ → ℕ → ℕ → List Edge
edges_from t S n j = list_from (edge_of t S) n j

abbrev pub state_of : List ℕ → ℕ → ℕ → State
state_of t S s = state (state_record_at t s).mark (edges_from t S (state_record_at t s).count (first_edge t s))

unfoldable pub table_book : List ℕ → ℕ → Book
table_book t S = list_from (state_of t S) S 0

abbrev pub book_of : List ℕ → Book
book_of xs = table_book (table_of xs) (trailer_of xs).states

unfoldable pub edges_below : Book → ℕ → ℕ
edges_below B zero = 0
edges_below B (suc q) = edges_below B q + length (outs B q)

unfoldable pub firsts_of : Book → List ℕ
firsts_of B = list_from (λ q. edges_below B q % 65536) most_states 0

-- the events of n edges from edge j on rise; of the edges of state q, whose first edge is listed
abbrev pub RiseFrom : List ℕ → ℕ → ℕ → ℕ → Type 0
RiseFrom t S n j = (i k : ℕ) → j ≤ i → i < k → k < j + n → (edge_record_at t S i).event < (edge_record_at t S k).event

abbrev pub Rising : List ℕ → ℕ → List ℕ → ℕ → Type 0
Rising t S first q = q < most_states → RiseFrom t S (length (outs (table_book t S) q)) (get_or first q 0)

unfoldable pub lead_of : List ℕ → ℕ → List ℕ → ℕ → ℕ → Option ℕ
lead_of t S first q a =
    when (ltb q most_states) (look (edges_from t S (length (outs (table_book t S) q)) (get_or first q 0)) a) None
