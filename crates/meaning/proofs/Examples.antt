-- Document 01's books to try, computed: places and edges, and what runs over their images come to (books A, B, C, D,
-- one). From the definitions alone, by no theorem. book_deep is the least book that tells document 000's rule from
-- Mohri's: a state found deep in the rest is dropped; book_over has overlapping signatures. Assumes nothing.
use mathlib.Core.Path.{◌≡◌, refl}
use Rattle.std.specs.Prelude.{Option, None, Some}
use mathlib.Core.List.{List, [], ◌∷◌}
use Prim.Native.Nat.{ℕ}
use lib.ListN.{length}
use Rattle.meaning.specs.Chain.{live, Chain, chain}
use Rattle.meaning.specs.Places.{places}
use Rattle.meaning.specs.Book.{edge, state, Book, delta, outs, marks}
use Rattle.meaning.specs.Questions.{first_edge, targets_below, image_of}
use Rattle.meaning.specs.Walk.{next}
use Rattle.meaning.specs.Records.{Record, recorded, records_within, records_at, Outcome, run}

-- no places where there are over 1,024
abbrev got : Option (List Chain) → List Chain
got None = []
got (Some L) = L

abbrev places_of : Book → List Chain
places_of B = got (places (delta B) (outs B) 1024)

abbrev edges_of : Book → ℕ
edges_of B = first_edge (delta B) (outs B) (marks B) (places_of B) (length (places_of B))

-- a run from place 0 and base 0
abbrev ran : Book → ℕ → List ℕ → Outcome
ran B room log = run (image_of (delta B) (outs B) (marks B) (places_of B)) room 0 0 log

abbrev came : ℕ → ℕ → List Record → ℕ → Outcome
came n p rs s = record { taken = n; place = p; records = rs; steps = s }

-- 21 31 41 and 31 22 41 with shared states
abbrev pub book_A : Book
book_A =
    state 0 (edge 0x21 1 ∷ edge 0x31 2 ∷ []) ∷ state 0 (edge 0x31 3 ∷ []) ∷ state 0 (edge 0x22 3 ∷ [])
    ∷ state 0 (edge 0x41 4 ∷ []) ∷ state 5 [] ∷ []

abbrev pub book_B : Book
book_B = state 0 (edge 0x21 1 ∷ edge 0x31 2 ∷ []) ∷ state 0 (edge 0x31 2 ∷ []) ∷ state 3 [] ∷ []

abbrev pub book_C : Book
book_C =
    state 0 (edge 0x21 1 ∷ edge 0x31 2 ∷ []) ∷ state 0 (edge 0x31 3 ∷ []) ∷ state 0 (edge 0x41 4 ∷ [])
    ∷ state 0 (edge 0x41 5 ∷ []) ∷ state 3 [] ∷ state 5 [] ∷ []

abbrev pub book_D : Book
book_D = state 0 (edge 0x21 1 ∷ edge 0x31 2 ∷ []) ∷ state 0 (edge 0x22 2 ∷ []) ∷ state 3 [] ∷ []

abbrev pub book_one : Book
book_one = state 0 [] ∷ []

abbrev pub book_deep : Book
book_deep =
    state 0 (edge 0x10 3 ∷ edge 0x50 1 ∷ []) ∷ state 0 (edge 0x10 2 ∷ edge 0x50 2 ∷ []) ∷ state 0 (edge 0x10 3 ∷ [])
    ∷ state 1 [] ∷ []

abbrev pub book_over : Book
book_over = state 0 (edge 0x21 1 ∷ []) ∷ state 0 (edge 0x21 2 ∷ []) ∷ state 3 [] ∷ []

-- place 3 of A is the chain 3, 2 and place 4 the chain 3 alone
A_places : (places_of book_A
    ≡ [] ∷ (live 1 1 ∷ []) ∷ (live 2 1 ∷ []) ∷ (live 3 2 ∷ live 2 1 ∷ []) ∷ (live 3 2 ∷ []) ∷ (live 4 3 ∷ []) ∷ [])
    × (edges_of book_A ≡ 6)
unfolding first_edge
A_places = (refl, refl)

A_runs : (ran book_A 9 (0x21 ∷ 0x31 ∷ 0x22 ∷ 0x41 ∷ []) ≡ came 4 5 (recorded 4 3 5 ∷ []) 1)
    × (ran book_A 9 (0x31 ∷ 0x22 ∷ 0x22 ∷ 0x41 ∷ []) ≡ came 4 0 [] 1) × (ran book_A 9 [] ≡ came 0 0 [] 0)
unfolding run records_at records_within next first_edge targets_below
A_runs = (refl, refl, refl)

-- a shared state stands once in a chain: one record, of the shorter ending
B_places : (places_of book_B ≡ [] ∷ (live 1 1 ∷ []) ∷ (live 2 1 ∷ []) ∷ []) × (edges_of book_B ≡ 3)
unfolding first_edge
B_places = (refl, refl)

B_run : ran book_B 9 (0x21 ∷ 0x31 ∷ []) ≡ came 2 2 (recorded 2 1 3 ∷ []) 0
unfolding run records_at records_within next first_edge targets_below
B_run = refl

C_places : (length (places_of book_C) ≡ 6) × (edges_of book_C ≡ 5)
unfolding first_edge
C_places = (refl, refl)

-- two records at one event, in chain order; with room for one of them the run stops before the event
C_runs : (ran book_C 9 (0x21 ∷ 0x31 ∷ 0x41 ∷ []) ≡ came 3 5 (recorded 3 3 5 ∷ recorded 3 2 3 ∷ []) 0)
    × (ran book_C 1 (0x21 ∷ 0x31 ∷ 0x41 ∷ []) ≡ came 2 3 [] 0)
unfolding run records_at records_within next first_edge targets_below
C_runs = (refl, refl)

-- state 2 has a place for each of its reaches
D_places : (places_of book_D ≡ [] ∷ (live 1 1 ∷ []) ∷ (live 2 1 ∷ []) ∷ (live 2 2 ∷ []) ∷ []) × (edges_of book_D ≡ 3)
unfolding first_edge
D_places = (refl, refl)

D_runs : (ran book_D 9 (0x21 ∷ 0x22 ∷ []) ≡ came 2 3 (recorded 2 2 3 ∷ []) 0)
    × (ran book_D 9 (0x31 ∷ []) ≡ came 1 2 (recorded 1 1 3 ∷ []) 0)
unfolding run records_at records_within next first_edge targets_below
D_runs = (refl, refl)

one-places : (places_of book_one ≡ [] ∷ []) × (edges_of book_one ≡ 0) × (ran book_one 0 (0x21 ∷ 0x31 ∷ []) ≡ came 2 0 [] 0)
unfolding run records_at records_within next first_edge targets_below
one-places = (refl, refl, refl)

-- state 3 stands below state 2, so the edge by 10 from 2 to 3 adds nothing: 5 places, where Mohri's rule has 6
deep-places : (places_of book_deep
    ≡ [] ∷ (live 3 1 ∷ []) ∷ (live 1 1 ∷ []) ∷ (live 2 2 ∷ live 3 1 ∷ []) ∷ (live 2 2 ∷ live 1 1 ∷ []) ∷ [])
    × (edges_of book_deep ≡ 6)
unfolding first_edge
deep-places = (refl, refl)

-- the head is not marked and its fallback is: the record is the fallback's
deep-run : (chain (delta book_deep) (0x50 ∷ 0x50 ∷ 0x10 ∷ []) ≡ live 2 2 ∷ live 3 1 ∷ [])
    × (ran book_deep 9 (0x50 ∷ 0x50 ∷ 0x10 ∷ []) ≡ came 3 3 (recorded 3 1 1 ∷ []) 0)
unfolding run records_at records_within next first_edge targets_below
deep-run = (refl, refl)

-- after a record the walk goes on where it stands
over_run : ran book_over 9 (0x21 ∷ 0x21 ∷ 0x21 ∷ []) ≡ came 3 2 (recorded 2 2 3 ∷ recorded 3 2 3 ∷ []) 1
unfolding run records_at records_within next first_edge targets_below
over_run = refl
