-- Chains told apart by their states alone, computed, before form 1 knows them: bare_counts, form 1's books (D has 3
-- places); order_count: chains are lists and no sets, (1, 2) and (2, 1) are two places; retries: a loop; settled: a
-- place stands on its fallback's own chain. Assumes nothing.
use mathlib.Core.Path.{◌≡◌, refl}
use Rattle.std.specs.Prelude.{Option, None, Some}
use mathlib.Core.List.{List, [], ◌∷◌}
use lib.ListN.{length}
use Rattle.meaning.specs.Chain.{live, Chain, chain}
use Rattle.meaning.specs.Places.{places}
use Rattle.meaning.specs.Book.{edge, state, Book, delta, outs}
use Rattle.meaning.proofs.Examples.{book_A, book_B, book_C, book_D}
use Rattle.meaning.proofs.Keys.{places_by}
use Rattle.meaning.proofs.Rules.{bare}

abbrev got : Option (List Chain) → List Chain
got None = []
got (Some L) = L

abbrev bare_places : Book → List Chain
bare_places B = got (places_by bare (delta B) (outs B) 1024)

bare_counts : (length (bare_places book_A) ≡ 6) × (length (bare_places book_B) ≡ 3) × (length (bare_places book_C) ≡ 6)
    × (length (bare_places book_D) ≡ 3)
bare_counts = (refl, refl, refl, refl)

abbrev book_order : Book
book_order =
    state 0 (edge 0x21 2 ∷ edge 0x31 3 ∷ []) ∷ state 3 [] ∷ state 5 (edge 0x21 1 ∷ edge 0x31 3 ∷ edge 0xFE 2 ∷ [])
    ∷ state 0 (edge 0x31 2 ∷ edge 0xFE 1 ∷ []) ∷ []

order_count : length (bare_places book_order) ≡ 7
order_count = refl

-- glass check, any number of retries, slope stored: with reaches there is no end of chains
abbrev book_retries : Book
book_retries = state 0 (edge 0x31 1 ∷ []) ∷ state 0 (edge 0x21 1 ∷ edge 0x41 2 ∷ []) ∷ state 3 [] ∷ []

retries : (bare_places book_retries ≡ [] ∷ (live 1 1 ∷ []) ∷ (live 2 2 ∷ []) ∷ [])
    × (places (delta book_retries) (outs book_retries) 20 ≡ None)
retries = (refl, refl)

-- after 11 21 22 the chain is (3, reach 3), (2, reach 2), and the place of 2 has level 1
abbrev book_settled : Book
book_settled =
    state 0 (edge 0x11 4 ∷ edge 0x21 1 ∷ edge 0x31 2 ∷ []) ∷ state 0 (edge 0x22 2 ∷ []) ∷ state 0 [] ∷ state 0 []
    ∷ state 0 (edge 0x21 5 ∷ []) ∷ state 0 (edge 0x22 3 ∷ []) ∷ []

settled : (chain (delta book_settled) (0x11 ∷ 0x21 ∷ 0x22 ∷ []) ≡ live 3 3 ∷ live 2 2 ∷ [])
    × (bare_places book_settled
    ≡ [] ∷ (live 4 1 ∷ []) ∷ (live 1 1 ∷ []) ∷ (live 2 1 ∷ []) ∷ (live 5 2 ∷ live 1 1 ∷ [])
    ∷ (live 3 3 ∷ live 2 1 ∷ []) ∷ [])
settled = (refl, refl)
