-- A book in bytes. Document 01, "The book".
--   most_states, most_edges, most_bytes  S is 1 to 512, E is 0 to 2,048, the file at most 65,536 bytes
--   trailer_size, size_of S E            12 bytes; the distance of a right trailer, 4S + 4E + 12
--   SB, letters_right                    the letters; whether a trailer ends with them
--   trailer_at, trailer_of               where the trailer starts, and its numbers
--   table_at, table_of                   where the state table starts; what stands from there on
--   state_record_at, edge_record_at      state s and edge j of a table; a byte past the end reads as 0
--   state_place, edge_place              their offsets from the state table
use Rattle.std.specs.Prelude.{ℕ, ◌+◌, ◌*◌, ◌-◌, List, [], ◌∷◌, Bool, ◌&&◌, length, get_or, drop, eqb}
use Rattle.wire.specs.Little.{le16_at, le32_at}
use Rattle.book.specs.declared.Trailer.{Trailer}
use Rattle.book.specs.declared.StateRecord.{StateRecord}
use Rattle.book.specs.declared.EdgeRecord.{EdgeRecord}

abbrev pub most_states : ℕ
most_states = 512

abbrev pub most_edges : ℕ
most_edges = 2048

abbrev pub most_bytes : ℕ
most_bytes = 65536

abbrev pub trailer_size : ℕ
trailer_size = 12

abbrev pub state_place : ℕ → ℕ
state_place s = 4 * s

abbrev pub edge_place : ℕ → ℕ → ℕ
edge_place S j = 4 * S + 4 * j

abbrev pub size_of : ℕ → ℕ → ℕ
size_of S E = edge_place S E + trailer_size

abbrev pub trailer_at : List ℕ → ℕ
trailer_at xs = length xs - trailer_size

unfoldable pub trailer_of : List ℕ → Trailer
trailer_of xs =
    let at = trailer_at xs in
    record {
      distance = le32_at xs at;
      states = le16_at xs (at + 4);
      edges = le16_at xs (at + 6);
      form = le16_at xs (at + 8);
    }

abbrev pub SB : List ℕ
SB = 83 ∷ 66 ∷ []

unfoldable pub letters_right : List ℕ → List ℕ → Bool
letters_right ls xs =
    let at = trailer_at xs + 10 in
    eqb (get_or xs at 0) (get_or ls 0 0) && eqb (get_or xs (at + 1) 0) (get_or ls 1 0)

-- anything before the state table is a maker's note and has no meaning
unfoldable pub table_at : List ℕ → ℕ
table_at xs = length xs - (trailer_of xs).distance

abbrev pub table_of : List ℕ → List ℕ
table_of xs = drop (table_at xs) xs

unfoldable pub state_record_at : List ℕ → ℕ → StateRecord
state_record_at t s =
    let at = state_place s in
    record { mark = get_or t at 0; spare = get_or t (at + 1) 0; count = le16_at t (at + 2) }

unfoldable pub edge_record_at : List ℕ → ℕ → ℕ → EdgeRecord
edge_record_at t S j =
    let at = edge_place S j in
    record { event = get_or t at 0; spare = get_or t (at + 1) 0; target = le16_at t (at + 2) }
