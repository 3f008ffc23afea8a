-- What the writing of an image holds, and what it says of the image.
--   book_of w, rows_in w, count_of w   the book; its places, and how many they are
--   list_in w                          the chains of the places, in their order
--   Walks w p out                      the image has what a walk from the place p reads
--   place_records w, edge_records w    the bytes of the records of all places, and of their edges
use Rattle.std.specs.Prelude.{List, ℕ}
use Rattle.meaning.specs.Chain.{Chain}
use Rattle.meaning.specs.Book.{Book}
use Rattle.image.specs.Form.{form1}
use Rattle.compile.specs.Work.{Rows}
use Rattle.compile.specs.Held.{source_book, rows_of, chains_in}
use Rattle.compile.specs.Bytes.{spread, places_below, edges_below}
use Rattle.compile.specs.Write.{Walkable}
use Rattle.compile.specs.declared.write.Writing.{Writing}

abbrev pub book_of : Writing → Book
book_of w = source_book w.source.now

abbrev pub rows_in : Writing → Rows
rows_in w = rows_of w.places.now

abbrev pub count_of : Writing → ℕ
count_of w = w.places.now.count

abbrev pub list_in : Writing → List Chain
list_in w = chains_in w.places.now

abbrev pub Walks : Writing → ℕ → List ℕ → Type 0
Walks w p out = Walkable (book_of w) (rows_in w) (count_of w) p w.start out

abbrev pub place_records : Writing → List ℕ
place_records w = spread form1.place_bytes (places_below (book_of w) (list_in w) (count_of w))

abbrev pub edge_records : Writing → List ℕ
edge_records w = spread form1.edge_bytes (edges_below (book_of w) (list_in w) (count_of w))
