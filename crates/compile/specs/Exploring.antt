-- What an exploration holds.
--   book_of e, rows_in e, count_of e   the book; the places found so far, and how many they are
--   chain_in e p                       the chain of the place p
--   list_in e                          the chains of the places, in their order
use Rattle.std.specs.Prelude.{List, ℕ}
use Rattle.meaning.specs.Chain.{Chain}
use Rattle.meaning.specs.Book.{Book}
use Rattle.compile.specs.Work.{Rows}
use Rattle.compile.specs.Held.{source_book, rows_of, chain_at, chains_in}
use Rattle.compile.specs.declared.explore.Exploration.{Exploration}

abbrev pub book_of : Exploration → Book
book_of e = source_book e.source.now

abbrev pub rows_in : Exploration → Rows
rows_in e = rows_of e.places

abbrev pub count_of : Exploration → ℕ
count_of e = e.places.count

abbrev pub chain_in : Exploration → ℕ → Chain
chain_in e p = chain_at e.places p

abbrev pub list_in : Exploration → List Chain
list_in e = chains_in e.places
