-- What the structs of the compile hold.
--   source_book s    the book that is compiled
--   rows_of w        head, level and fallback of each place
--   chain_at w p     the chain of the place p
--   chains_in w      the chains of all places, in their order
use Rattle.std.specs.Prelude.{List, ℕ}
use Rattle.meaning.specs.Chain.{Chain}
use Rattle.meaning.specs.Book.{Book}
use Rattle.book.specs.Model.{table_book}
use Rattle.compile.specs.Work.{Rows, columns, chain_of, list_of}
use Rattle.compile.specs.declared.source.Source.{Source}
use Rattle.compile.specs.declared.work.Places.{Places}

abbrev pub source_book : Source → Book
source_book s = table_book s.table.bytes.now s.table.states

abbrev pub rows_of : Places → Rows
rows_of w = columns w.rows

abbrev pub chain_at : Places → ℕ → Chain
chain_at w p = chain_of (rows_of w) p

abbrev pub chains_in : Places → List Chain
chains_in w = list_of (rows_of w) w.count
