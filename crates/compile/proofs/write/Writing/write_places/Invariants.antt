-- `write_places` meets its contract: the records of the places below p are written. Assumes nothing.
use Rattle.compile.specs.Writing.{book_of, rows_in, count_of}
use Rattle.compile.proofs.Records.{Placing}
use Rattle.compile.proofs.write.Writing.write_places.Given as goal

abbrev pub invariant-loop-p : goal.invariant-loop-p
invariant-loop-p l = Placing (book_of l.self) (rows_in l.self) (count_of l.self) l.fn.out l.p l.first l.out
