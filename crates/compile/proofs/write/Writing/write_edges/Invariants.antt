-- `write_edges` meets its contract: the edge records of the places below p are written. Assumes nothing.
use Rattle.compile.specs.Writing.{book_of, rows_in, count_of}
use Rattle.compile.proofs.Records.{Edging}
use Rattle.compile.proofs.write.Writing.write_edges.Given as goal

abbrev pub invariant-loop-p : goal.invariant-loop-p
invariant-loop-p l = Edging (book_of l.self) (rows_in l.self) (count_of l.self) l.fn.out l.p l.at l.out
