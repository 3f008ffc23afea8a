-- `write_own` meets its contract: the records of i of the edges are written. Assumes nothing.
use Rattle.compile.specs.Writing.{book_of, rows_in, count_of}
use Rattle.compile.proofs.Records.{Owning}
use Rattle.compile.proofs.write.Writing.write_own.Given as goal

abbrev pub invariant-loop-i : goal.invariant-loop-i
invariant-loop-i l = Owning (book_of l.self) (rows_in l.self) (count_of l.self) l.p l.fn.out l.at l.i l.out
