-- `rest` meets its contract: what the event makes of the rest is what it makes of the chain of the place reached
-- (`Walking`). Assumes nothing.
use Rattle.compile.specs.Writing.{book_of, rows_in}
use Rattle.compile.proofs.Reading.{Walking}
use Rattle.compile.proofs.write.Writing.rest.Given as goal

abbrev pub invariant-loop-g : goal.invariant-loop-g
invariant-loop-g l = Walking (book_of l.self) (rows_in l.self) l.p l.event l.g

abbrev pub decreases-loop-g : goal.decreases-loop-g
decreases-loop-g l = l.g
