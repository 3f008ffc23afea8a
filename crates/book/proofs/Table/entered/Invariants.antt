-- `entered` meets its contract: the array has the edges below edge j. Assumes nothing.
use Rattle.book.specs.Reads.{EnteredAre}
use Rattle.book.proofs.Table.entered.Given as goal

abbrev pub invariant-loop-j : goal.invariant-loop-j
invariant-loop-j l = EnteredAre l.self.bytes.now l.self.states l.j l.r
