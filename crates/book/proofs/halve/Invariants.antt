-- `halve` meets its contract (`Narrowed`). Assumes nothing.
use Rattle.book.proofs.Look.{Narrowed}
use Rattle.book.proofs.halve.Given as goal

abbrev pub invariant-loop-left : goal.invariant-loop-left
invariant-loop-left l = Narrowed l.bytes l.states l.event l.first l.count l.j l.left

abbrev pub decreases-loop-left : goal.decreases-loop-left
decreases-loop-left l = l.left
