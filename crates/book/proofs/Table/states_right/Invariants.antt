-- `states_right` meets its contract: every rule is passed by the states before state s (`StatesLoop`). Assumes nothing.
use Rattle.book.proofs.Sound.{StatesLoop}
use Rattle.book.proofs.Table.states_right.Given as goal

abbrev pub invariant-loop-s : goal.invariant-loop-s
invariant-loop-s l = StatesLoop l.self.bytes.now l.self.states l.edges l.s
