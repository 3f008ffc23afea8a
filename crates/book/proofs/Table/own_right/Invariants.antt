-- `own_right` meets its contract: every rule is passed by the edges before edge j (`RightLoop`). Assumes nothing.
use Rattle.book.proofs.Sound.{RightLoop}
use Rattle.book.proofs.Table.own_right.Given as goal

abbrev pub invariant-loop-j : goal.invariant-loop-j
invariant-loop-j l = RightLoop l.self.bytes.now l.self.states l.s l.first l.count l.j l.before l.entered
