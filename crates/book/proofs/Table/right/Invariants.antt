-- `right` meets its contract: every rule of edges is passed by the states before state s (`SoundLoop`), then every rule
-- of states by all states. Assumes nothing.
use Rattle.book.proofs.Sound.{SoundLoop}
use Rattle.book.proofs.Table.right.Given as goal

abbrev pub invariant-loop-s : goal.invariant-loop-s
invariant-loop-s l = SoundLoop l.self.bytes.now l.self.states l.edges l.s l.first l.entered
