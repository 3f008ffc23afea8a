-- `neither` meets its contract: the edges passed have neither event. Assumes nothing.
use Rattle.compile.proofs.Leading.{Without}
use Rattle.compile.proofs.explore.neither.Given as goal

abbrev pub invariant-loop-j : goal.invariant-loop-j
invariant-loop-j l = Without l.source.table.bytes.now l.source.table.states l.from l.j l.a l.b
