-- The loop has written what is kept of the records before i. Assumes nothing.
use lib.ListN.{take}
use Rattle.lists.specs.Whole.{joined}
use Rattle.lists.specs.Short.{short}
use Rattle.lists.specs.Writes.{Writes}
use Rattle.lists.proofs.write_kept.Given as goal

abbrev pub invariant-loop-i : goal.invariant-loop-i
invariant-loop-i l = Writes l.initial.text (joined (short (take l.i l.records))) l.text
