-- `edge_of` meets its contract (`Narrowed`). Assumes nothing.
use Prim.Native.Nat.{◌+◌}
use Rattle.book.proofs.Look.{Narrowed}
use Rattle.compile.proofs.write.edge_of.Given as goal

abbrev pub invariant-loop-left : goal.invariant-loop-left
invariant-loop-left l =
    Narrowed l.source.table.bytes.now l.source.table.states l.event l.from l.initial.left (l.from + l.low) l.left

abbrev pub decreases-loop-left : goal.decreases-loop-left
decreases-loop-left l = l.left
