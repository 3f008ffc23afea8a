-- `start_row` meets its contract: the edges of place 0 are entered one after the other (`Rowing`). Assumes nothing.
use Rattle.compile.specs.Writing.{count_of}
use Rattle.compile.proofs.Reading.{Rowing, starting}
use Rattle.compile.proofs.write.Writing.start_row.Given as goal

abbrev pub invariant-loop-i : goal.invariant-loop-i
invariant-loop-i l =
    let t = l.self.source.now.table in Rowing t.bytes.now t.states l.from (starting l.out (count_of l.self)) l.i l.row
