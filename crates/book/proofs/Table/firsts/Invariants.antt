-- `firsts` meets its contract: the first edges of the states below q are listed (`Listed`). Assumes nothing.
use Prim.Native.Nat.{◌*◌, ◌≤◌}
use Rattle.book.specs.Model.{table_book}
use Rattle.book.proofs.Model.{Listed}
use Rattle.book.proofs.Table.firsts.Given as goal

abbrev pub invariant-loop-q : goal.invariant-loop-q
invariant-loop-q l = Listed (table_book l.self.bytes.now l.self.states) l.q l.sum l.r × (l.sum ≤ 65536 * l.q)
