-- `count_sum` meets its contract: the sum is that of the states below s. Assumes nothing.
use Prim.Native.Nat.{◌*◌, ◌≤◌}
use mathlib.Core.Path.{◌≡◌}
use Rattle.book.specs.Model.{first_edge}
use Rattle.book.proofs.Table.count_sum.Given as goal

abbrev pub invariant-loop-s : goal.invariant-loop-s
invariant-loop-s l = (l.sum ≤ 65536 * l.s) × (l.sum ≡ first_edge l.self.bytes.now l.s)
