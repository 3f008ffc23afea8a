-- `explore` meets its contract: the places from p on are still to be opened. Assumes nothing.
use Prim.Native.Nat.{◌-◌}
use mathlib.Core.Path.{◌≡◌}
use Rattle.compile.specs.Exploring.{book_of, rows_in, count_of}
use Rattle.compile.proofs.Opening.{Exploring}
use Rattle.compile.proofs.explore.Exploration.explore.Given as goal

abbrev pub invariant-loop-p : goal.invariant-loop-p
invariant-loop-p l =
    Exploring (book_of l.initial.self) l.p l.edges (rows_in l.self) (count_of l.self)
    × (l.self.source ≡ l.initial.self.source)

abbrev pub decreases-loop-p : goal.decreases-loop-p
decreases-loop-p l = 1024 - l.p
