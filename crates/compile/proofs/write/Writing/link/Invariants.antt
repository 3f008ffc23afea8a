-- `link` meets its contract: the link is that of the place reached. Assumes nothing.
use Prim.Native.Nat.{◌<◌}
use Rattle.compile.specs.Writing.{book_of, rows_in}
use Rattle.compile.proofs.Records.{Linking}
use Rattle.compile.proofs.write.Writing.link.Given as goal

abbrev pub invariant-loop-g : goal.invariant-loop-g
invariant-loop-g l = (l.g < 1024) × Linking (book_of l.self) (rows_in l.self) l.p l.g

abbrev pub decreases-loop-g : goal.decreases-loop-g
decreases-loop-g l = l.g
