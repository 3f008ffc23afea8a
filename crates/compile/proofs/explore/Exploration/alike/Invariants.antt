-- `alike` meets its contract: what holds below the place f decides; each fallback is lower. Assumes nothing.
use Rattle.meaning.specs.Book.{delta}
use Rattle.compile.specs.Exploring.{book_of, rows_in}
use Rattle.compile.proofs.Alike.{Walking}
use Rattle.compile.proofs.explore.Exploration.alike.Given as goal

abbrev pub invariant-loop-f : goal.invariant-loop-f
invariant-loop-f l = Walking (delta (book_of l.self)) (rows_in l.self) l.p l.a l.b l.f

abbrev pub decreases-loop-f : goal.decreases-loop-f
decreases-loop-f l = l.f
