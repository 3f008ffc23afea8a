-- `leading` meets its contract: from the places passed the event leads nowhere; each fallback is lower. Assumes nothing.
use Rattle.meaning.specs.Book.{delta}
use Rattle.compile.specs.Exploring.{book_of, rows_in}
use Rattle.compile.proofs.Leading.{Descending}
use Rattle.compile.proofs.explore.Exploration.leading.Given as goal

abbrev pub invariant-loop-f : goal.invariant-loop-f
invariant-loop-f l = Descending (delta (book_of l.self)) (rows_in l.self) l.p l.event l.f

abbrev pub decreases-loop-f : goal.decreases-loop-f
decreases-loop-f l = l.f
