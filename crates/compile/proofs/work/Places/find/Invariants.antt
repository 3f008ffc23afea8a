-- `find` meets its contract: the places of the head are passed, newest first; each has an earlier one that is lower.
-- Assumes nothing.
use Rattle.compile.specs.Explore.{whole}
use Rattle.compile.specs.Held.{rows_of}
use Rattle.compile.proofs.Seek.{Seek}
use Rattle.compile.proofs.work.Places.find.Given as goal

abbrev pub invariant-loop-p : goal.invariant-loop-p
invariant-loop-p l =
    Seek whole (rows_of l.self) l.self.count l.chain.head l.chain.level l.chain.fallback l.p

abbrev pub decreases-loop-p : goal.decreases-loop-p
decreases-loop-p l = l.p
