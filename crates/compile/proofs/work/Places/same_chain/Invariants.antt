-- `same_chain` meets its contract: what is left to compare decides; the first of the two places goes down at each turn.
-- Assumes nothing.
use Rattle.compile.specs.Held.{rows_of}
use Rattle.compile.proofs.Same.{Comparing}
use Rattle.compile.proofs.work.Places.same_chain.Given as goal

abbrev pub invariant-loop-a : goal.invariant-loop-a
invariant-loop-a l =
    Comparing (rows_of l.self) l.p l.fn.chain.head l.fn.chain.level l.fn.chain.fallback l.a l.b

abbrev pub decreases-loop-a : goal.decreases-loop-a
decreases-loop-a l = l.a
