use native.Mathlib.Omega.{arith}
use Rattle.book.proofs.Model.{listed_start, listed_next, listed_all}
use Rattle.book.proofs.Table.firsts.Goals as goal

pub loop-q-init : goal.loop-q-init
loop-q-init c = (listed_start _, omega arith)

pub loop-q-preserved : goal.loop-q-preserved
loop-q-preserved c =
    (listed_next _ _ _ _ _ c.loop-q.invariant.0 c.loop-q-test.true c.count_of-sum.ensures.is, omega arith)

pub returns : goal.returns
returns c = listed_all _ _ _ _ c.loop-q.invariant.0 c.loop-q-test.false
