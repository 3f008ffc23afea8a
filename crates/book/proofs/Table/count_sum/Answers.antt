use mathlib.Core.Path.{sym}
use native.Mathlib.Omega.{arith}
use Rattle.book.proofs.Turn.{first_edge-zero, count_turn}
use Rattle.book.proofs.Table.count_sum.Goals as goal

pub loop-s-init : goal.loop-s-init
loop-s-init c = (omega arith, sym (first_edge-zero _))

pub loop-s-preserved : goal.loop-s-preserved
loop-s-preserved c =
    (omega arith, count_turn _ _ c.loop-s.invariant.1 c.state_at-sum.ensures.is)
