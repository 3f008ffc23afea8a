use Rattle.compile.proofs.Leading.{without_start, without_next, without_end}
use Rattle.compile.proofs.explore.neither.Goals as goal

pub loop-j-init : goal.loop-j-init
loop-j-init c = without_start _ _ _ _ _

pub loop-j-preserved : goal.loop-j-preserved
loop-j-preserved c = without_next c.loop-j.invariant c.event-event.ensures.is c.if-event-a.false c.if-event-b.false

pub returns : goal.returns
returns c = λ e. without_end c.loop-j.invariant _ c.loop-j-test.false
