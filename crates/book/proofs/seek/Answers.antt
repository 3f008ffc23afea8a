use Rattle.book.proofs.Look.{seek_here, seek-next, seek_end}
use Rattle.book.proofs.seek.Goals as goal

pub returns-then-e-event : goal.returns-then-e-event
returns-then-e-event g c =
    λ t S h. seek_here (c.loop-j.invariant t S h) c.loop-j-test.true (h _ _ c.edge-e.ensures) c.if-e-event.true

pub loop-j-preserved : goal.loop-j-preserved
loop-j-preserved g c =
    λ t S h. seek-next (c.loop-j.invariant t S h) c.loop-j-test.true (h _ _ c.edge-e.ensures) c.if-e-event.false

pub returns : goal.returns
returns g c = λ t S h. seek_end (c.loop-j.invariant t S h) c.loop-j-test.false
