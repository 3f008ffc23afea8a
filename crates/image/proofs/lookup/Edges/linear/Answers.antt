use Rattle.image.proofs.Seek.{seek_hit, seek_miss, seek_end}
use native.Mathlib.Omega.{arith}
use mathlib.Core.Path.{sym}
use Rattle.image.proofs.lookup.Edges.linear.Goals as goal

pub returns-then-edge_event-event : goal.returns-then-edge_event-event
returns-then-edge_event-event g c =
    rw c.loop-j.invariant (sym (seek_hit _ _ _ _ _ (omega arith) c.edge_event.ensures.is c.if-edge_event-event.true))

pub loop-j-preserved : goal.loop-j-preserved
loop-j-preserved g c =
    rw c.loop-j.invariant (seek_miss _ _ _ _ _ _ (omega arith) c.edge_event.ensures.is c.if-edge_event-event.false)

pub returns : goal.returns
returns g c = rw c.loop-j.invariant (sym (seek_end _ _ _ _ (omega arith)))
