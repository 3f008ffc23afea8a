use native.Mathlib.Omega.{arith}
use Rattle.book.proofs.Look.{narrowed_start, narrowed_here, narrowed_end}
use Rattle.book.proofs.Look.{look_above, event_is, target_is}
use Rattle.book.proofs.halve.Goals as goal

pub returns-then-event-gt255 : goal.returns-then-event-gt255
returns-then-event-gt255 c =
    let a = c.args in
    look_above a.bytes.now a.states a.event a.count a.first (λ i. (c.type_inv.bytes i).fits) c.if-event-gt255.true

pub loop-left-init : goal.loop-left-init
loop-left-init c =
    let a = c.args in
    narrowed_start a.bytes.now a.states a.event a.first a.count _ _ _ c.requires.2
    (λ i. (c.type_inv.bytes i).fits) (omega arith) c.saturating_sub-low.ensures c.min.ensures
    c.saturating_sub-left.ensures

pub returns-then-e-event : goal.returns-then-e-event
returns-then-e-event c =
    let e = c.held_edge-e.ensures.is in
    narrowed_here c.loop-left.invariant c.loop-left-test.true c.requires.2 _ (event_is e) _
    c.if-e-event.true (target_is e)

pub returns : goal.returns
returns c = narrowed_end c.loop-left.invariant (omega arith)
