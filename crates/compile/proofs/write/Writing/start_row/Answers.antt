use mathlib.Core.Path.{refl}
use native.Mathlib.Omega.{arith}
use Rattle.compile.proofs.Reading.{rowing_start, rowing_next, rowing_end, edges_rise}
use Rattle.compile.proofs.write.Writing.start_row.Goals as goal

pub loop-i-init : goal.loop-i-init
loop-i-init c = rowing_start _ _ _ _ _ refl

pub loop-i-preserved : goal.loop-i-preserved
loop-i-preserved c =
    let ready = c.args.self.now.source.now.ready in
    rowing_next c.loop-i.invariant
    (edges_rise ready {h = 0} (omega arith) c.count-i-end.ensures.is c.first_edge-from.ensures.0)
    c.loop-i-test.true c.event-event.ensures.is c.event-event.ensures.small c.written_target.ensures.is refl

pub returns : goal.returns
returns c =
    let ready = c.args.self.now.source.now.ready in
    rowing_end ready c.args.self.now.numbered c.count-i-end.ensures.is c.first_edge-from.ensures.0
    c.requires c.loop-i.invariant c.loop-i-test.false c.loop-i.auto.i-end
