use Rattle.image.proofs.Seek.{seek_hit, seek_miss, seek_end, turn_either}
use Rattle.image.specs.Form.{form1, edge_at}
use native.Mathlib.Omega.{arith}
use mathlib.Core.Path.{refl, sym, ◌∙◌}
use Prim.Native.Nat.{◌+◌, ◌/◌}
use Rattle.image.proofs.lookup.Edges.halved.Goals as goal

pub loop-left-preserved : goal.loop-left-preserved
loop-left-preserved g c =
    let i = c.loop-left in
    let E = edge_at form1 (g.B.Bytes.list c.args.self.now.bytes) c.args.self.now.places in
    let r = turn_either E c.args.event (i.left / 2) i.left i.j (i.j + c.ahead-j.result) _ i.invariant.2
    (omega arith) (omega arith) c.edge_event.ensures.is (λ l. omega (arith, c.ahead-j.ensures.1 l))
    (λ l. omega (arith, c.ahead-j.ensures.2 l)) in
    let b = r.0 in
    (omega arith, omega arith, r.1, rw i.invariant.3 r.2)

pub returns-then-edge_event-event : goal.returns-then-edge_event-event
returns-then-edge_event-event g c =
    let i = c.loop-left.invariant in
    rw i.3 (sym (seek_hit _ _ _ _ _ i.1 c.edge_event-2.ensures.is c.if-edge_event-event.true))

pub returns-else-edge_event-event : goal.returns-else-edge_event-event
returns-else-edge_event-event g c =
    let i = c.loop-left.invariant in
    rw i.3
    (sym
    (seek_miss _ _ _ 0 _ _ (omega arith) c.edge_event-2.ensures.is c.if-edge_event-event.false ∙ seek_end _ _ _ _ refl))
