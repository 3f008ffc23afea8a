use Rattle.image.proofs.Turn.{carried_then, run-stays}
use native.Mathlib.Omega.{arith}
use Rattle.image.proofs.over.Runner.carry.Goals as goal

pub loop-g-preserved-then-idle : goal.loop-g-preserved-then-idle
loop-g-preserved-then-idle g c =
    let S = c.args.self in
    let i = c.loop-g.invariant in
    carried_then _ _ _ _ _ _ _ _ _ _ i
    (run-stays _ _ _ _ _ _ _ _ _ S.image.accepted S.rooted i.stands (omega arith) (omega arith)
    c.from-event.ensures (c.idle.ensures c.if-idle.true) c.loop-g-test.true)
