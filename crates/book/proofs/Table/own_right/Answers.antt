use native.Mathlib.Omega.{arith}
use Rattle.meaning.specs.declared.Reason.TheVariants.{Target}
use Rattle.book.proofs.Sound.{right_next, right_end, target_inside}
use Rattle.book.proofs.Table.own_right.Goals as goal

pub bounds-entered-e : goal.bounds-entered-e
bounds-entered-e c =
    let right = c.edge_right.ensures c.if-not-edge_right.false in
    omega (arith, target_inside c.args.self.states c.args.s c.held_edge-e.result (right Target))

pub loop-j-preserved : goal.loop-j-preserved
loop-j-preserved c =
    right_next c.loop-j.invariant c.loop-j-test.true c.loop-j.auto.j c.held_edge-e.ensures.is
    (c.edge_right.ensures c.if-not-edge_right.false)

pub returns : goal.returns
returns c = λ e. right_end c.loop-j.invariant (omega arith)
