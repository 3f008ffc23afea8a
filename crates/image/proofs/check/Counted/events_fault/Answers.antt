use Rattle.image.proofs.Scan.{events_fault-step, events_fault_end}
use native.Mathlib.Omega.{arith}
use mathlib.Core.Path.{sym, ◌∙◌}
use Rattle.image.proofs.check.Counted.events_fault.Goals as goal

pub returns-then-not-edge_right : goal.returns-then-not-edge_right
returns-then-not-edge_right c =
    record {
      is = rw (
        c.loop-j.invariant.1,
        events_fault-step _ _ _ _ _ _ _ c.loop-j-test.true,
        ← c.edge_right.ensures,
        c.if-not-edge_right.true,
      );
      within = omega arith;
    }

pub loop-j-preserved : goal.loop-j-preserved
loop-j-preserved c =
    let small = c.edge_event-floor.ensures.small in (
      omega arith,
      rw (
        c.loop-j.invariant.1,
        events_fault-step _ _ _ _ _ _ _ c.loop-j-test.true,
        ← c.edge_right.ensures,
        c.if-not-edge_right.false,
        ← c.edge_event-floor.ensures.is,
      ),
    )

pub returns : goal.returns
returns c =
    record { is = sym (c.loop-j.invariant.1 ∙ events_fault_end _ _ _ _ _ _ _ c.loop-j-test.false); within = tt }
