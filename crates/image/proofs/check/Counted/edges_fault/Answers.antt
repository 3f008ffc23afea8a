use Rattle.image.proofs.Scan.{places_room, edges_fault-step, edges_fault_end}
use Rattle.image.specs.Form.{form1, place_at}
use native.Mathlib.Omega.{arith}
use mathlib.Core.Path.{sym, ◌∙◌}
use Rattle.image.proofs.check.Counted.edges_fault.Goals as goal

pub events_fault-requires : goal.events_fault-requires
events_fault-requires c =
    let room = (places_room (place_at form1 c.args.self.bytes.now) _ _ _ _ c.loop-p-test.true c.loop-p.invariant.0).1 in
    (omega arith, c.level-level.ensures.small)

pub returns-in-Some : goal.returns-in-Some
returns-in-Some c =
    let room = (places_room (place_at form1 c.args.self.bytes.now) _ _ _ _ c.loop-p-test.true c.loop-p.invariant.0).1 in
    let within = c.in-Some.ensures.within in
    record {
      is = rw (
        c.loop-p.invariant.1,
        edges_fault-step _ _ _ _ _ _ c.loop-p-test.true,
        ← c.count-count.ensures.is,
        ← c.level-level.ensures.is,
        ← c.in-Some.ensures.is,
      );
      within = omega arith;
    }

pub overflow_add-first : goal.overflow_add-first
overflow_add-first c =
    let room = (places_room (place_at form1 c.args.self.bytes.now) _ _ _ _ c.loop-p-test.true c.loop-p.invariant.0).1 in
    omega arith

pub loop-p-preserved : goal.loop-p-preserved
loop-p-preserved c =
    let room = places_room (place_at form1 c.args.self.bytes.now) _ _ _ _ c.loop-p-test.true c.loop-p.invariant.0 in (
      rw c.count-count.ensures.is room.0,
      rw (
        c.loop-p.invariant.1,
        edges_fault-step _ _ _ _ _ _ c.loop-p-test.true,
        ← c.count-count.ensures.is,
        ← c.level-level.ensures.is,
        ← c.in_default.ensures.is,
      ),
    )

pub returns : goal.returns
returns c = record { is = sym (c.loop-p.invariant.1 ∙ edges_fault_end _ _ _ _ _ _ c.loop-p-test.false); within = tt }
