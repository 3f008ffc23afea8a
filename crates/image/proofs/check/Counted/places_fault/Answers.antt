use Rattle.image.proofs.Scan.{places_fault-step, places_fault_end}
use borrow.Author.Tests.{eq-eqb, ne_eqb}
use native.Mathlib.Omega.{arith}
use mathlib.Core.Path.{◌≡◌}
use Rattle.image.proofs.check.Counted.places_fault.Goals as goal

pub returns-then-not-place_right : goal.returns-then-not-place_right
returns-then-not-place_right c =
    record {
      is = rw (
        c.loop-p.invariant.1,
        places_fault-step _ _ _ _ _ c.loop-p-test.true,
        ← c.place_right.ensures,
        c.if-not-place_right.true,
      );
      within = omega arith;
    }

pub loop-p-preserved : goal.loop-p-preserved
loop-p-preserved c =
    let few = c.count-sum.ensures.small in (
      omega arith,
      rw (
        c.loop-p.invariant.1,
        places_fault-step _ _ _ _ _ c.loop-p-test.true,
        ← c.place_right.ensures,
        c.if-not-place_right.false,
        ← c.count-sum.ensures.is,
      ),
    )

pub returns-then-sum-self : goal.returns-then-sum-self
returns-then-sum-self c =
    let e = c.loop-p.invariant.1 in
    record { is = rw (e, places_fault_end _ _ _ _ _ c.loop-p-test.false, eq-eqb _ _ c.if-sum-self.true); within = tt }

pub returns-else-sum-self : goal.returns-else-sum-self
returns-else-sum-self c =
    let e = c.loop-p.invariant.1 in
    let last : c.loop-p.p ≡ c.args.self.places = omega arith in
    record {
      is = rw (e, places_fault_end _ _ _ _ _ c.loop-p-test.false, ne_eqb _ _ c.if-sum-self.false, last);
      within = omega arith;
    }
