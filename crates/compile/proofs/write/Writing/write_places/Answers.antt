use mathlib.Core.Path.{◌≡◌}
use native.Mathlib.Omega.{arith}
use Rattle.compile.proofs.Records.{placing_start, placing_next, placing_few}
use Rattle.compile.proofs.write.Writing.write_places.Goals as goal

pub loop-p-init : goal.loop-p-init
loop-p-init c = placing_start _ _ _ _

pub overflow_add-first : goal.overflow_add-first
overflow_add-first c =
    let few = c.count-count.ensures.small in
    let sum = placing_few c.args.self.now.numbered c.loop-p.invariant (rw c.count-p-end.ensures at c.loop-p.auto.p-end) in
    omega arith

pub loop-p-preserved : goal.loop-p-preserved
loop-p-preserved c =
    placing_next c.args.self.now.numbered c.loop-p.invariant (rw c.count-p-end.ensures at c.loop-p-test.true)
    c.head-head.ensures.0 c.count-count.ensures.is c.fallback.ensures.0 c.level.ensures.0 c.link.ensures
    c.mark.ensures.is c.write.ensures

pub returns : goal.returns
returns c =
    let low = c.loop-p-test.false in
    let high = c.loop-p.auto.p-end in
    let end : c.loop-p.p ≡ c.args.self.now.places.now.count = omega (arith, c.count-p-end.ensures) in
    rw end at c.loop-p.invariant.so_far
