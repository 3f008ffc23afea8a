-- `next_part` meets its contract. Assumes nothing.
use mathlib.Core.Path.{refl, sym}
use Rattle.std.proofs.Common.{rules, ◌≡◌}
use native.Mathlib.Omega.{arith}
use lib.Seq.{length-take-le}
use Rattle.list.proofs.Parts.{answer_is, part_few, part_done, part_refused}
use Rattle.list.proofs.next_part.Goals as goal

pub overflow_mul-records : goal.overflow_mul-records
overflow_mul-records c =
    let start = c.args in
    let e = answer_is start.image.now start.place start.log.now start.at _ c.in-Ok.ensures.0 in
    omega (arith, part_few _ _ _ _ _ _ _ _ e)

pub slice_bounds-records-end : goal.slice_bounds-records-end
slice_bounds-records-end c =
    let start = c.args in
    let e = answer_is start.image.now start.place start.log.now start.at _ c.in-Ok.ensures.0 in
    omega (arith, part_few _ _ _ _ _ _ _ _ e, c.run.auto.out)

pub slice_bounds-put_lines-end : goal.slice_bounds-put_lines-end
slice_bounds-put_lines-end c =
    let start = c.args in
    let e = answer_is start.image.now start.place start.log.now start.at _ c.in-Ok.ensures.0 in
    sym (length-take-le _ _ (omega (arith, part_few _ _ _ _ _ _ _ _ e, c.run.auto.out)))

pub returns-in-Ok : goal.returns-in-Ok
returns-in-Ok c =
    let start = c.args in
    let e = answer_is start.image.now start.place start.log.now start.at _ c.in-Ok.ensures.0 in
    let lent = c.put_lines.ensures.lent in
    part_done _ _ _ _ _ _ _ _ _ _ _ _ _ e c.run.ensures.1 c.put_lines.ensures.wrote (search rules)

pub returns-in-Err : goal.returns-in-Err
returns-in-Err c =
    let start = c.args in
    let e = answer_is start.image.now start.place start.log.now start.at _ c.in-Err.ensures.0 in
    let d : c.default.result ≡ record { taken = 0; place = 0; steps = 0; length = 0 } = search rules in
    rw d (part_refused _ _ _ _ _ _ _ _ e refl)
