-- `image::run` meets its contract. Each answer is a case of `Runs`.
-- Assumes nothing.
use Rattle.image.proofs.Runs.{ran_refused, ran_20, ran_21, ran_done}
use Rattle.image.proofs.Judged.{held, told_err}
use native.Mathlib.Omega.{arith}
use Rattle.image.proofs.run.Goals as goal

pub returns-then-counts-place : goal.returns-then-counts-place
returns-then-counts-place c =
    rw c.into.ensures (ran_20 c.args.image.now c.args.place c.args.base c.args.log.now c.args.out.now _ _
    c.in_ok-counts.ensures c.if-counts-place.true)

pub returns-then-start-log : goal.returns-then-start-log
returns-then-start-log c =
    rw c.into-then-start-log.ensures (ran_21 c.args.image.now c.args.place c.args.base c.args.log.now c.args.out.now _ _
    c.in_ok-counts.ensures c.if-counts-place.false (omega arith))

pub run-requires : goal.run-requires
run-requires c = (omega arith, omega arith)

pub invariant_of-image-clause-accepted : goal.invariant_of-image-clause-accepted
invariant_of-image-clause-accepted c = held _ _ _ c.in_ok-counts.ensures

pub returns-in_err-counts : goal.returns-in_err-counts
returns-in_err-counts c =
    let r =
    ran_refused c.args.image.now c.args.place c.args.base c.args.log.now c.args.out.now _ _ c.in_err-counts.ensures in
    (told_err _ _ _ _ c.from_residual.ensures.1 r.0, r.1)

pub returns : goal.returns
returns c =
    let r = c.run.ensures in
    ran_done c.args.image.now c.args.place c.args.base c.args.log.now c.args.out.now _ _ c.in_ok-counts.ensures
    c.if-counts-place.false (omega arith) _ _ r.0 r.1

pub invariant_of-image-clause-small : goal.invariant_of-image-clause-small
invariant_of-image-clause-small c = λ i. (c.type_inv.image i).fits
