use Rattle.image.proofs.Report.{count_start, next_less, count_turn, count_end, few_reports}
use Rattle.image.proofs.Accepted.{facts_of}
use native.Mathlib.Omega.{arith}
use Rattle.image.proofs.over.Runner.count.Goals as goal

pub loop-link-init : goal.loop-link-init
loop-link-init c =
    count_start _ _ _ (facts_of c.args.self.image.accepted) _ _ c.requires c.link-link.ensures.is

pub overflow_add-n : goal.overflow_add-n
overflow_add-n c =
    let h = c.loop-link.invariant.left in
    let z = few_reports _ _ _ (facts_of c.args.self.image.accepted) _ c.requires in
    omega arith

pub loop-link-smaller : goal.loop-link-smaller
loop-link-smaller c =
    let i = c.loop-link.invariant in
    next_less _ _ _ (facts_of c.args.self.image.accepted) _ _ _ _ i c.loop-link-test.true
    (c.args.self.linked _ i.below)

pub loop-link-preserved : goal.loop-link-preserved
loop-link-preserved c =
    let i = c.loop-link.invariant in
    count_turn _ _ _ (facts_of c.args.self.image.accepted) _ _ _ _ i c.loop-link-test.true
    (c.args.self.linked _ i.below)

pub returns : goal.returns
returns c =
    count_end _ _ _ (facts_of c.args.self.image.accepted) _ _ _ c.loop-link.invariant c.loop-link-test.false
