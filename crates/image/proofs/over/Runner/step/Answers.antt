use Rattle.image.proofs.Move.{found_below, found_or, move_fail, move_edge, move_root}
use Rattle.image.proofs.Accepted.{facts_of}
use Rattle.image.proofs.over.Runner.step.Goals as goal

pub target-requires : goal.target-requires
target-requires c =
    let F = facts_of c.args.self.image.accepted in
    let b = c.loop-p.invariant.below in
    found_below _ _ _ F _ _ _ b ((found_or _ _ _ F _ _ _ _ b c.find.ensures c.unwrap_or-j.ensures).0 c.if-j-ne-NONE.true)

pub returns-then-j-ne-NONE : goal.returns-then-j-ne-NONE
returns-then-j-ne-NONE c =
    let F = facts_of c.args.self.image.accepted in
    let s = found_or _ _ _ F _ _ _ _ c.loop-p.invariant.below c.find.ensures c.unwrap_or-j.ensures in
    move_edge _ _ _ F _ _ _ _ _ _ c.loop-p.invariant (s.0 c.if-j-ne-NONE.true) c.target.ensures.is

pub loop-p-smaller : goal.loop-p-smaller
loop-p-smaller c =
    let F = facts_of c.args.self.image.accepted in
    let s = found_or _ _ _ F _ _ _ _ c.loop-p.invariant.below c.find.ensures c.unwrap_or-j.ensures in
    (move_fail _ _ _ F _ _ _ _ _ c.loop-p.invariant c.loop-p-test.true (s.1 c.if-j-ne-NONE.false)
    c.fallback-p.ensures.is).0

pub loop-p-preserved : goal.loop-p-preserved
loop-p-preserved c =
    let F = facts_of c.args.self.image.accepted in
    let s = found_or _ _ _ F _ _ _ _ c.loop-p.invariant.below c.find.ensures c.unwrap_or-j.ensures in
    (move_fail _ _ _ F _ _ _ _ _ c.loop-p.invariant c.loop-p-test.true (s.1 c.if-j-ne-NONE.false)
    c.fallback-p.ensures.is).1

pub returns : goal.returns
returns c =
    move_root _ _ _ (facts_of c.args.self.image.accepted) _ _ _ _ _ _ c.loop-p.invariant c.loop-p-test.false
    c.requires.1 c.args.self.rooted c.from.ensures
