use Rattle.image.proofs.Report.{next_less, write_start, record_small, write_turn, write_room, write_end}
use Rattle.image.proofs.Accepted.{facts_of}
use Rattle.image.proofs.over.Runner.report.Goals as goal

pub loop-link-init : goal.loop-link-init
loop-link-init c =
    write_start _ _ _ (facts_of c.args.self.image.accepted) _ _ _ _ _ c.requires.0 c.link-link.ensures.is

pub put_record-requires : goal.put_record-requires
put_record-requires c =
    let F = facts_of c.args.self.image.accepted in (
      write_room _ _ _ F _ _ _ _ _ _ _ c.loop-link.invariant c.loop-link-test.true c.requires.2,
      record_small _ _ _ F _ _ _ (c.args.self.linked _ c.loop-link.invariant.counting.below) c.requires.1,
    )

pub loop-link-smaller : goal.loop-link-smaller
loop-link-smaller c =
    let i = c.loop-link.invariant.counting in
    next_less _ _ _ (facts_of c.args.self.image.accepted) _ _ _ _ i c.loop-link-test.true
    (c.args.self.linked _ i.below)

pub loop-link-preserved : goal.loop-link-preserved
loop-link-preserved c =
    let i = c.loop-link.invariant in
    write_turn _ _ _ (facts_of c.args.self.image.accepted) _ _ _ _ _ _ _ _ _ i c.loop-link-test.true
    (c.args.self.linked _ i.counting.below) c.requires.1 c.put_record.auto.out c.put_record.ensures

pub returns : goal.returns
returns c =
    write_end _ _ _ (facts_of c.args.self.image.accepted) _ _ _ _ _ _ _ c.loop-link.invariant
    c.loop-link-test.false
