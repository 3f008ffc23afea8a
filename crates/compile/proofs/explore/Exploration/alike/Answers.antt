use Rattle.compile.proofs.Alike.{walking_start, walking_next, walking_end}
use Rattle.compile.proofs.explore.Exploration.alike.Goals as goal

pub loop-f-init : goal.loop-f-init
loop-f-init c = walking_start c.args.self.now.places.fit.held _ _ _ c.requires

pub loop-f-preserved : goal.loop-f-preserved
loop-f-preserved c =
    walking_next c.args.self.now.places.fit.held c.loop-f.invariant c.loop-f-test.true c.fallback-next.ensures.0
    c.head-head.ensures.0 (c.leads_alike.ensures c.if-not-leads_alike.false)

pub returns : goal.returns
returns c = λ e. walking_end c.args.self.now.places.fit.held c.loop-f.invariant c.loop-f-test.false
