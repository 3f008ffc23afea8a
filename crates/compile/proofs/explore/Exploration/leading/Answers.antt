use Rattle.compile.proofs.Leading.{descending_start, descending_end, descending_next, descending_found}
use Rattle.compile.proofs.explore.Exploration.leading.Goals as goal

pub loop-f-init : goal.loop-f-init
loop-f-init c = descending_start c.args.self.now.source.now.ready c.args.self.now.places.fit.held _ c.requires

pub returns-in-Some : goal.returns-in-Some
returns-in-Some c =
    descending_found c.args.self.now.source.now.ready c.args.self.now.places.fit.held c.loop-f.invariant c.loop-f-test.true
    c.fallback-f.ensures.0 c.head.ensures.0 c.in-Some.ensures

pub loop-f-preserved : goal.loop-f-preserved
loop-f-preserved c =
    descending_next c.args.self.now.source.now.ready c.args.self.now.places.fit.held c.loop-f.invariant c.loop-f-test.true
    c.fallback-f.ensures.0 c.head.ensures.0 c.in_default.ensures

pub returns : goal.returns
returns c = descending_end c.args.self.now.source.now.ready c.args.self.now.places.fit.held c.loop-f.invariant c.loop-f-test.false
