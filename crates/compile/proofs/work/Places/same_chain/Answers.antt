use Rattle.compile.proofs.Same.{head_differs, level_differs, comparing_start, first-longer}
use Rattle.compile.proofs.Same.{heads_differ, levels_differ, comparing_next, comparing_end}
use Rattle.compile.proofs.work.Places.same_chain.Goals as goal

pub returns-then-head-chain : goal.returns-then-head-chain
returns-then-head-chain c =
    head_differs _ c.args.self.now.fit.held.fallbacks_down _ _ _ _ c.requires.0 c.head.ensures.0 c.if-head-chain.true

pub returns-then-level-chain : goal.returns-then-level-chain
returns-then-level-chain c =
    level_differs _ c.args.self.now.fit.held.fallbacks_down _ _ _ _ c.requires.0 c.level.ensures.0 c.if-level-chain.true

pub loop-a-init : goal.loop-a-init
loop-a-init c =
    comparing_start _ c.args.self.now.fit.held.fallbacks_down _ _ _ _ c.requires.0 c.head.ensures.0
    c.if-head-chain.false c.level.ensures.0 c.if-level-chain.false c.fallback-a.ensures.0 c.requires.1 c.requires.2

pub returns-then-b-eq0 : goal.returns-then-b-eq0
returns-then-b-eq0 c =
    first-longer _ c.args.self.now.fit.held.fallbacks_down c.loop-a.invariant c.loop-a-test.true c.if-b-eq0.true

pub returns-then-head : goal.returns-then-head
returns-then-head c =
    heads_differ _ c.args.self.now.fit.held.fallbacks_down c.loop-a.invariant c.loop-a-test.true c.if-b-eq0.false
    c.head-in-loop-a.ensures.0 c.head-in-loop-a-2.ensures.0 c.if-head.true

pub returns-then-level : goal.returns-then-level
returns-then-level c =
    levels_differ _ c.args.self.now.fit.held.fallbacks_down c.loop-a.invariant c.loop-a-test.true c.if-b-eq0.false
    c.level-in-loop-a.ensures.0 c.level-in-loop-a-2.ensures.0 c.if-level.true

pub loop-a-preserved : goal.loop-a-preserved
loop-a-preserved c =
    comparing_next _ c.args.self.now.fit.held.fallbacks_down c.loop-a.invariant c.loop-a-test.true c.if-b-eq0.false
    c.head-in-loop-a.ensures.0 c.head-in-loop-a-2.ensures.0 c.if-head.false
    c.level-in-loop-a.ensures.0 c.level-in-loop-a-2.ensures.0 c.if-level.false
    c.fallback-a-in-loop-a.ensures.0 c.fallback-b.ensures.0

pub returns : goal.returns
returns c = comparing_end _ c.args.self.now.fit.held.fallbacks_down c.loop-a.invariant c.loop-a-test.false
