use native.Mathlib.Omega.{arith}
use Rattle.compile.proofs.Records.{link_end, link_here, link_on}
use Rattle.compile.proofs.write.Writing.link.Goals as goal

pub returns-then-mark-ne0 : goal.returns-then-mark-ne0
returns-then-mark-ne0 c =
    link_here c.args.self.now.numbered.held.fallbacks_down c.loop-g.invariant.1 c.loop-g-test.true c.head.ensures.0
    c.mark.ensures.is (omega arith)

pub loop-g-preserved : goal.loop-g-preserved
loop-g-preserved c =
    let low = c.fallback-g.ensures.1 in (
      omega arith,
      link_on c.args.self.now.numbered.held.fallbacks_down c.loop-g.invariant.1 c.loop-g-test.true c.head.ensures.0
          c.mark.ensures.is (omega arith) c.fallback-g.ensures.0,
    )

pub returns : goal.returns
returns c = link_end c.args.self.now.numbered.held.fallbacks_down c.loop-g.invariant.1 c.loop-g-test.false
