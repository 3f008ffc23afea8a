use native.Mathlib.Omega.{arith}
use Rattle.compile.proofs.Reading.{rest_none, walking_start, walking_end, walking_on, walking_found, own_few}
use Rattle.compile.proofs.write.Writing.rest.Goals as goal

pub returns-then-p-eq0 : goal.returns-then-p-eq0
returns-then-p-eq0 c = rest_none c.args.self.now.numbered c.args.event c.if-p-eq0.true

pub loop-g-init : goal.loop-g-init
loop-g-init c = walking_start c.args.self.now.numbered c.args.event c.if-p-eq0.false c.fallback-g.ensures.0

pub written_target-requires : goal.written_target-requires
written_target-requires c =
    let few = c.args.self.now.numbered.held.few in
    let below = c.requires.0.below in
    let low = c.loop-g.invariant.low in
    (omega arith, own_few c.args.self.now.numbered (omega arith) c.head.ensures.0 c.in-Some.ensures)

pub returns-in-Some : goal.returns-in-Some
returns-in-Some c =
    walking_found c.args.self.now.numbered c.loop-g.invariant c.head.ensures.0 c.requires.0.known c.requires.0.below
    c.in-Some.ensures c.written_target.ensures.is

pub loop-g-preserved : goal.loop-g-preserved
loop-g-preserved c =
    walking_on c.args.self.now.numbered c.loop-g.invariant c.head.ensures.0 c.loop-g-test.true
    c.fallback-g-in-loop-g.ensures.0 c.in_default.ensures

pub returns : goal.returns
returns c =
    walking_end c.args.self.now.numbered c.loop-g.invariant c.loop-g-test.false c.requires.0.starts c.requires.1
    c.from.ensures
