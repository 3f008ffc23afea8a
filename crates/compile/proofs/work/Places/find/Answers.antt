use native.Mathlib.Omega.{arith}
use Rattle.compile.proofs.Rows.{earlier_in}
use Rattle.compile.proofs.Seek.{seek_from, seek_on, seek_found, seek_none}
use Rattle.compile.proofs.work.Places.find.Goals as goal

pub loop-p-init : goal.loop-p-init
loop-p-init c = seek_from c.args.self.now.fit c.from-p.ensures c.requires.0

pub same_chain-requires : goal.same_chain-requires
same_chain-requires c =
    let few = c.args.self.now.fit.held.few in
    let at = (c.loop-p.invariant.at (omega arith)).0 in
    (omega arith, omega arith, omega arith)

pub returns-then-same_chain : goal.returns-then-same_chain
returns-then-same_chain c =
    seek_found c.args.self.now.fit c.loop-p-test.true c.loop-p.invariant c.same_chain.ensures c.if-same_chain.true

pub loop-p-preserved : goal.loop-p-preserved
loop-p-preserved c =
    seek_on c.args.self.now.fit (earlier_in c.args.self.now.rows c.loop-p.p c.from-p-in-loop-p.ensures) c.loop-p-test.true c.loop-p.invariant
    c.same_chain.ensures c.if-same_chain.false

pub returns : goal.returns
returns c = seek_none c.args.self.now.fit c.loop-p-test.false c.loop-p.invariant
