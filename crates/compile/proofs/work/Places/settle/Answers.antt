-- `settle` meets its contract. Assumes nothing.
use mathlib.Core.Path.{refl}
use Rattle.compile.proofs.Seek.{settled_in, settled_new}
use Rattle.compile.proofs.work.Places.settle.Goals as goal

pub returns-then-seen-chain : goal.returns-then-seen-chain
returns-then-seen-chain c = settled_in c.args.self.now.fit c.requires.0 c.if-seen-chain.true

pub returns : goal.returns
returns c =
    rw c.unwrap_or.ensures (settled_new c.args.self.now.fit _ c.requires.0 c.if-seen-chain.false refl c.find.ensures)
