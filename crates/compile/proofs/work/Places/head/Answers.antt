-- `head` meets its contract. Assumes nothing.
use native.Mathlib.Omega.{arith}
use Rattle.compile.proofs.Rows.{head_in}
use Rattle.compile.proofs.work.Places.head.Goals as goal

pub returns : goal.returns
returns c =
    let e = head_in c.args.self.now.rows c.args.p c.from.ensures in
    let small = c.args.self.now.fit.held.small c.args.p in
    (e, omega arith)
