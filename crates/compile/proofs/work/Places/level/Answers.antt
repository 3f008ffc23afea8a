-- `level` meets its contract. Assumes nothing.
use native.Mathlib.Omega.{arith}
use Rattle.compile.proofs.Rows.{level_in}
use Rattle.compile.proofs.work.Places.level.Goals as goal

pub returns : goal.returns
returns c =
    let e = level_in c.args.self.now.rows c.args.p c.from.ensures in
    let low = c.args.self.now.fit.held.low c.args.p in
    (e, omega arith)
