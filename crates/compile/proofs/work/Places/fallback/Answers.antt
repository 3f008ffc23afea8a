-- `fallback` meets its contract. Assumes nothing.
use Rattle.compile.proofs.Rows.{fallback_in, not_above}
use Rattle.compile.proofs.work.Places.fallback.Goals as goal

pub returns : goal.returns
returns c =
    let e = fallback_in c.args.self.now.rows c.args.p c.from.ensures in
    let low = not_above c.args.self.now.fit.held c.args.p e in
    (e, low.0, low.1)
