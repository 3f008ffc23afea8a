-- `edge_at` meets its contract: a record past the end of any memory is zeros. Assumes nothing.
use native.Mathlib.Omega.{arith}
use Rattle.book.proofs.Read.{edge_read, edge-past}
use Rattle.book.proofs.Table.edge_at.Goals as goal

pub returns-in_default : goal.returns-in_default
returns-in_default c =
    edge-past _ c.args.self.states c.args.j c.default.ensures (omega (arith, c.in_default.ensures))

pub returns : goal.returns
returns c =
    let e = c.in-Some.ensures in
    edge_read _ c.args.self.states c.args.j _ (omega (arith, e.0, e.1)) c.byte_at.ensures c.byte_at-2.ensures c.le16.ensures
