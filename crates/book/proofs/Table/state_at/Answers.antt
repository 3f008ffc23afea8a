-- `state_at` meets its contract: a record past the end of any memory is zeros. Assumes nothing.
use native.Mathlib.Omega.{arith}
use Rattle.book.proofs.Read.{state_read, state-past}
use Rattle.book.proofs.Table.state_at.Goals as goal

pub returns-in_default : goal.returns-in_default
returns-in_default c =
    state-past _ c.args.s c.default.ensures (omega (arith, c.in_default.ensures))

pub returns : goal.returns
returns c =
    state_read _ c.args.s _ (omega (arith, c.in-Some.ensures.1)) c.byte_at.ensures c.byte_at-2.ensures c.le16.ensures
