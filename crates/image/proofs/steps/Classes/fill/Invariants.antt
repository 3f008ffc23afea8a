-- `image::steps::Classes::fill` meets its contract. The loop carries the rows of the places passed: a turn of `Rows`.
-- Assumes nothing.
use Rattle.image.proofs.Rows.{RowsBelow}
use Rattle.image.specs.Sought.{questions_of}
use Rattle.image.proofs.steps.Classes.fill.Given as goal

abbrev pub invariant-loop-p : goal.invariant-loop-p
invariant-loop-p l = RowsBelow (questions_of l.self.image) l.self.count l.self.of l.table l.p
