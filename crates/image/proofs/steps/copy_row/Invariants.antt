-- `image::steps::copy_row` meets its contract. The loop carries the entries copied: a turn of `Rows`.
-- Assumes nothing.
use Rattle.image.specs.Steps.{Copied}
use Rattle.image.proofs.steps.copy_row.Given as goal

abbrev pub invariant-loop-i : goal.invariant-loop-i
invariant-loop-i l = Copied l.i l.from l.to l.initial.table l.table
