-- The offset and the length of the answer are inside the log, and the slice between them is the part. Assumes nothing.
use native.Mathlib.Omega.{arith}
use Rattle.lists.proofs.Parts.{part_inside, part_taken, part_refused}
use Rattle.lists.proofs.part.Goals as goal

pub overflow_add-result : goal.overflow_add-result
overflow_add-result c = omega (arith, (part_inside _ _ _ _ c.in-Ok.ensures).1)

pub slice_bounds-result-end : goal.slice_bounds-result-end
slice_bounds-result-end c = (part_inside _ _ _ _ c.in-Ok.ensures).1

pub returns-in-Ok : goal.returns-in-Ok
returns-in-Ok c = part_taken _ _ _ _ c.in-Ok.ensures

pub returns-in-Err : goal.returns-in-Err
returns-in-Err c = part_refused c.args.log.now _ _ _ c.in-Err.ensures
