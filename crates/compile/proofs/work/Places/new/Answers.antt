-- `new` meets its contract: arrays of zeros hold the place 0. Assumes nothing.
use mathlib.Core.Path.{refl}
use Rattle.compile.proofs.Rows.{fit_start}
use Rattle.compile.proofs.work.Places.new.Goals as goal

pub invariant_of-result : goal.invariant_of-result
invariant_of-result c = record { fit = fit_start _ _ _ _ _ refl refl refl refl refl }
