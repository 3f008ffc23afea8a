use Rattle.image.proofs.Rows.{class_start}
use native.Mathlib.Omega.{arith}
use mathlib.Core.Path.{refl}
use Rattle.image.proofs.steps.Classes.new.Goals as goal

pub loop-j-init : goal.loop-j-init
loop-j-init c = class_start _ _ refl

pub overflow_cast-of : goal.overflow_cast-of
overflow_cast-of c = let k = c.loop-j.invariant.are.few in omega arith

pub overflow_add-count : goal.overflow_add-count
overflow_add-count c = let k = c.loop-j.invariant.are.few in omega arith
