use Rattle.image.proofs.Rows.{copy_start, copy_turn}
use native.Mathlib.Omega.{arith}
use mathlib.Core.Path.{refl}
use Prim.Native.Nat.{◌+◌}
use Rattle.image.proofs.steps.copy_row.Goals as goal

pub loop-i-init : goal.loop-i-init
loop-i-init c = copy_start _ _ _

pub overflow_add-table-in-loop-i : goal.overflow_add-table-in-loop-i
overflow_add-table-in-loop-i c =
    let i = c.loop-i in
    let e = i.invariant.below (c.args.from + i.i) (omega arith) in
    let b = c.requires.3 i.i c.loop-i-test.true in
    omega arith

pub loop-i-preserved : goal.loop-i-preserved
loop-i-preserved c =
    let l = c.requires.2 in
    copy_turn _ c.args.n _ _ _ _ _ c.loop-i.invariant c.loop-i-test.true c.requires.0 (omega arith) refl
