-- `image::field::put_record` meets its contract.
-- Assumes nothing.
use Rattle.image.proofs.Writing.{sets_eight, record_bytes_lem}
use lib.Seq.{sets}
use lib.ListN.{length-set}
use native.Mathlib.Omega.{arith}
use mathlib.Core.Path.{ap, ◌∙◌}
use mathlib.Core.List.{List}
use Prim.Native.Nat.{ℕ}
use Rattle.image.proofs.field.put_record.Goals as goal

pub bounds-out-at-2 : goal.bounds-out-at-2
bounds-out-at-2 c = simp length-set (omega arith)

pub bounds-out-at-3 : goal.bounds-out-at-3
bounds-out-at-3 c = simp length-set (omega arith)

pub bounds-out-at-4 : goal.bounds-out-at-4
bounds-out-at-4 c = simp length-set (omega arith)

pub bounds-out-at-5 : goal.bounds-out-at-5
bounds-out-at-5 c = simp length-set (omega arith)

pub bounds-out-at-6 : goal.bounds-out-at-6
bounds-out-at-6 c = simp length-set (omega arith)

pub bounds-out-at-7 : goal.bounds-out-at-7
bounds-out-at-7 c = simp length-set (omega arith)

pub bounds-out-at-8 : goal.bounds-out-at-8
bounds-out-at-8 c = simp length-set (omega arith)

pub returns : goal.returns
returns c =
    sets_eight c.args.out.now c.args.at _ _ _ _ _ _ _ _
    ∙ ap (λ (bs : List ℕ). sets c.args.out.now c.args.at bs) (record_bytes_lem c.args.number c.requires.1)
