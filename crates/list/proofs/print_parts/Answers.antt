-- Each part takes an event and goes on from where the one before it came to. Assumes nothing.
use mathlib.Core.Path.{◌∙◌}
use Prim.Native.Nat.{ℕ}
use native.Mathlib.Omega.{arith}
use lib.ListN.{length-replicate}
use Rattle.list.proofs.Going.{going_start, going_on, going_end}
use Rattle.list.proofs.print_parts.Goals as goal

pub loop-at-init : goal.loop-at-init
loop-at-init c = (length-replicate {A = ℕ} 23529 0, λ some short. going_start _ some _ short)

pub overflow_add-at : goal.overflow_add-at
overflow_add-at c =
    let on =
    going_on _ _ _ _ _ _ _ (c.loop-at.invariant.1 c.requires.1 c.requires.0) c.loop-at-test.true
    c.next_part-part.ensures in
    omega (arith, on.1.within, c.requires.0)

pub overflow_add-steps : goal.overflow_add-steps
overflow_add-steps c =
    let on =
    going_on _ _ _ _ _ _ _ (c.loop-at.invariant.1 c.requires.1 c.requires.0) c.loop-at-test.true
    c.next_part-part.ensures in
    omega (arith, on.1.few, on.1.within, c.requires.0)

pub loop-at-smaller : goal.loop-at-smaller
loop-at-smaller c =
    let on =
    going_on _ _ _ _ _ _ _ (c.loop-at.invariant.1 c.requires.1 c.requires.0) c.loop-at-test.true
    c.next_part-part.ensures in
    omega (arith, on.0, on.1.within)

pub loop-at-preserved : goal.loop-at-preserved
loop-at-preserved c = (
  c.next_part-part.auto.text ∙ c.loop-at.invariant.0,
  λ some short.
      (going_on _ some _ short _ _ _ (c.loop-at.invariant.1 some short) c.loop-at-test.true
      c.next_part-part.ensures).1,
)

pub returns : goal.returns
returns c = going_end _ _ _ _ _ _ _ (c.loop-at.invariant.1 c.requires.1 c.requires.0) (omega arith)
