use Rattle.book.proofs.Turn.{entered_start, entered-put, entered_skip}
use Rattle.book.proofs.Table.entered.Goals as goal
use Rattle.book.proofs.Table.entered.Goals.{then-target-lt512, else-target-lt512}

pub loop-j-init : goal.loop-j-init
loop-j-init c = entered_start _ _

pub loop-j-preserved : goal.loop-j-preserved
loop-j-preserved c =
    elim c.if-target-lt512.branch [
      | then-target-lt512 w ↦ rw w.r-is (entered-put c.loop-j.invariant c.target_at-target.ensures.is)
      | else-target-lt512 w ↦ rw w.r-is (entered_skip c.loop-j.invariant c.target_at-target.ensures.is w.if-target-lt512.false)
    ]
