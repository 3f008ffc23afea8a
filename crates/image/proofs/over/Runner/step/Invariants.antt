-- `image::over::Runner::step` meets its contract. The loop carries the walk from the place it stands at: a turn of `Move`.
-- Assumes nothing.
use Rattle.image.proofs.Move.{Moving}
use Rattle.image.proofs.over.Runner.step.Given as goal

abbrev pub invariant-loop-p : goal.invariant-loop-p
invariant-loop-p l = Moving l.image.bytes.now l.image.places l.place l.event l.p l.steps

abbrev pub decreases-loop-p : goal.decreases-loop-p
decreases-loop-p l = l.p
