-- `steps` meets its contract: the turns of `Summing`. Assumes nothing.
use Rattle.stepbench.proofs.Summing.{Summing}
use Rattle.stepbench.proofs.steps.Given as goal

abbrev pub invariant-loop-event : goal.invariant-loop-event
invariant-loop-event l = Summing l.image l.places l.log l.place l.sum l.event-index
