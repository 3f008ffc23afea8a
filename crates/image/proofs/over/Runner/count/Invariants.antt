-- `image::over::Runner::count` meets its contract. The loop carries how many are left to count: a turn of `Report`.
-- Assumes nothing.
use Rattle.image.proofs.Report.{Counting}
use Rattle.image.proofs.over.Runner.count.Given as goal

abbrev pub invariant-loop-link : goal.invariant-loop-link
invariant-loop-link l = Counting l.self.image.bytes.now l.self.image.places l.place l.n l.link

abbrev pub decreases-loop-link : goal.decreases-loop-link
decreases-loop-link l = l.link
