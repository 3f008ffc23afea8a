-- `image::over::Runner::report` meets its contract. The loop carries what is left to write: a turn of `Report`.
-- Assumes nothing.
-- `l.k-2`: the k passed, as a local has its name.
use Rattle.image.proofs.Report.{Writing}
use Rattle.image.proofs.over.Runner.report.Given as goal

abbrev pub invariant-loop-link : goal.invariant-loop-link
invariant-loop-link l =
    Writing l.self.image.bytes.now l.self.image.places l.end l.place l.initial.out l.k-2 l.out l.k l.link

abbrev pub decreases-loop-link : goal.decreases-loop-link
decreases-loop-link l = l.link
