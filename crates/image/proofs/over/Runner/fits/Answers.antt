-- `image::over::Runner::fits` meets its contract. A place has fewer records than there are places.
-- Assumes nothing.
use Rattle.image.proofs.Report.{few_reports}
use Rattle.image.proofs.Accepted.{facts_of}
use borrow.Author.Tests.{le-leb}
use native.Mathlib.Omega.{arith}
use mathlib.Core.Path.{sym, ◌∙◌}
use Rattle.image.proofs.over.Runner.fits.Goals as goal

pub returns-then-self-left : goal.returns-then-self-left
returns-then-self-left c =
    let z = few_reports _ _ _ (facts_of c.args.self.image.accepted) c.args.place c.requires in
    le-leb _ _ (omega arith) ∙ sym (le-leb _ _ (omega arith))
