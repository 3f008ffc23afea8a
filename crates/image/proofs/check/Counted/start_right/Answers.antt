-- `image::check::Counted::start_right` meets its contract.
-- Assumes nothing.
use Rattle.image.specs.Rules.{start_right}
use Rattle.image.proofs.check.Counted.start_right.Goals as goal

pub returns : goal.returns
unfolding start_right
returns c = cc
