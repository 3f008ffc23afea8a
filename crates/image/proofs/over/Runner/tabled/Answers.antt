-- `image::over::Runner::tabled` meets its contract.
-- Assumes nothing.
use mathlib.Core.Path.{refl}
use Rattle.image.proofs.over.Runner.tabled.Goals as goal

pub fill-requires : goal.fill-requires
fill-requires c = (rw c.new-classes.ensures c.if-classes-self-le32768.true, refl)
