-- `image::check::Counted::place_right` meets its contract.
-- Assumes nothing.
use Rattle.image.specs.Rules.{place_right}
use borrow.Author.Tests.{eq-eqb, ne_eqb}
use Rattle.image.proofs.check.Counted.place_right.Goals as goal

pub returns-then-p-eq0 : goal.returns-then-p-eq0
unfolding place_right
returns-then-p-eq0 c =
    let z = c.if-p-eq0.true in
    rw (eq-eqb _ _ z, z) (cc)

pub returns-else-p-eq0 : goal.returns-else-p-eq0
unfolding place_right
returns-else-p-eq0 c = rw (ne_eqb _ _ c.if-p-eq0.false) (cc)
