-- `image::check::trailer_right` meets its contract.
-- Assumes nothing.
use Rattle.image.specs.Rules.{trailer_right}
use borrow.Author.Tests.{le-leb, lt-leb}
use Rattle.image.proofs.check.trailer_right.Goals as goal

pub returns-then-n-lt12 : goal.returns-then-n-lt12
unfolding trailer_right
returns-then-n-lt12 c = rw (lt-leb _ _ c.if-n-lt12.true)

pub returns : goal.returns
unfolding trailer_right
returns c =
    rw (le-leb _ _ c.if-n-lt12.false, ← c.has_letters-letters.ensures) (cc)
