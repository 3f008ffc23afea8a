-- `image::check::Counted::other_right` meets its contract.
-- Assumes nothing.
use Rattle.image.specs.Rules.{other_right}
use borrow.Author.Tests.{lt-ltb, le-ltb}
use Rattle.image.proofs.check.Counted.other_right.Goals as goal

pub returns-then-p-fallback : goal.returns-then-p-fallback
unfolding other_right
returns-then-p-fallback c = rw (← c.fallback-fallback.ensures.is, le-ltb _ _ c.if-p-fallback.true)

pub returns : goal.returns
unfolding other_right
returns c =
    rw (
      ← c.fallback-fallback.ensures.is,
      lt-ltb _ _ c.if-p-fallback.false,
      ← c.head-head.ensures.is,
      ←
          c.level-level.ensures.is,
      ← c.link-link.ensures.is,
      ← c.mark-mark.ensures.is,
      ←
          c.level-below.ensures.is,
      ← c.link.ensures.is,
      ← c.link_for-wanted.ensures,
    )
