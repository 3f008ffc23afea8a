-- `image::check::Counted::edge_right` meets its contract.
-- Assumes nothing.
use Rattle.image.specs.Form.{place_at}
use Rattle.image.specs.Rules.{edge_right}
use borrow.Author.Tests.{lt-ltb, le-ltb}
use Rattle.image.proofs.check.Counted.edge_right.Goals as goal

pub returns-then-self-target : goal.returns-then-self-target
unfolding edge_right
returns-then-self-target c = rw (← c.edge_target-target.ensures.is, le-ltb _ _ c.if-self-target.true)

pub returns : goal.returns
unfolding edge_right place_at
returns c =
    rw (
      ← c.edge_target-target.ensures.is,
      lt-ltb _ _ c.if-self-target.false,
      ←
          c.edge_spare-spare.ensures.is,
      ← c.edge_event-event.ensures.is,
      ← c.level-reached.ensures.is,
    )
