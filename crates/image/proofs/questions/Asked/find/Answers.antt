-- `image::questions::Asked::find` meets its contract: both searches answer alike.
-- Assumes nothing.
use Rattle.image.proofs.Asking.{sought_small}
use mathlib.Core.Path.{sym, ◌∙◌}
use Rattle.image.proofs.questions.Asked.find.Goals as goal

pub returns-then-among : goal.returns-then-among
returns-then-among c = (
  rw (← c.first-first.ensures.is, ← c.count-count.ensures.is) c.linear.ensures,
  λ j e. sought_small _ _ _ _ _ (sym c.linear.ensures ∙ e) c.first-first.ensures.small c.count-count.ensures.small,
)

pub returns-else-among : goal.returns-else-among
returns-else-among c = (
  rw (← c.first-first.ensures.is, ← c.count-count.ensures.is) c.linear-else-among.ensures,
  λ j e.
      sought_small _ _ _ _ _ (sym c.linear-else-among.ensures ∙ e) c.first-first.ensures.small
      c.count-count.ensures.small,
)
