-- `image::ask_edge` meets its contract.
-- Assumes nothing.
use mathlib.Core.Path.{sym, ◌∙◌}
use Rattle.image.proofs.Judged.{first_refused, first_accepted, told_err}
use Rattle.image.proofs.ask_edge.Goals as goal

pub returns-in_err-places : goal.returns-in_err-places
returns-in_err-places c =
    told_err _ _ _ _ c.from_residual.ensures.1 (sym (first_refused _ _ _ _ c.in_err-places.ensures))

pub returns : goal.returns
returns c = c.edge.ensures ∙ sym (first_accepted _ _ _ _ c.in_ok-places.ensures)
