-- `image::ask_mark` meets its contract.
-- Assumes nothing.
use Rattle.image.proofs.Judged.{told_err}
use Rattle.image.proofs.ask_mark.Goals as goal

pub returns-in_err-ask_place : goal.returns-in_err-ask_place
returns-in_err-ask_place c = told_err _ _ _ _ c.from_residual.ensures.1 c.in_err-ask_place.ensures.mark

pub returns : goal.returns
returns c = c.in_ok-ask_place.ensures.mark
