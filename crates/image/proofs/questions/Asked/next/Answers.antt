-- `image::questions::Asked::next` meets its contract.
-- Assumes nothing.
use Rattle.image.proofs.Judged.{told_err}
use Rattle.image.proofs.Asking.{there_not, there_is, place_known, told-walk}
use Rattle.image.specs.Calls.{next_in}
use Rattle.image.specs.Questions.{questions_at}
use Rattle.image.specs.Form.{form1}
use mathlib.Core.Path.{◌∙◌}
use Rattle.image.proofs.questions.Asked.next.Goals as goal

pub returns-in_err-p : goal.returns-in_err-p
unfolding next_in
returns-in_err-p c = told_err _ _ _ _ c.from_residual.ensures.1 (there_not _ _ _ _ c.in_err-p.ensures)

pub returns : goal.returns
unfolding next_in
returns c =
    let M = questions_at form1 c.args.self.bytes.now c.args.self.places in
    let p = there_is _ _ _ c.in_ok-p.ensures in
    let moved = c.moved-moved.ensures in
    told-walk M _ _ _ _ (rw (← p.0, ← c.from.ensures) moved.place) (rw (← p.0, ← c.from.ensures) moved.steps)
    c.level.ensures.is
    ∙ place_known _ _ _ p.1
