-- `image::questions::Asked::edge` meets its contract.
-- Assumes nothing.
use Rattle.image.proofs.Judged.{told_err}
use Rattle.image.proofs.Asking.{there_not, there_is, place_known, told-edge, told_no_edge}
use Rattle.image.specs.Calls.{edge_in}
use Rattle.image.specs.Questions.{questions_at}
use Rattle.image.specs.Form.{form1}
use native.Mathlib.Omega.{arith}
use mathlib.Core.Path.{sym, ◌∙◌}
use Rattle.image.proofs.questions.Asked.edge.Goals as goal

pub returns-in_err-p : goal.returns-in_err-p
unfolding edge_in
returns-in_err-p c = told_err _ _ _ _ c.from_residual.ensures.1 (there_not _ _ _ _ c.in_err-p.ensures)

pub edge_target-requires : goal.edge_target-requires
edge_target-requires c =
    let w = c.find.ensures.1 _ c.in-Some.is in
    omega arith

pub returns-in-Some : goal.returns-in-Some
unfolding edge_in
returns-in-Some c =
    let M = questions_at form1 c.args.self.bytes.now c.args.self.places in
    let p = there_is _ _ _ c.in_ok-p.ensures in
    told-edge M c.args.place c.args.event c.in-Some.j c.edge_target.result
    (rw (← p.0, ← c.from.ensures) (sym c.find.ensures.0 ∙ c.in-Some.is)) c.edge_target.ensures.is
    ∙ place_known _ _ _ p.1

pub returns-in-None : goal.returns-in-None
unfolding edge_in
returns-in-None c =
    let M = questions_at form1 c.args.self.bytes.now c.args.self.places in
    let p = there_is _ _ _ c.in_ok-p.ensures in
    told_no_edge M c.args.place c.args.event (rw (← p.0, ← c.from.ensures) (sym c.find.ensures.0 ∙ c.in-None.is))
    ∙ place_known _ _ _ p.1
