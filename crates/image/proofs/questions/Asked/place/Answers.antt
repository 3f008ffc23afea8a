-- `image::questions::Asked::place` meets its contract.
-- Assumes nothing.
use Rattle.image.proofs.Judged.{told_err}
use Rattle.image.proofs.Asking.{there_not, answered}
use Rattle.image.specs.Calls.{fallback_in, level_in, mark_in}
use Rattle.image.specs.Questions.{questions_at}
use Rattle.image.specs.Form.{form1}
use Rattle.image.proofs.questions.Asked.place.Goals as goal

pub returns-in_err-p : goal.returns-in_err-p
unfolding fallback_in level_in mark_in
returns-in_err-p c =
    let again = c.from_residual.ensures.1 in
    let no = c.in_err-p.ensures in
    record {
      fallback = told_err _ _ _ _ again (there_not _ _ _ _ no);
      level = told_err _ _ _ _ again (there_not _ _ _ _ no);
      mark = told_err _ _ _ _ again (there_not _ _ _ _ no);
    }

pub returns : goal.returns
unfolding fallback_in level_in mark_in
returns c =
    let M = questions_at form1 c.args.self.bytes.now c.args.self.places in
    let there = c.in_ok-p.ensures in
    record {
      fallback = answered _ _ _ _ M.fallback there c.fallback.ensures.is;
      level = answered _ _ _ _ M.level there c.level.ensures.is;
      mark = answered _ _ _ _ M.mark there c.mark.ensures.is;
    }
