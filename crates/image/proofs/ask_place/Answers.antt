-- `image::ask_place` meets its contract.
-- Assumes nothing.
use mathlib.Core.Path.{sym, ◌∙◌}
use Rattle.image.proofs.Judged.{first_refused, first_accepted, told_err}
use Rattle.image.proofs.ask_place.Goals as goal

pub returns-in_err-places : goal.returns-in_err-places
returns-in_err-places c =
    let again = c.from_residual.ensures.1 in
    let no = c.in_err-places.ensures in
    record {
      fallback = told_err _ _ _ _ again (sym (first_refused _ _ _ _ no));
      level = told_err _ _ _ _ again (sym (first_refused _ _ _ _ no));
      mark = told_err _ _ _ _ again (sym (first_refused _ _ _ _ no));
    }

pub returns : goal.returns
returns c =
    let says = c.place.ensures in
    let fine = c.in_ok-places.ensures in
    record {
      fallback = says.fallback ∙ sym (first_accepted _ _ _ _ fine);
      level = says.level ∙ sym (first_accepted _ _ _ _ fine);
      mark = says.mark ∙ sym (first_accepted _ _ _ _ fine);
    }
