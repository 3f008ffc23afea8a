-- `image::over::Runner::turn` meets its contract: a turn of `Turn`, with its records or without room for them.
-- Assumes nothing.
use Rattle.image.proofs.Turn.{run_turn, run_full}
use Rattle.meaning.proofs.Cases.{true_false}
use borrow.Author.Tests.{leb-true, leb-false}
use Rattle.image.specs.Held.{reports}
use Rattle.image.specs.Sought.{questions_of}
use mathlib.Core.Path.{refl, sym, ◌∙◌}
use Prim.Native.Nat.{◌-◌, ◌≤◌, ◌<◌}
use Rattle.image.proofs.over.Runner.turn.Goals as goal

pub returns-then-fits : goal.returns-then-fits
returns-then-fits c =
    let S = c.args.self in
    let f : reports (questions_of S.image) c.args.moved.place ≤ S.room - c.args.g.now.records =
    leb-true _ _ (sym c.fits.ensures ∙ c.if-fits.true) in (
      run_turn _ _ _ _ _ _ c.requires.0.stands c.requires.2 c.args.moved _ _ _ _ c.requires.1 c.requires.3 refl
          S.image.accepted.few_places f refl c.report-g.ensures.0 c.report-g.auto.out c.report-g.ensures.1,
      λ e. refl,
    )

pub returns-else-fits : goal.returns-else-fits
returns-else-fits c =
    let S = c.args.self in
    let f : S.room - c.args.g.now.records < reports (questions_of S.image) c.args.moved.place =
    leb-false _ _ (sym c.fits.ensures ∙ c.if-fits.false) in (
      run_full _ _ _ _ _ _ c.requires.0.stands c.requires.2 _ c.requires.3.place f,
      λ e. absurd (true_false refl e),
    )
