-- `image::over::run` meets its contract: the tables, and the walk over the log.
-- Assumes nothing.
use Rattle.image.proofs.Turn.{run_done}
use mathlib.Core.Path.{◌∙◌}
use Rattle.image.proofs.over.run.Goals as goal

pub returns : goal.returns
returns c =
    let w = c.walk.ensures in
    let d = run_done _ _ _ _ _ _ _ _ w.0 w.1 in
    (c.done.ensures ∙ d.0, d.1)
