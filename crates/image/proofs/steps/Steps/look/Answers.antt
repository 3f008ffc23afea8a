-- `image::steps::Steps::look` meets its contract. What an entry says is read off the accepted image's facts.
-- Assumes nothing.
use Rattle.image.proofs.Rows.{looked}
use Rattle.image.proofs.Accepted.{facts_of}
use mathlib.Core.Path.{refl}
use Rattle.image.proofs.steps.Steps.look.Goals as goal

pub returns : goal.returns
returns c =
    let S = c.args.self in
    looked _ _ _ (facts_of S.classes.now.image.accepted) _ _ _ _ _ _ c.requires.0 c.requires.1 S.right
    (rw c.from-class.ensures refl)
