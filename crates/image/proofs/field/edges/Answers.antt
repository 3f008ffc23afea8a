-- `image::field::edges` meets its contract.
-- Assumes nothing.
use Rattle.image.specs.Form.{trailer_of}
use borrow.Author.Rules.{rules}
use Rattle.image.proofs.field.edges.Goals as goal

pub returns : goal.returns
unfolding trailer_of
returns c = search rules
