-- `image::field::edge_target` meets its contract.
-- Assumes nothing.
use borrow.Author.Rules.{rules}
use Rattle.image.specs.Form.{edge_at}
use Rattle.image.proofs.field.edge_target.Goals as goal

pub returns : goal.returns
unfolding edge_at
returns c = search rules
