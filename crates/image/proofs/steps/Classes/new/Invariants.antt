-- `image::steps::Classes::new` meets its contract. The loop carries the classes of the edges passed: a turn of `Rows`.
-- Assumes nothing.
use Rattle.image.proofs.Rows.{Classing}
use Rattle.image.specs.Form.{form1, edge_at}
use Rattle.image.proofs.steps.Classes.new.Given as goal

abbrev pub invariant-loop-j : goal.invariant-loop-j
invariant-loop-j l = Classing (edge_at form1 l.image.bytes.now l.image.places) l.j l.count l.of
