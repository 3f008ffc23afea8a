-- A number and the space after it are one write. Assumes nothing.
use Rattle.lists.proofs.Writes.{writes_then}
use Rattle.lists.proofs.text.Text.put_field.Goals as goal

pub returns : goal.returns
returns c = writes_then c.put_decimal.ensures c.put_byte.ensures
