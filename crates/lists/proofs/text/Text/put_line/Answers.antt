-- Three fields, the letter and the line feed are one write. Assumes nothing.
use Rattle.lists.proofs.Writes.{writes_then}
use Rattle.lists.proofs.text.Text.put_line.Goals as goal

pub returns : goal.returns
returns c =
    writes_then c.put_field.ensures
    (writes_then c.put_field-2.ensures
    (writes_then c.put_field-3.ensures
    (writes_then c.put_byte.ensures c.put_byte-2.ensures)))
