-- Five writes, one after the other, are one. Assumes nothing.
use Rattle.lists.proofs.Writes.{writes_then}
use Rattle.lists.proofs.text.Text.put_pair.Goals as goal

pub returns : goal.returns
returns c =
    writes_then c.put_bytes.ensures
    (writes_then c.put_decimal.ensures
    (writes_then c.put_bytes-2.ensures
    (writes_then c.put_decimal-2.ensures c.put_byte.ensures)))
