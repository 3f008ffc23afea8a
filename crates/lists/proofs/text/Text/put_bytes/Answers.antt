use Rattle.std.proofs.lemmas.List.{take_more}
use Rattle.lists.proofs.Writes.{writes_then}
use Rattle.lists.proofs.text.Text.put_bytes.Goals as goal

pub loop-byte-preserved : goal.loop-byte-preserved
loop-byte-preserved c =
    let bytes = c.args.bytes.now in
    rw (take_more bytes _ 0 c.loop-byte-test.true) (writes_then c.loop-byte.invariant c.put_byte.ensures)
