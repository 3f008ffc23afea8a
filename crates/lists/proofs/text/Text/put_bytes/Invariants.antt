-- The loop has written the bytes before this one. Assumes nothing.
use lib.ListN.{take}
use Rattle.lists.specs.Writes.{Writes}
use Rattle.lists.proofs.text.Text.put_bytes.Given as goal

abbrev pub invariant-loop-byte : goal.invariant-loop-byte
invariant-loop-byte l = Writes l.initial.self (take l.byte-index l.bytes) l.self
