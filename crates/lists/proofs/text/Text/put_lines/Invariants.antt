-- The loop has written the lines of the records before this one. Assumes nothing.
use mathlib.Core.List.{map}
use lib.ListN.{take}
use Rattle.lists.specs.Whole.{record_of}
use Rattle.lists.specs.Listing.{lines_text}
use Rattle.lists.specs.Writes.{Writes}
use Rattle.lists.proofs.text.Text.put_lines.Given as goal

abbrev pub invariant-loop-record : goal.invariant-loop-record
invariant-loop-record l = Writes l.initial.self (lines_text (map record_of (take l.record-index l.whole)) l.log) l.self
