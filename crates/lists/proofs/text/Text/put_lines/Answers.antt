-- A line more for each record, and all records are those of the buffer. Assumes nothing.
use mathlib.Core.Path.{◌∙◌}
use lib.Seq.{take_all}
use Rattle.lists.specs.Listing.{lines_text}
use Rattle.lists.proofs.Whole.{chunks_are}
use Rattle.lists.proofs.Lines.{lines_more, line_read}
use Rattle.lists.proofs.Writes.{writes_none, writes_then}
use Rattle.lists.proofs.text.Text.put_lines.Goals as goal

pub loop-record-init : goal.loop-record-init
unfolding lines_text
loop-record-init c = writes_none _

pub loop-record-preserved : goal.loop-record-preserved
loop-record-preserved c =
    let log = c.args.log.now in
    let whole = c.as_chunks.result.0.now in
    let line =
    line_read log _ _ _ _ _ c.from-end.ensures c.into.ensures c.into-in-loop-record.ensures c.last_letter.ensures in
    rw (lines_more log whole _ c.loop-record-test.true)
    (writes_then c.loop-record.invariant (rw line at c.put_line.ensures))

pub returns : goal.returns
returns c =
    let whole = c.as_chunks.result.0.now in
    let all = take_all _ whole c.loop-record-test.false ∙ c.as_chunks.ensures.front ∙ chunks_are c.args.records.now in
    rw all at c.loop-record.invariant
