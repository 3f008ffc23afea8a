-- A record more is written if it is kept. Assumes nothing.
use mathlib.Core.Path.{◌≡◌}
use mathlib.Core.Bool.{true, false}
use lib.Seq.{take_all}
use Rattle.std.proofs.Common.{rules}
use Rattle.lists.specs.Short.{short, is_kept}
use Rattle.lists.proofs.Writes.{writes_none, writes_then}
use Rattle.lists.proofs.Keeping.{short_other, joined_kept}
use Rattle.lists.proofs.write_kept.Goals as goal
use Rattle.lists.proofs.write_kept.Goals.{then-is_kept, else-is_kept}

pub loop-i-init : goal.loop-i-init
unfolding short
loop-i-init c = writes_none _

pub loop-i-preserved : goal.loop-i-preserved
loop-i-preserved c =
    let rs = c.args.records.now in
    elim c.if-is_kept.branch [
      | then-is_kept w ↦
          let k : is_kept rs c.loop-i.i ≡ true = cc in
          rw (w.text-is, joined_kept rs _ c.loop-i-test.true k) (writes_then c.loop-i.invariant w.put_bytes.ensures)
      | else-is_kept w ↦
          let k : is_kept rs c.loop-i.i ≡ false = cc in
          rw (w.text-is, short_other rs _ c.loop-i-test.true k) c.loop-i.invariant
    ]

pub returns : goal.returns
returns c =
    let lent = c.loop-i.invariant.lent in
    let all = take_all _ c.args.records.now c.loop-i-test.false in
    let memory = rw all at c.loop-i.invariant.wrote.memory in
    search rules
