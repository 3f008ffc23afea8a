use Rattle.book.proofs.Turn.{edge_found, edge-next, edge_end_lem}
use Rattle.book.proofs.Table.check_own.Goals as goal

pub returns-then-breaks : goal.returns-then-breaks
returns-then-breaks g c =
    λ rule h x. rw
    (← edge_found (c.loop-j.invariant rule h) c.loop-j-test.true c.edge_at-e.ensures.is (h _ _ _ _ c.breaks.ensures)
    c.if-breaks.true)

pub loop-j-preserved : goal.loop-j-preserved
loop-j-preserved g c =
    λ rule h. edge-next (c.loop-j.invariant rule h) c.loop-j-test.true c.edge_at-e.ensures.is (h _ _ _ _ c.breaks.ensures)
    c.loop-j.auto.j c.if-breaks.false

pub returns : goal.returns
returns g c = λ rule h x. rw (← edge_end_lem (c.loop-j.invariant rule h) c.loop-j-test.false)
