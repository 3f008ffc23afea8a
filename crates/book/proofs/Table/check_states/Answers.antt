use Rattle.book.proofs.Turn.{state_found, state-next, state_end}
use Rattle.book.proofs.Table.check_states.Goals as goal

pub returns-then-breaks : goal.returns-then-breaks
returns-then-breaks g c =
    λ rule h E R x. rw
    (← state_found (c.loop-s.invariant rule h E R) c.loop-s-test.true c.requires.few R c.state_at.ensures.is
    (h _ _ _ _ c.breaks.ensures) c.if-breaks.true)

pub loop-s-preserved : goal.loop-s-preserved
loop-s-preserved g c =
    λ rule h E R. state-next (c.loop-s.invariant rule h E R) c.loop-s-test.true c.requires.few R c.state_at.ensures.is
    (h _ _ _ _ c.breaks.ensures) c.if-breaks.false

pub returns : goal.returns
returns g c = λ rule h E R x. rw (← state_end (c.loop-s.invariant rule h E R) c.loop-s-test.false)
