use Rattle.book.proofs.Sound.{states_next, states_end}
use Rattle.book.proofs.Table.states_right.Goals as goal

pub loop-s-preserved : goal.loop-s-preserved
loop-s-preserved c =
    states_next c.loop-s.invariant c.loop-s-test.true c.requires.0 c.requires.2 c.held_state.ensures.is
    (c.state_right.ensures c.if-not-state_right.false)

pub returns : goal.returns
returns c = λ e. states_end c.loop-s.invariant c.loop-s-test.false
