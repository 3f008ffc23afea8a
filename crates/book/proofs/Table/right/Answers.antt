use mathlib.Core.Path.{sym, ◌∙◌}
use native.Mathlib.Omega.{arith}
use borrow.Author.Tests.{eqb-true}
use Rattle.book.proofs.Sound.{sound_start, sound_next, sound_judged}
use Rattle.book.proofs.Table.right.Goals as goal
use Rattle.book.proofs.Table.right.Goals.{then-first-edges, else-first-edges}

pub loop-s-init : goal.loop-s-init
loop-s-init c = sound_start _ _ _

pub loop-s-preserved : goal.loop-s-preserved
loop-s-preserved c =
    let x = c.held_state-count.ensures in
    sound_next c.loop-s.invariant c.loop-s-test.true x.is x.count c.if-edges-first.false
    (c.own_right.ensures c.if-not-own_right.false)

pub returns-then-held_state-eq0 : goal.returns-then-held_state-eq0
returns-then-held_state-eq0 c =
    elim c.if-first-edges.branch [
      | then-first-edges w ↦ λ e.
          sound_judged c.loop-s.invariant (omega arith) w.if-first-edges.true w.held_state.ensures.is
          (eqb-true _ 0 (sym w.value-is ∙ c.if-held_state-eq0.true)) (c.states_right.ensures e)
      | else-first-edges w ↦ absurd (w.if-first-edges.false (eqb-true _ _ (sym w.value-is ∙ c.if-held_state-eq0.true)))
    ]
