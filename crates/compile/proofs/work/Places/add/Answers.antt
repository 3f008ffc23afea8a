-- `add` meets its contract. Assumes nothing.
use mathlib.Core.Path.{sym, ◌∙◌}
use native.Mathlib.Omega.{arith}
use Rattle.compile.proofs.Meet.{add_in, add_found, add_new, add_over, not_found}
use Rattle.compile.proofs.work.Places.add.Goals.{then-seen-chain-via-then-seen-chain, then-seen-chain-via-else-seen-chain+then-is_some}
use Rattle.compile.proofs.work.Places.add.Goals as goal

pub returns-then-seen-chain : goal.returns-then-seen-chain
returns-then-seen-chain c =
    let q = c.requires in
    elim c.then-seen-chain.branch [
      | then-seen-chain-via-then-seen-chain w ↦ add_in _ _ _ _ _ q.1 q.0 q.3 w.if-seen-chain.true
      | then-seen-chain-via-else-seen-chain+then-is_some w ↦
          add_found _ _ _ _ _ q.1 q.0 q.3 w.if-seen-chain.false _ w.find.ensures (sym w.is_some.ensures ∙ w.if-is_some.true)
    ]

pub returns-then-self-eq1024 : goal.returns-then-self-eq1024
returns-then-self-eq1024 c =
    let q = c.requires in
    let new = not_found _ _ _ _ _ q.1 q.0 q.3 c.if-seen-chain.false _ c.find.ensures
    (sym c.is_some.ensures ∙ c.if-is_some.false) in
    (add_over _ _ _ _ _ q.1 q.0 q.3 c.if-seen-chain.false new (omega arith), rw c.into.ensures)

pub returns : goal.returns
returns c =
    let q = c.requires in
    let new = not_found _ _ _ _ _ q.1 q.0 q.3 c.if-seen-chain.false _ c.find.ensures
    (sym c.is_some.ensures ∙ c.if-is_some.false) in
    add_new _ _ _ _ _ q.1 q.0 q.3 c.if-seen-chain.false new _ _ c.push.ensures
