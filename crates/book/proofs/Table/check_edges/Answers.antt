use native.Mathlib.Omega.{arith}
use Rattle.book.proofs.Cases.{err_is}
use Rattle.book.proofs.Turn.{faulty_none, own_start, own_found, own-next, own_end}
use Rattle.book.proofs.Table.check_edges.Goals as goal

pub loop-s-init : goal.loop-s-init
loop-s-init g c = (omega arith, λ rule h. own_start _ _ _)

pub returns-in_err-check_own : goal.returns-in_err-check_own
returns-in_err-check_own g c =
    λ rule h x. rw (err_is _ c.from_residual.ensures.1)
    (own_found (c.loop-s.invariant.1 rule h) c.loop-s-test.true c.state_at-count.ensures.is _ (c.in_err-check_own.ensures rule h) x)

pub loop-s-preserved : goal.loop-s-preserved
loop-s-preserved g c =
    let x = c.state_at-count.ensures in
    let small = x.count in
    let m = c.loop-s.invariant.0 in (
      omega arith,
      λ rule h. own-next (c.loop-s.invariant.1 rule h) c.loop-s-test.true x.is x.count (faulty_none _ _ (c.in_ok-check_own.ensures rule h)),
    )

pub returns : goal.returns
returns g c = λ rule h x. rw (← own_end (c.loop-s.invariant.1 rule h) c.loop-s-test.false)
