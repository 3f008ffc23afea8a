-- `check_book` meets its contract: the trailer decides, or else the table does: at once where it breaks no rule, or else
-- row by row. Assumes nothing.
use mathlib.Core.Path.{sym}
use native.Mathlib.Omega.{arith}
use Rattle.book.proofs.Cases.{err_is}
use Rattle.book.proofs.Judged.{trailer_answer, trailer_passed, table_holds, table_answer, table_part, table-inside}
use Rattle.book.proofs.check_book.Goals as goal

pub returns-in_err-check_trailer : goal.returns-in_err-check_trailer
returns-in_err-check_trailer c =
    rw (err_is _ c.from_residual.ensures.1)
    (trailer_answer c.args.book.now c.trailer_of-t.ensures (c.in_err-check_trailer.ensures _))

pub slice_bounds-table-count : goal.slice_bounds-table-count
slice_bounds-table-count c = omega (arith, c.table_at-at.ensures, table-inside c.args.book.now)

pub slice_bounds-table-start : goal.slice_bounds-table-start
slice_bounds-table-start c = omega (arith, c.table_at-at.ensures, table-inside c.args.book.now)

pub right-requires : goal.right-requires
right-requires c =
    let r = trailer_passed c.args.book.now c.trailer_of-t.ensures c.in_ok-check_trailer.ensures in (
      r.some_state,
      r.states,
      r.edges,
      table_holds c.args.book.now c.trailer_of-t.ensures c.in_ok-check_trailer.ensures
          _ (table_part c.args.book.now _ c.table_at-at.ensures),
    )

pub check-requires : goal.check-requires
check-requires c =
    let r = trailer_passed c.args.book.now c.trailer_of-t.ensures c.in_ok-check_trailer.ensures in
    (r.states, r.edges)

pub returns-in_err-check : goal.returns-in_err-check
returns-in_err-check c =
    rw (err_is _ c.from_residual-in_err-check.ensures.1)
    (table_answer c.args.book.now c.trailer_of-t.ensures c.in_ok-check_trailer.ensures
    _ (table_part c.args.book.now _ c.table_at-at.ensures) (c.in_err-check.ensures _))

pub returns-in_ok-check : goal.returns-in_ok-check
returns-in_ok-check c =
    table_answer c.args.book.now c.trailer_of-t.ensures c.in_ok-check_trailer.ensures
    _ (table_part c.args.book.now _ c.table_at-at.ensures) (c.in_ok-check.ensures _)

pub returns-else-not-right : goal.returns-else-not-right
returns-else-not-right c =
    table_answer c.args.book.now c.trailer_of-t.ensures c.in_ok-check_trailer.ensures
    _ (table_part c.args.book.now _ c.table_at-at.ensures) (sym (c.right.ensures c.if-not-right.false _))
