-- The three ways out are the three outcomes of the short list. Assumes nothing.
use mathlib.Core.Path.{sym, ◌∙◌}
use native.Mathlib.Omega.{arith}
use lib.ListN.{length}
use borrow.Author.Tests.{eqb-true, eqb-false}
use Rattle.lists.proofs.Whole.{chunks_are}
use Rattle.lists.proofs.Keeping.{short_odd, short_long, short_fits, short_le}
use Rattle.lists.proofs.short_list.Goals as goal

pub returns-then-not-is_empty : goal.returns-then-not-is_empty
returns-then-not-is_empty c =
    let start = c.args in
    let some = eqb-false (length c.as_chunks.result.1.now) 0 (sym c.if-not-is_empty.ensures) in
    let o = short_odd start.list.now start.out.now (λ e. some (c.as_chunks.ensures.back_len ∙ e)) in
    record { answer = rw c.into.ensures o.0; memory = o.1 }

pub overflow_mul-kept : goal.overflow_mul-kept
overflow_mul-kept c =
    omega (arith, short_le c.as_chunks.result.0.now, c.as_chunks.ensures.front_len, c.count_kept-kept.ensures)

pub returns-then-out-kept : goal.returns-then-out-kept
returns-then-out-kept c =
    let start = c.args in
    let none = eqb-true (length c.as_chunks.result.1.now) 0 (sym c.if-not-is_empty.ensures) in
    let whole = sym c.as_chunks.ensures.back_len ∙ none in
    let records = c.as_chunks.ensures.front ∙ chunks_are start.list.now in
    let o = short_long start.list.now start.out.now whole _ (rw records at c.count_kept-kept.ensures)
    c.if-out-kept.true in
    record { answer = rw c.into-then-out-kept.ensures o.0; memory = o.1 }

pub returns : goal.returns
returns c =
    let start = c.args in
    let none = eqb-true (length c.as_chunks.result.1.now) 0 (sym c.if-not-is_empty.ensures) in
    let whole = sym c.as_chunks.ensures.back_len ∙ none in
    let records = c.as_chunks.ensures.front ∙ chunks_are start.list.now in
    let o = short_fits start.list.now start.out.now whole _ (rw records at c.count_kept-kept.ensures)
    c.if-out-kept.false (rw records at c.write_kept.ensures) in
    record { answer = o.0; memory = o.1 }
