-- `compile` meets its contract. Assumes nothing.
use mathlib.Core.Path.{sym}
use Rattle.std.proofs.lemmas.Result.{err_from_is_err_and}
use Rattle.book.proofs.Judged.{table_part}
use Rattle.compile.proofs.Answers.{ready_book, table_fits, refused_answer, refused_memory}
use Rattle.compile.proofs.Answers.{fine_answer, fine_memory}
use Rattle.compile.proofs.compile.Goals as goal

pub returns-in_err-counts : goal.returns-in_err-counts
returns-in_err-counts c =
    let p = err_from_is_err_and c.from_residual.result c.from_residual.ensures.1 in
    let e = c.in_err-counts.ensures in
    let out = c.args.out.now in
    rw (p.1, p.2) (record { answer = refused_answer _ out _ e; memory = refused_memory _ out _ e })

pub slice_bounds-table-count : goal.slice_bounds-table-count
slice_bounds-table-count c = table_fits _ c.table_at-at.ensures

pub slice_bounds-table-start : goal.slice_bounds-table-start
slice_bounds-table-start c = table_fits _ c.table_at-at.ensures

pub compile_table-requires : goal.compile_table-requires
compile_table-requires c = ready_book _ (sym c.in_ok-counts.ensures) (table_part _ _ c.table_at-at.ensures)

pub returns : goal.returns
returns c =
    let e = c.in_ok-counts.ensures in
    let t = table_part _ _ c.table_at-at.ensures in
    let out = c.args.out.now in
    record {
      answer = fine_answer _ out e t c.compile_table.ensures;
      memory = fine_memory _ out e t c.compile_table.ensures;
    }
