-- `compile_table` meets its contract. Assumes nothing.
use native.Mathlib.Omega.{arith}
use Rattle.std.proofs.lemmas.Result.{err_from_is_err_and}
use Rattle.compile.proofs.Answers.{makes_14, makes_15, makes_16, numbered, makes_done}
use Rattle.compile.proofs.compile_table.Goals as goal

pub returns-in_err-edges : goal.returns-in_err-edges
returns-in_err-edges c =
    let p = err_from_is_err_and c.from_residual.result c.from_residual.ensures.1 in
    rw (p.1, p.2, ← c.new-source.ensures) (makes_14 _ c.args.out.now _ c.in_err-edges.ensures)

pub returns-then-edges-gt4096 : goal.returns-then-edges-gt4096
returns-then-edges-gt4096 c =
    rw (c.into.ensures, ← c.new-source.ensures) (makes_15 c.in_ok-edges.ensures c.args.out.now c.if-edges-gt4096.true)

pub returns-then-out-length : goal.returns-then-out-length
returns-then-out-length c =
    rw (c.into-then-out-length.ensures, ← c.new-source.ensures)
    (makes_16 c.in_ok-edges.ensures c.args.out.now c.if-edges-gt4096.false (rw c.count.ensures at c.if-out-length.true))

pub write_image-requires : goal.write_image-requires
write_image-requires c =
    let x = c.in_ok-edges.ensures in
    let room = c.if-out-length.false in
    (numbered x c.if-edges-gt4096.false c.explore.new.self.places.fit.held, x.edges, omega (arith, c.count.ensures))

pub returns : goal.returns
returns c =
    rw (c.count.ensures, c.count-2.ensures, ← c.new-source.ensures)
    (makes_done c.in_ok-edges.ensures c.args.out.now c.if-edges-gt4096.false (rw c.count.ensures at c.if-out-length.false)
    c.write_image.ensures)
