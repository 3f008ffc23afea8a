use Rattle.image.proofs.Rows.{row_in, rows-zero, row_copied, rows_more, rows_done}
use Rattle.image.proofs.Accepted.{facts_of, fallback_below}
use native.Mathlib.Omega.{arith}
use lib.ListN.{length, length-replicate}
use mathlib.Core.Path.{ap, ◌∙◌}
use mathlib.Core.Logic.{◌≢◌}
use mathlib.Core.List.{List}
use Prim.Native.Nat.{ℕ}
use Rattle.image.proofs.steps.Classes.fill.Goals as goal

pub own_edges-requires : goal.own_edges-requires
own_edges-requires c =
    let S = c.args.self.now in
    let A = S.image.accepted in
    let r = row_in S.count 0 S.image.places A.some_place in
    let fit = c.requires.0 in
    (A.some_place, omega arith, ap (λ (l : List ℕ). length l) c.requires.1 ∙ length-replicate {A = ℕ} 32768 0)

pub loop-p-init : goal.loop-p-init
loop-p-init c =
    let S = c.args.self.now in
    rows-zero _ _ _ (facts_of S.image.accepted) _ _ S.are _ _ c.requires.1 c.requires.0 c.own_edges.ensures

pub overflow_mul-row : goal.overflow_mul-row
overflow_mul-row c =
    let S = c.args.self.now in
    let fit = c.requires.0 in
    let r = row_in S.count c.loop-p.p S.image.places c.loop-p-test.true in
    omega arith

pub overflow_mul-self : goal.overflow_mul-self
overflow_mul-self c =
    let S = c.args.self.now in
    let fit = c.requires.0 in
    let b = fallback_below _ _ _ (facts_of S.image.accepted) c.loop-p.p c.loop-p-test.true in
    let r = row_in S.count c.fallback-fallback.result S.image.places (omega arith) in
    omega arith

pub copy_row-requires : goal.copy_row-requires
copy_row-requires c =
    let S = c.args.self.now in
    let i = c.loop-p in
    let nz : i.p ≢ 0 = λ z. omega arith in
    row_copied _ _ _ (facts_of S.image.accepted) _ _ S.are i.p _ c.loop-p-test.true nz
    c.fallback-fallback.ensures.is _ i.invariant c.requires.0

pub own_edges-requires-in-loop-p : goal.own_edges-requires-in-loop-p
own_edges-requires-in-loop-p c =
    let S = c.args.self.now in
    let b = c.loop-p-test.true in
    let fit = c.requires.0 in
    let r = row_in S.count c.loop-p.p S.image.places b in
    (b, omega arith, c.copy_row.ensures.kept ∙ c.loop-p.invariant.kept)

pub loop-p-preserved : goal.loop-p-preserved
loop-p-preserved c =
    let S = c.args.self.now in
    let i = c.loop-p in
    let nz : i.p ≢ 0 = λ z. omega arith in
    rows_more _ _ _ (facts_of S.image.accepted) _ _ S.are i.p _ c.loop-p-test.true nz
    c.fallback-fallback.ensures.is _ _ _ i.invariant c.copy_row.ensures c.own_edges-in-loop-p.ensures

pub returns : goal.returns
returns c =
    let S = c.args.self.now in
    rows_done _ _ _ (facts_of S.image.accepted) _ _ S.are _ _ c.loop-p.invariant c.loop-p-test.false c.requires.0
