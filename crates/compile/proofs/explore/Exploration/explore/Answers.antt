use mathlib.Core.Path.{refl, ◌∙◌}
use native.Mathlib.Omega.{arith}
use Rattle.std.proofs.lemmas.Result.{err_from_is_err_and}
use Rattle.compile.proofs.Opening.{exploring_start, exploring_end, exploring_over, exploring_next}
use Rattle.compile.proofs.explore.Exploration.explore.Goals as goal

pub loop-p-init : goal.loop-p-init
loop-p-init c = (exploring_start _ c.requires, refl)

pub returns-in_err-open_place : goal.returns-in_err-open_place
returns-in_err-open_place c =
    let p = err_from_is_err_and c.from_residual.result c.from_residual.ensures.1 in
    let i = c.loop-p.invariant in
    let x = rw i.1 at c.in_err-open_place.ensures.grown in
    rw (p.1, p.2) (exploring_over c.loop-p.self.places.fit.held.few i.0 (omega arith) x.0, x.1)

pub loop-p-preserved : goal.loop-p-preserved
loop-p-preserved c =
    let i = c.loop-p.invariant in
    let n = rw i.1 at c.count-edges.ensures in (
      exploring_next c.loop-p.self.places.fit.held.few i.0 (omega arith) c.loop-p.self.places.fit.held
          c.head.ensures.0 n.is n.small (rw i.1 at c.in_ok-open_place.ensures.grown),
      c.open_place.ensures.same_source ∙ i.1,
    )

pub returns : goal.returns
returns c = exploring_end c.loop-p.self.places.fit.held.few c.loop-p.invariant.0 (omega arith)
