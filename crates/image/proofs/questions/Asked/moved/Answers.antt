use Rattle.image.proofs.Asking.{try_start, try_fail, try_edge, try_none}
use native.Mathlib.Omega.{arith}
use mathlib.Core.Path.{◌≡◌, refl, sym, ◌∙◌}
use mathlib.Core.Logic.{⊎_elim}
use Prim.Native.Nat.{◌+◌, ◌-◌}
use Rattle.image.proofs.questions.Asked.moved.Goals as goal

pub loop-j-init : goal.loop-j-init
loop-j-init c =
    let e : c.args.place - 0 ≡ c.args.place = omega arith in
    (c.requires, rw e (try_start _ _ _))

pub edge_target-requires : goal.edge_target-requires
edge_target-requires c =
    let w = c.find.ensures.1 _ c.in-Some.is in
    omega arith

pub returns-in-Some : goal.returns-in-Some
returns-in-Some c =
    try_edge _ _ _ _ _ _ c.loop-j.invariant.1 _ _ (sym c.find.ensures.0 ∙ c.in-Some.is) c.edge_target.ensures.is
    c.edge_target.ensures.small

pub returns-then-p-eq0 : goal.returns-then-p-eq0
returns-then-p-eq0 c =
    try_none _ _ _ _ _ _ c.loop-j.invariant.1 (sym c.find.ensures.0 ∙ c.in_default.is)
    (λ l. ⊎_elim (λ z. z) (λ h. absurd (l (let s = h.1 in omega arith))) c.then-p-eq0.either)

pub overflow_add-steps : goal.overflow_add-steps
overflow_add-steps c =
    let t = c.loop-j.invariant.1.tried in
    omega arith

pub loop-j-smaller : goal.loop-j-smaller
loop-j-smaller c =
    let t = c.loop-j.invariant.1.tried in
    let l = c.if-steps-place.false in
    omega arith

pub loop-j-preserved : goal.loop-j-preserved
loop-j-preserved c =
    let t = c.loop-j.invariant.1.tried in
    let l = c.if-steps-place.false in
    let e : c.args.place - (c.loop-j.steps + 1) ≡ c.args.place - c.loop-j.steps - 1 = omega arith in (
      let k = c.fallback-p.ensures.small in omega arith,
      rw e
          (try_fail _ _ _ _ _ _ c.loop-j.invariant.1 _ _ (sym c.find.ensures.0 ∙ c.in_default.is) (omega arith)
          c.if-p-eq0.false c.fallback-p.ensures.is refl),
    )
