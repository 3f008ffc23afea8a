use Rattle.image.proofs.Accepted.{facts_of, fallback_below}
use native.Mathlib.Omega.{arith}
use Rattle.image.proofs.over.fill_packed.Goals as goal

pub link-link-requires : goal.link-link-requires
link-link-requires c =
    let b = fallback_below _ _ _ (facts_of c.args.image.accepted) c.loop-p.p c.loop-p-test.true in
    omega arith
