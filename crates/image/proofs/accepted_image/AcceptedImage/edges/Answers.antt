-- `image::accepted_image::AcceptedImage::edges` meets its contract.
-- Assumes nothing.
use Rattle.image.proofs.Accepted.{facts_of}
use native.Mathlib.Omega.{arith}
use Rattle.image.proofs.accepted_image.AcceptedImage.edges.Goals as goal

pub invariant_of-result : goal.invariant_of-result
invariant_of-result c =
    let F = facts_of c.args.self.accepted in
    let k = F.inside c.args.p c.requires in
    record { held = omega arith }
