use Rattle.image.proofs.Tables.{root_start, root_turn, root_done}
use Rattle.image.proofs.Accepted.{facts_of}
use Rattle.image.specs.Form.{form1, edge_at}
use native.Mathlib.Omega.{arith}
use mathlib.Core.Path.{refl, ap}
use Prim.Native.Nat.{ℕ, ◌+◌}
use Rattle.image.proofs.over.fill_root.Goals as goal

pub loop-j-init : goal.loop-j-init
loop-j-init c =
    root_start (edge_at form1 c.args.image.bytes.now c.args.image.places) _ _ _ _
    (ap (λ (n : ℕ). c.edges-edges.result.first + n) c.edges-edges.ensures.3.is) c.requires

pub loop-j-preserved : goal.loop-j-preserved
loop-j-preserved c =
    root_turn _ _ _ _ _ _ _ c.loop-j.invariant c.loop-j-test.true c.event.ensures.small c.event.ensures.is
    c.target.ensures.is

pub event-requires : goal.event-requires
event-requires c =
    let F = facts_of c.args.image.accepted in
    let k = F.inside 0 F.some_place in
    omega arith

pub target-requires : goal.target-requires
target-requires c =
    let F = facts_of c.args.image.accepted in
    let k = F.inside 0 F.some_place in
    omega arith

pub returns : goal.returns
returns c = root_done _ _ _ _ _ _ refl c.edges-edges.ensures.2.is c.loop-j.invariant c.loop-j-test.false
