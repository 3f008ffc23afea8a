use Rattle.image.proofs.Rows.{own_start, own_turn}
use Rattle.image.proofs.Accepted.{facts_of}
use Rattle.image.specs.Form.{form1, place_at}
use native.Mathlib.Omega.{arith}
use mathlib.Core.Path.{◌≡◌}
use Prim.Native.Nat.{◌+◌, ◌-◌}
use Rattle.image.proofs.steps.Classes.own_edges.Goals as goal

pub loop-j-init : goal.loop-j-init
loop-j-init c =
    let n = c.edges-edges.ensures.3.is in
    (own_start _ _ _ _ _ _ (omega arith), omega arith, omega arith)

pub event-requires : goal.event-requires
event-requires c =
    let k = (facts_of c.args.self.now.image.accepted).inside c.args.place c.requires.0 in
    omega arith

pub target-requires : goal.target-requires
target-requires c =
    let k = (facts_of c.args.self.now.image.accepted).inside c.args.place c.requires.0 in
    omega arith

pub loop-j-preserved : goal.loop-j-preserved
loop-j-preserved c =
    let S = c.args.self.now in
    let e = c.event.ensures in
    let g = c.target.ensures in
    let k = (facts_of S.image.accepted).inside c.args.place c.requires.0 in
    let f = c.edges-edges.ensures.2.is in
    let l = c.requires.2 in
    let r = c.requires.1 in (
      rw c.from-class.ensures
          (own_turn _ _ S.count _ S.are _ _ _ _ _ _ _ c.loop-j.invariant.0 (omega arith) c.loop-j.invariant.2
          (omega arith) e.small e.is g.is g.small (omega arith)),
      omega arith,
      omega arith,
    )

pub returns : goal.returns
returns c =
    let f = c.edges-edges.ensures.2.is in
    let n = c.edges-edges.ensures.3.is in
    let m = (place_at form1 c.args.self.now.image.bytes.now c.args.place).count in
    let l = c.loop-j.invariant.1 in
    let e : c.edges-edges.result.first + m - c.loop-j.j ≡ m = omega arith in
    let h : c.loop-j.j ≡ (place_at form1 c.args.self.now.image.bytes.now c.args.place).first = omega arith in
    rw (← e, ← h) c.loop-j.invariant.0
