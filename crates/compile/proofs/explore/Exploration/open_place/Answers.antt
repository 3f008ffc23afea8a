use native.Mathlib.Omega.{arith}
use Rattle.std.proofs.lemmas.Result.{err_from_is_err_and}
use mathlib.Core.Path.{refl, ◌≡◌, ◌∙◌}
use Prim.Native.Nat.{◌+◌, ◌-◌}
use Rattle.book.proofs.Model.{events_end}
use Rattle.compile.proofs.Leading.{stands, own-events, event_next}
use Rattle.compile.proofs.Opening.{meeting_start, meeting_end, meeting_next, meeting_over}
use Rattle.compile.proofs.Alike.{passed_start, next_edge, passed-next, read_target, read-rest, alike_met}
use Rattle.compile.proofs.explore.Exploration.open_place.Goals as goal

pub loop-j-init : goal.loop-j-init
loop-j-init c =
    let x = stands c.args.self.now.source.now.ready c.args.self.now.places.fit c.requires.0 in
    let e : c.first_edge-from.result + c.count.result - c.first_edge-from.result ≡ c.count.result = omega arith in (
      rw e (meeting_start _ _ x.fit.held x.below c.requires.1
          (own-events x c.head-head.ensures.0 c.count.ensures.is c.first_edge-from.ensures.0)),
      passed_start,
      refl,
    )

pub loop-j-preserved-then-met_before : goal.loop-j-preserved-then-met_before
loop-j-preserved-then-met_before c =
    let i = c.loop-j.invariant in
    let e = rw i.2 at c.edge-edge.ensures.is in
    let x = stands c.args.self.now.source.now.ready c.args.self.now.places.fit c.requires.0 in
    let now = stands c.args.self.now.source.now.ready c.loop-j.self.places.fit i.0.below in
    let next = next_edge i.0 i.1 x now.fit.held refl c.head-head.ensures.0 c.count.ensures.is c.first_edge-from.ensures.0
    c.loop-j.auto.j c.loop-j-test.true in
    let met = alike_met now next e (rw i.2 at c.met_before.ensures c.if-met_before.true) in
    let first = event_next _ _ _ _ c.loop-j-test.true e in
    (meeting_next i.0 first met, passed-next i.0 i.1 e first met, i.2)

pub meet_edge-requires : goal.meet_edge-requires
meet_edge-requires c =
    let i = c.loop-j.invariant in
    let e = rw i.2 at c.edge-edge.ensures.is in
    let x = stands c.args.self.now.source.now.ready c.args.self.now.places.fit c.requires.0 in
    let now = stands c.args.self.now.source.now.ready c.loop-j.self.places.fit i.0.below in
    let next = next_edge i.0 i.1 x now.fit.held refl c.head-head.ensures.0 c.count.ensures.is c.first_edge-from.ensures.0
    c.loop-j.auto.j c.loop-j-test.true in
    rw i.2 (i.0.below, read-rest now next e, read_target now next e)

pub returns-in_err-meet_edge : goal.returns-in_err-meet_edge
returns-in_err-meet_edge c =
    let p = err_from_is_err_and c.from_residual.result c.from_residual.ensures.1 in
    let i = c.loop-j.invariant in
    let x = rw i.2 at c.in_err-meet_edge.ensures.grown in
    let first = event_next _ _ _ _ c.loop-j-test.true (rw i.2 at c.edge-edge.ensures.is) in
    rw (p.1, p.2)
    (record { grown = (meeting_over i.0 first x.0, x.1); same_source = c.meet_edge.ensures.same_source ∙ i.2 })

pub loop-j-preserved : goal.loop-j-preserved
loop-j-preserved c =
    let i = c.loop-j.invariant in
    let e = rw i.2 at c.edge-edge.ensures.is in
    let first = event_next _ _ _ _ c.loop-j-test.true e in
    let met = rw i.2 at c.in_ok-meet_edge.ensures.grown in
    (meeting_next i.0 first met, passed-next i.0 i.1 e first met, c.meet_edge.ensures.same_source ∙ i.2)

pub returns : goal.returns
returns c =
    let l = c.loop-j in
    let t = c.args.self.now.source.now.table in
    record {
      grown = meeting_end l.invariant.0 (events_end t.bytes.now t.states _ l.j (omega arith));
      same_source = l.invariant.2;
    }
