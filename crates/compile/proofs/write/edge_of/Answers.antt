use mathlib.Core.Path.{◌≡◌}
use Prim.Native.Nat.{◌+◌, ◌/◌}
use native.Mathlib.Omega.{arith}
use Rattle.std.proofs.Common.{Less, Equal, Greater}
use Rattle.std.proofs.lemmas.Cmp.{ranked}
use Rattle.book.proofs.Look.{narrowed_up, narrowed_down}
use Rattle.compile.proofs.Reading.{edges_rise, edges_some, edges_none}
use Rattle.compile.proofs.write.edge_of.Goals as goal

pub returns-in-Equal : goal.returns-in-Equal
returns-in-Equal c =
    edges_some c.args.source.now.ready c.requires c.count-left.ensures.is c.first_edge-from.ensures.0 c.loop-left.low
    c.loop-left.invariant c.loop-left-test.true c.event.ensures.is (ranked _ _ Equal c.in-Equal.ensures)

pub loop-left-preserved-in-Less : goal.loop-left-preserved-in-Less
loop-left-preserved-in-Less c =
    let l = c.loop-left in
    let from = c.first_edge-from.result in
    let up : from + (l.low + (l.left / 2 + 1)) ≡ from + l.low + (l.left / 2 + 1) = omega arith in
    rw up (narrowed_up l.invariant c.loop-left-test.true
    (edges_rise c.args.source.now.ready c.requires c.count-left.ensures.is c.first_edge-from.ensures.0) _
    c.event.ensures.is (ranked _ _ Less c.in-Less.ensures))

pub loop-left-preserved : goal.loop-left-preserved
loop-left-preserved c =
    narrowed_down c.loop-left.invariant c.loop-left-test.true
    (edges_rise c.args.source.now.ready c.requires c.count-left.ensures.is c.first_edge-from.ensures.0) _
    c.event.ensures.is (ranked _ _ Greater c.in-Greater.ensures)

pub returns : goal.returns
returns c =
    edges_none c.args.source.now.ready c.requires c.count-left.ensures.is c.first_edge-from.ensures.0 c.args.event _
    c.loop-left.invariant (omega arith)
