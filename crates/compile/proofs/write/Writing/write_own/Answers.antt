use native.Mathlib.Omega.{arith}
use Rattle.compile.proofs.Reading.{known_kept, owning_same, edges_own, edges_at}
use Rattle.compile.proofs.Records.{owning_start, owning_next, owning_end}
use Rattle.compile.proofs.write.Writing.write_own.Goals as goal

pub loop-i-init : goal.loop-i-init
loop-i-init c = owning_start c.args.self.now.numbered _ _ _ c.requires.0.below

pub after-requires : goal.after-requires
after-requires c =
    let below = c.requires.0.below in (
      record {
        below = below;
        known =
            known_kept c.args.self.now.numbered c.requires.0.known (omega arith) c.requires.1
            (owning_same c.loop-i.invariant);
        starts = c.requires.0.starts;
      },
      c.edge-edge.ensures.event,
      edges_own c.args.self.now.source.now.ready c.head-head.ensures.1 c.count-count.ensures.is c.first_edge-from.ensures.0
          c.head-head.ensures.0 c.loop-i-test.true c.edge-edge.ensures.is,
    )

pub loop-i-preserved : goal.loop-i-preserved
loop-i-preserved c =
    owning_next c.args.self.now.numbered c.loop-i.invariant c.requires.0.below
    (edges_at c.args.self.now.source.now.ready c.head-head.ensures.1 c.count-count.ensures.is c.first_edge-from.ensures.0
    c.head-head.ensures.0 c.loop-i-test.true c.edge-edge.ensures.is)
    c.after.ensures c.write.ensures

pub returns : goal.returns
returns c =
    owning_end c.args.self.now.numbered c.loop-i.invariant c.requires.0.below c.head-head.ensures.0 c.count-count.ensures.is
    c.loop-i.auto.i-end c.loop-i-test.false
