use mathlib.Core.Path.{◌≡◌}
use native.Mathlib.Omega.{arith}
use Rattle.compile.proofs.Reading.{known_edges, own_asks}
use Rattle.compile.proofs.Records.{edging_start, edging_next}
use Rattle.compile.proofs.write.Writing.write_edges.Goals as goal

pub write_own-at-requires : goal.write_own-at-requires
write_own-at-requires c =
    let N = c.args.self.now.numbered in
    rw c.count-count.ensures (own_asks N c.requires.0 c.requires.1 (edging_start _ _ _ _) N.held.some_place
    (λ l. absurd (let w : ⊥ = omega arith in w)))

pub start_row-self-requires : goal.start_row-self-requires
start_row-self-requires c =
    let N = c.args.self.now.numbered in
    let some = N.held.some_place in
    let own = rw c.count-count.ensures at c.write_own-at.ensures in
    known_edges N c.requires.0 (edging_next N (edging_start _ _ _ _) some own) (omega arith) c.requires.1

pub loop-p-init : goal.loop-p-init
loop-p-init c =
    let N = c.args.self.now.numbered in
    let own = rw c.count-count.ensures at c.write_own-at.ensures in
    edging_next N (edging_start _ _ _ _) N.held.some_place own

pub write_own-at-requires-in-loop-p : goal.write_own-at-requires-in-loop-p
write_own-at-requires-in-loop-p c =
    let below = rw c.count-count.ensures at c.loop-p-test.true in
    own_asks c.args.self.now.numbered c.requires.0 c.requires.1 c.loop-p.invariant below (λ l. c.start_row-self.ensures)

pub loop-p-preserved : goal.loop-p-preserved
loop-p-preserved c =
    let below = rw c.count-count.ensures at c.loop-p-test.true in
    edging_next c.args.self.now.numbered c.loop-p.invariant below c.write_own-at-in-loop-p.ensures

pub returns : goal.returns
returns c =
    let some = c.args.self.now.numbered.held.some_place in
    let low = c.loop-p-test.false in
    let high = c.loop-p.auto.p-end (omega (arith, c.count-count.ensures)) in
    let end : c.loop-p.p ≡ c.args.self.now.places.now.count = omega (arith, c.count-count.ensures) in
    rw end at c.loop-p.invariant.so_far.is
