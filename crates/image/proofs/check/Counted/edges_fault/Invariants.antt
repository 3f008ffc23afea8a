-- `image::check::Counted::edges_fault` meets its contract. The loop carries that what is left of the scan is the
-- whole scan, and that the places left are right, so that the edges read are there.
-- Assumes nothing.
use Rattle.image.specs.Rules.{places_fault, edges_fault}
use Rattle.image.specs.Form.{form1, place_at, edge_at}
use Rattle.std.specs.Prelude.{None}
use mathlib.Core.Path.{◌≡◌}
use Prim.Native.Nat.{◌-◌}
use Rattle.image.proofs.check.Counted.edges_fault.Given as goal

abbrev pub invariant-loop-p : goal.invariant-loop-p
invariant-loop-p l =
    let P = place_at form1 l.self.bytes.now in
    let E = edge_at form1 l.self.bytes.now l.self.places in
    (places_fault P l.self.edges (l.self.places - l.p) l.p l.first ≡ None)
    × (edges_fault P E l.self.places l.self.places 0 0
    ≡ edges_fault P E l.self.places (l.self.places - l.p) l.p l.first)
