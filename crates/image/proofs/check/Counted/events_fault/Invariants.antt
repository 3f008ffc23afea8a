-- `image::check::Counted::events_fault` meets its contract. The loop carries that what is left of the scan is the
-- whole scan.
-- Assumes nothing.
use Rattle.image.specs.Rules.{events_fault}
use Rattle.image.specs.Form.{form1, place_at, edge_at}
use mathlib.Core.Path.{◌≡◌}
use Prim.Native.Nat.{◌+◌, ◌-◌, ◌≤◌}
use Rattle.image.proofs.check.Counted.events_fault.Given as goal

abbrev pub invariant-loop-j : goal.invariant-loop-j
invariant-loop-j l =
    let P = place_at form1 l.self.bytes.now in
    let E = edge_at form1 l.self.bytes.now l.self.places in
    (l.floor ≤ 256)
    × (events_fault P E l.self.places l.level l.count l.first 0
    ≡ events_fault P E l.self.places l.level (l.first + l.count - l.j) l.j l.floor)
