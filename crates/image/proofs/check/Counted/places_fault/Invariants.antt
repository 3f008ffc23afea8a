-- `image::check::Counted::places_fault` meets its contract. The loop carries that what is left of the scan is the
-- whole scan.
-- Assumes nothing.
use Rattle.image.specs.Rules.{places_fault}
use Rattle.image.specs.Form.{form1, place_at}
use mathlib.Core.Path.{◌≡◌}
use Prim.Native.Nat.{◌*◌, ◌-◌, ◌≤◌}
use Rattle.image.proofs.check.Counted.places_fault.Given as goal

abbrev pub invariant-loop-p : goal.invariant-loop-p
invariant-loop-p l =
    let P = place_at form1 l.self.bytes.now in
    (l.sum ≤ 65536 * l.p)
    × (places_fault P l.self.edges l.self.places 0 0 ≡ places_fault P l.self.edges (l.self.places - l.p) l.p l.sum)
