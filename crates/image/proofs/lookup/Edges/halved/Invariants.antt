-- `image::lookup::Edges::halved` meets its contract. The loop carries that the edges left are searched and rise: a turn
-- of `Seek`.
-- Assumes nothing.
use Rattle.image.specs.Held.{Rising}
use Rattle.image.specs.Questions.{seek}
use Rattle.image.specs.Form.{form1, edge_at}
use mathlib.Core.Path.{◌≡◌}
use Prim.Native.Nat.{◌+◌, ◌≤◌, ◌<◌}
use Rattle.image.proofs.lookup.Edges.halved.Given as goal

abbrev pub invariant-loop-left : goal.invariant-loop-left
invariant-loop-left g l =
    let E = edge_at form1 (g.B.Bytes.list l.self.bytes) l.self.places in
    (l.j + l.left ≤ l.self.first + l.self.count) × (0 < l.left) × Rising E l.j l.left ×
    (seek E l.event l.self.count l.self.first ≡ seek E l.event l.left l.j)

abbrev pub decreases-loop-left : goal.decreases-loop-left
decreases-loop-left g l = l.left
