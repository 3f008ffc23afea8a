-- `image::lookup::Edges::linear` meets its contract. The loop carries that the edges left are searched.
-- Assumes nothing.
use Rattle.image.specs.Questions.{seek}
use Rattle.image.specs.Form.{form1, edge_at}
use mathlib.Core.Path.{◌≡◌}
use Prim.Native.Nat.{◌+◌, ◌-◌}
use Rattle.image.proofs.lookup.Edges.linear.Given as goal

abbrev pub invariant-loop-j : goal.invariant-loop-j
invariant-loop-j g l =
    let E = edge_at form1 (g.B.Bytes.list l.self.bytes) l.self.places in
    seek E l.event l.self.count l.self.first ≡ seek E l.event (l.self.first + l.self.count - l.j) l.j
