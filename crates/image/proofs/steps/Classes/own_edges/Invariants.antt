-- `image::steps::Classes::own_edges` meets its contract. The loop carries the row with the edges passed: a turn of `Rows`.
-- Assumes nothing.
use Rattle.image.specs.Form.{form1, place_at, edge_at}
use Rattle.image.specs.Steps.{Owned}
use Prim.Native.Nat.{◌+◌, ◌-◌, ◌≤◌}
use Rattle.image.proofs.steps.Classes.own_edges.Given as goal

abbrev pub invariant-loop-j : goal.invariant-loop-j
invariant-loop-j l =
    let xs = l.image.bytes.now in
    let end = l.j-start + (place_at form1 xs l.place).count in
    Owned (edge_at form1 xs l.image.places) (end - l.j) l.j l.row l.self.of l.initial.table l.table × (l.j-start ≤ l.j) × (l.j ≤ end)
