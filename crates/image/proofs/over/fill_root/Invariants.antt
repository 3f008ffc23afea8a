-- `image::over::fill_root` meets its contract. The loop carries the table of the edges passed: a turn of `Tables`.
-- Assumes nothing.
use Rattle.image.proofs.Tables.{Filling}
use Rattle.image.specs.Form.{form1, place_at, edge_at}
use Prim.Native.Nat.{◌+◌}
use Rattle.image.proofs.over.fill_root.Given as goal

abbrev pub invariant-loop-j : goal.invariant-loop-j
invariant-loop-j l =
    let xs = l.image.bytes.now in
    Filling (edge_at form1 xs l.image.places) l.j-start (l.j-start + (place_at form1 xs 0).count) l.j l.root
