-- `seek` meets its contract (`SeekLoop`), whatever table its edges are of. Assumes nothing.
use mathlib.Core.Path.{◌≡◌}
use mathlib.Core.List.{List}
use Prim.Native.Nat.{ℕ}
use Rattle.book.specs.Form.{edge_record_at}
use Rattle.book.specs.declared.EdgeRecord.{EdgeRecord}
use Rattle.book.proofs.Look.{SeekLoop}
use Rattle.book.proofs.seek.Given as goal

abbrev pub invariant-loop-j : goal.invariant-loop-j
invariant-loop-j g l =
    (t : List ℕ) (S : ℕ) → ((j : ℕ) (e : EdgeRecord) → goal.F-post g l.edge j e → e ≡ edge_record_at t S j)
    → SeekLoop t S l.event l.first l.count l.j
