-- `check_edges` meets its contract, whatever rule is asked: the search from state 0 is the search from here (`OwnLoop`).
-- Assumes nothing.
use mathlib.Core.Path.{◌≡◌}
use mathlib.Core.Bool.{Bool}
use Rattle.std.specs.Prelude.{Option}
use Prim.Native.Nat.{ℕ, ◌*◌, ◌≤◌}
use Rattle.book.specs.declared.EdgeRecord.{EdgeRecord}
use Rattle.book.proofs.Turn.{OwnLoop}
use Rattle.book.proofs.Table.check_edges.Given as goal

abbrev pub invariant-loop-s : goal.invariant-loop-s
invariant-loop-s g l =
    (l.first ≤ 65536 * l.s)
    × ((rule : ℕ → EdgeRecord → Option ℕ → Bool)
    → ((s : ℕ) (e : EdgeRecord) (before : Option ℕ) (b : Bool) → goal.F-post g l.breaks s e before b → b ≡ rule s e before)
    → OwnLoop rule l.self.bytes.now l.self.states l.s l.first)
