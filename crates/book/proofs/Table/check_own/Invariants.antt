-- `check_own` meets its contract, whatever rule is asked: the search from the first edge is the search from here
-- (`EdgeLoop`). Assumes nothing.
use mathlib.Core.Path.{◌≡◌}
use mathlib.Core.Bool.{Bool}
use Rattle.std.specs.Prelude.{Option}
use Prim.Native.Nat.{ℕ}
use Rattle.book.specs.declared.EdgeRecord.{EdgeRecord}
use Rattle.book.proofs.Turn.{EdgeLoop}
use Rattle.book.proofs.Table.check_own.Given as goal

abbrev pub invariant-loop-j : goal.invariant-loop-j
invariant-loop-j g l =
    (rule : ℕ → EdgeRecord → Option ℕ → Bool)
    → ((s : ℕ) (e : EdgeRecord) (before : Option ℕ) (b : Bool) → goal.F-post g l.breaks s e before b → b ≡ rule s e before)
    → EdgeLoop rule l.self.bytes.now l.self.states l.s l.first l.count l.j l.before
