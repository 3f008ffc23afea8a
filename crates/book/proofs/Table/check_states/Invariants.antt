-- `check_states` meets its contract, whatever rule is asked: the search from state 0 is the search from here (`StateLoop`).
-- Assumes nothing.
use mathlib.Core.Path.{◌≡◌}
use mathlib.Core.Bool.{Bool}
use Prim.Native.Nat.{ℕ}
use Rattle.book.specs.Reads.{EnteredAre}
use Rattle.book.specs.declared.StateRecord.{StateRecord}
use Rattle.book.proofs.Turn.{StateLoop}
use Rattle.book.proofs.Table.check_states.Given as goal

abbrev pub invariant-loop-s : goal.invariant-loop-s
invariant-loop-s g l =
    (rule : ℕ → StateRecord → Bool → Bool)
    → ((s : ℕ) (x : StateRecord) (edge_in b : Bool) → goal.F-post g l.breaks s x edge_in b → b ≡ rule s x edge_in)
    → (E : ℕ) → EnteredAre l.self.bytes.now l.self.states E l.entered
    → StateLoop rule l.self.bytes.now l.self.states E l.s
