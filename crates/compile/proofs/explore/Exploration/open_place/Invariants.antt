-- `open_place` meets its contract: the events that are left are still to be met, and those before them are. Assumes
-- nothing.
use Prim.Native.Nat.{◌-◌}
use Rattle.meaning.specs.Book.{delta, outs}
use Rattle.meaning.specs.Places.{opened}
use Rattle.book.proofs.Model.{events_from}
use mathlib.Core.Path.{◌≡◌}
use Rattle.compile.specs.Exploring.{book_of, rows_in, count_of, chain_in, list_in}
use Rattle.compile.proofs.Opening.{Meeting}
use Rattle.compile.proofs.Alike.{Passed}
use Rattle.compile.proofs.explore.Exploration.open_place.Given as goal

abbrev pub invariant-loop-j : goal.invariant-loop-j
invariant-loop-j l =
    let old = l.initial.self in
    let B = book_of old in
    let t = old.source.now.table.bytes.now in
    let S = old.source.now.table.states in
    Meeting B l.p (chain_in old l.p) (opened (delta B) (outs B) l.p (list_in old))
    (events_from t S (l.j-end - l.j) l.j) (rows_in l.self) (count_of l.self)
    × Passed t S (chain_in old l.p) l.from l.j (rows_in l.self) (count_of l.self)
    × (l.self.source ≡ old.source)
