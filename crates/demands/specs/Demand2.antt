-- DEMAND 2. Read from the start through the image of an accepted book, an event taken has a record exactly when some ending
-- of the events read so far is a signature of that book, as Mohri's paper on matching with automata defines it. There is one
-- record for each marked book state so reached, with the shortest ending that reaches it.
use Rattle.std.specs.Prelude.{◌≡◌, ◌≢◌, ◌↔◌, ℕ, ◌+◌, ◌≤◌, ◌<◌, take}
use mathlib.Core.List.{List, [], map, Memᴰ}
use Rattle.meaning.specs.Text.{Delta, Marks, events, Ends}
use Rattle.meaning.specs.Chain.{Live, Chain, IsChain}
use Rattle.meaning.specs.Book.{delta, marks}
use Rattle.meaning.specs.Records.{Record, hit, marked, ending_at}
use Rattle.book.specs.Model.{book_of}
use Rattle.demands.specs.Words.{Accepted, Compiled, Ran}

-- rs is the list of the first n events of the log
pub record Listed (δ : Delta) (mark : Marks) (base : ℕ) (log : List ℕ) (n : ℕ) (rs : List Record) : Type 0 where
  -- an event taken has a record exactly when some ending of the events read so far is a signature
  pub ends : (i : ℕ) → 0 < i → i ≤ n → (ending_at (base + i) rs ≢ []) ↔ Ends δ mark (events (take i log))
  -- one for each marked state of the chain, in the chain's order, with its reach
  pub one_each : (i : ℕ) (c : Chain) → 0 < i → i ≤ n → IsChain δ (events (take i log)) c
      → ending_at (base + i) rs ≡ map (λ (x : Live). hit mark (base + i) x) (marked mark c)
  -- and every record is one of an event taken
  pub no_other : (r : Record) → Memᴰ r rs → (i : ℕ) × (0 < i) × (i ≤ n) × (r.end ≡ base + i)

abbrev pub Demand2 : Type 0
Demand2 =
    (xs ys : List ℕ) → Accepted xs → Compiled xs ys
    → (base : ℕ) (log : List ℕ) (n : ℕ) (rs : List Record) → Ran ys base log n rs
    → Listed (delta (book_of xs)) (marks (book_of xs)) base log n rs
