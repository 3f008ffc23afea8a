-- The walk over a log, one event at a time. Assumes nothing.
use mathlib.Core.Path.{◌≡◌}
use mathlib.Core.List.{List}
use Prim.Native.Nat.{ℕ, ◌≤◌, ◌<◌}
use lib.ListN.{length, drop}
use Rattle.stepbench.specs.Sum.{summed}

-- i events are taken, and the rest is summed from here
pub record Summing (xs : List ℕ) (q : ℕ) (log : List ℕ) (p s i : ℕ) : Type 0 where
  pub taken : i ≤ length log
  pub few : s < 4294967296
  pub rest : summed xs q 0 0 log ≡ summed xs q p s (drop i log)
