-- The parts go on until the log is at its end. Assumes nothing.
use Prim.Native.Nat.{◌-◌, ◌≤◌, ◌<◌}
use mathlib.Core.Path.{◌≡◌}
use lib.ListN.{length}
use Rattle.image.specs.Calls.{places_in}
use Rattle.image.specs.Rules.{check_image}
use Rattle.list.proofs.Going.{Going}
use Rattle.list.proofs.print_parts.Given as goal

abbrev pub invariant-loop-at : goal.invariant-loop-at
invariant-loop-at l =
    (length l.text ≡ 23529)
    × ((some : 0 < places_in (check_image l.image)) (short : length l.log ≤ 32768)
    → Going l.image some l.log short l.at l.place l.steps)

abbrev pub decreases-loop-at : goal.decreases-loop-at
decreases-loop-at l = length l.log - l.at
