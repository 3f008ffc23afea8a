-- `image::over::Runner::carry` meets its contract. The loop carries that the run comes to the same: the turns of `Turn`.
-- Assumes nothing.
use Rattle.meaning.specs.Choice.{when}
use Rattle.image.specs.Held.{Carried}
use Rattle.image.specs.Sought.{questions_of}
use Prim.Native.Nat.{◌+◌, ◌-◌}
use Rattle.image.proofs.over.Runner.carry.Given as goal

abbrev pub invariant-loop-g : goal.invariant-loop-g
invariant-loop-g g l =
    Carried (questions_of l.self.image) l.self.room l.self.base l.self.log.now l.initial.out l.initial.g l.out l.g

-- a turn without room takes no event, and is the last
abbrev pub decreases-loop-g : goal.decreases-loop-g
decreases-loop-g g l = l.until - l.g.taken + when l.g.full 0 1
