-- `image::questions::Asked::moved` meets its contract. The loop carries the walk with the fallbacks left: the turns of
-- `Asking`.
-- Assumes nothing.
use Rattle.image.proofs.Asking.{Trying}
use Rattle.image.specs.Questions.{questions_at}
use Rattle.image.specs.Form.{form1}
use Prim.Native.Nat.{◌-◌, ◌<◌}
use Rattle.image.proofs.questions.Asked.moved.Given as goal

abbrev pub invariant-loop-j : goal.invariant-loop-j
invariant-loop-j l =
    (l.p < 4294967296)
    × Trying (questions_at form1 l.self.bytes.now l.self.places) l.place l.event l.p (l.place - l.steps) l.steps

abbrev pub decreases-loop-j : goal.decreases-loop-j
decreases-loop-j l = l.place - l.steps
