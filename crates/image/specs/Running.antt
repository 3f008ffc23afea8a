-- The clauses of a run's methods, with what stays the same in a run taken from its struct.
--   ReadyIn             what a walk on from a stand asks for
--   CarriedIn, CarriedInTo  from one stand to the next, what the run comes to is the same
--   LeadsIn             a move is that of the event, from its place
use Rattle.std.specs.Prelude.{List, ℕ}
use Rattle.meaning.specs.Walk.{next}
use Rattle.image.specs.Held.{MovedIs, Ready, Carried, CarriedTo}
use Rattle.image.specs.Sought.{questions_of}
use Rattle.image.specs.declared.Going.{Going}
use Rattle.image.specs.declared.Moved.{Moved}
use Rattle.image.specs.declared.over.Runner.{Runner}

abbrev pub ReadyIn : Runner → List ℕ → Going → Type 0
ReadyIn r out g = Ready (questions_of r.image) r.room r.base r.log.now out g

abbrev pub CarriedIn : Runner → List ℕ → Going → List ℕ → Going → Type 0
CarriedIn r out g out' g' = Carried (questions_of r.image) r.room r.base r.log.now out g out' g'

abbrev pub CarriedInTo : Runner → ℕ → List ℕ → Going → List ℕ → Going → Type 0
CarriedInTo r until out g out' g' = CarriedTo (questions_of r.image) r.room r.base r.log.now until out g out' g'

abbrev pub LeadsIn : Runner → ℕ → ℕ → Moved → Type 0
LeadsIn r p a m = MovedIs (next (questions_of r.image) p a) r.image.places p m
