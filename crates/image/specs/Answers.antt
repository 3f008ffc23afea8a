-- The numbers of each answer, in the order in which document 01 names them. Those of a refusal: `told` of meaning.
--   told_checked        places and edges
--   told_asked          the number asked for
--   told_edged          whether there is an edge, and its target
--   told_walked         place, level, failure steps
--   ran_told, told_ran  events taken, place, records, failure steps
use Rattle.std.specs.Prelude.{ℕ, Option, Result}
use Rattle.meaning.specs.Answer.{Answer, accepted}
use Rattle.meaning.specs.Refusal.{told}
use Rattle.meaning.specs.declared.Refusal.{Refusal}
use Rattle.image.specs.Calls.{edge_told}
use Rattle.image.specs.declared.Counts.{Counts}
use Rattle.image.specs.declared.Walk.{Walk}
use Rattle.image.specs.declared.Ran.{Ran}

abbrev pub told_checked : Result Counts Refusal → Answer
told_checked = told (λ c. accepted c.places c.edges 0 0)

abbrev pub told_asked : Result ℕ Refusal → Answer
told_asked = told (λ x. accepted x 0 0 0)

abbrev pub told_edged : Result (Option ℕ) Refusal → Answer
told_edged = told edge_told

abbrev pub told_walked : Result Walk Refusal → Answer
told_walked = told (λ w. accepted w.place w.level w.steps 0)

abbrev pub ran_told : Ran → Answer
ran_told r = accepted r.taken r.place r.records r.steps

abbrev pub told_ran : Result Ran Refusal → Answer
told_ran = told ran_told
