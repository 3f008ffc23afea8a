-- One part of the listing: the run goes on over what is left of the log, and the lines of its records are written.
--   no_records          the record buffer before a run: room for 1,023 records
--   part_answer         what the run answers: events taken, place, records, failure steps
--   part_records k      the first k records that it leaves in the buffer
--   part_text           their lines; none where the run is refused
--   Parted              what a part answers and leaves
--   steps_over          the failure steps of the whole log, from place 0
use Rattle.std.specs.Prelude.{◌≡◌, List, [], ℕ, ◌*◌, take, drop, replicate}
use Rattle.meaning.specs.Answer.{Answer, accepted, refused}
use Rattle.meaning.specs.Records.{Record}
use Rattle.meaning.specs.Walk.{walk}
use Rattle.image.specs.Questions.{questions}
use Rattle.image.specs.Calls.{run_answer, run_memory}
use Rattle.lists.specs.Whole.{decoded}
use Rattle.lists.specs.Wrote.{Wrote}
use Rattle.lists.specs.Listing.{lines_text}
use Rattle.list.specs.declared.Part.{Part}

unfoldable pub no_records : List ℕ
no_records = replicate 8184 0

module _ (image : List ℕ) (place : ℕ) (log : List ℕ) (at : ℕ) where
  unfoldable pub part_answer : Answer
  part_answer = run_answer image place at (drop at log) no_records

  unfoldable pub part_records : ℕ → List Record
  part_records k = decoded (take (8 * k) (run_memory image place at (drop at log) no_records))

  abbrev pub part_text : Answer → List ℕ
  part_text (accepted taken to k steps) = lines_text (part_records k) log
  part_text (refused n p) = []

-- events taken, place and failure steps of an answer: 0 for a refusal
abbrev pub taken_in : Answer → ℕ
taken_in (accepted taken to k steps) = taken
taken_in (refused n p) = 0

abbrev pub place_in : Answer → ℕ
place_in (accepted taken to k steps) = to
place_in (refused n p) = 0

abbrev pub steps_in : Answer → ℕ
steps_in (accepted taken to k steps) = steps
steps_in (refused n p) = 0

pub record Parted (image : List ℕ) (from : ℕ) (log : List ℕ) (at : ℕ) (text text' : List ℕ) (r : Part) : Type 0 where
  pub taken : r.taken ≡ taken_in (part_answer image from log at)
  pub place : r.place ≡ place_in (part_answer image from log at)
  pub steps : r.steps ≡ steps_in (part_answer image from log at)
  pub lines : Wrote text 0 (part_text image from log at (part_answer image from log at)) text' r.length

unfoldable pub steps_over : List ℕ → List ℕ → ℕ
steps_over image log = (walk (questions image) 0 log).failed
