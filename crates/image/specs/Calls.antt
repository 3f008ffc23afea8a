-- What each call answers. Document 01, "Refusal numbers", "The image", "Runs and lists".
--   place_rules q p      20: a place that an image with q places does not have
--   checked_first xs f   refused by 17 to 19, otherwise what f says of the image's place count
--   places_in, edges_in, opened  the counts that an image is opened with
--   fallback_in, level_in, mark_in, edge_in  the questions, of an image with q places
--   next_in              one event of a walk: place, level, failure steps
--   run_rules, run_answer, run_memory  a run: its refusals, its answer, the record buffer afterwards
--   list_bytes           the bytes of a list of records
use Rattle.std.specs.Prelude.{Option, None, Some}
use Rattle.std.specs.Prelude.{List, [], ◌∷◌, ◌++◌, ℕ, ◌+◌, ◌/◌, length, leb, ltb}
use Rattle.wire.specs.Record.{record_size, record_bytes}
use Rattle.meaning.specs.Answer.{Answer, accepted, refused, Rule, rule, judged, leaving}
use Rattle.meaning.specs.Questions.{Image, edge_of}
use Rattle.meaning.specs.Walk.{Stand, next}
use Rattle.meaning.specs.Records.{Record, Outcome, run}
use Rattle.image.specs.Form.{form_of, trailer_of}
use Rattle.image.specs.Rules.{image_rules, check_image}
use Rattle.image.specs.Questions.{questions_at, questions}

abbrev pub place_rules : ℕ → ℕ → List Rule
place_rules q p = rule 20 (leb q p) 0 ∷ []

unfoldable pub checked_first : List ℕ → (ℕ → Answer) → Answer
checked_first xs f = judged (image_rules (form_of xs) xs) (f (trailer_of (form_of xs) xs).places)

-- the counts that an image is opened with: 0 where it is refused
abbrev pub places_in : Answer → ℕ
places_in (accepted q t c d) = q
places_in (refused n p) = 0

abbrev pub edges_in : Answer → ℕ
edges_in (accepted q t c d) = t
edges_in (refused n p) = 0

abbrev pub opened : List ℕ → ℕ
opened xs = places_in (check_image xs)

-- ---- the questions
unfoldable pub fallback_in : List ℕ → ℕ → ℕ → Answer
fallback_in xs q p = judged (place_rules q p) (accepted ((questions_at (form_of xs) xs q).fallback p) 0 0 0)

unfoldable pub level_in : List ℕ → ℕ → ℕ → Answer
level_in xs q p = judged (place_rules q p) (accepted ((questions_at (form_of xs) xs q).level p) 0 0 0)

unfoldable pub mark_in : List ℕ → ℕ → ℕ → Answer
mark_in xs q p = judged (place_rules q p) (accepted ((questions_at (form_of xs) xs q).mark p) 0 0 0)

-- whether there is an edge, and its target
abbrev pub edge_told : Option ℕ → Answer
edge_told None = accepted 0 0 0 0
edge_told (Some r) = accepted 1 r 0 0

unfoldable pub edge_in : List ℕ → ℕ → ℕ → ℕ → Answer
edge_in xs q p a = judged (place_rules q p) (edge_told (edge_of (questions_at (form_of xs) xs q) p a))

-- ---- a walk
abbrev pub walk_told : Image → Stand → Answer
walk_told M s = accepted s.place (M.level s.place) s.failed 0

unfoldable pub next_in : List ℕ → ℕ → ℕ → ℕ → Answer
next_in xs q p a = let M = questions_at (form_of xs) xs q in judged (place_rules q p) (walk_told M (next M p a))

-- ---- a run
abbrev pub run_rules : ℕ → ℕ → ℕ → ℕ → List Rule
run_rules q p base n = rule 20 (leb q p) 0 ∷ rule 21 (ltb 4294967295 (base + n)) 0 ∷ []

abbrev pub run_told : Outcome → Answer
run_told o = accepted o.taken o.place (length o.records) o.steps

unfoldable pub run_answer : List ℕ → ℕ → ℕ → List ℕ → List ℕ → Answer
run_answer xs p base log out =
    checked_first xs
    (λ q. judged (run_rules q p base (length log)) (run_told (run (questions xs) (length out / record_size) base p log)))

unfoldable pub list_bytes : List Record → List ℕ
list_bytes [] = []
list_bytes (r ∷ rs) = record_bytes r.end r.length r.mark ++ list_bytes rs

unfoldable pub run_memory : List ℕ → ℕ → ℕ → List ℕ → List ℕ → List ℕ
run_memory xs p base log out =
    leaving (run_answer xs p base log out) out
    (list_bytes (run (questions xs) (length out / record_size) base p log).records)
