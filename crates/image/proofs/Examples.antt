-- Book A's image: accepted; edits of one byte with what refuses each; its runs, by computation.
-- Assumes nothing.
use mathlib.Core.Path.{◌≡◌, refl}
use mathlib.Core.List.{List, [], ◌∷◌}
use Prim.Native.Nat.{ℕ}
use lib.ListN.{set, replicate}
use Rattle.meaning.specs.Answer.{Answer, accepted, refused}
use Rattle.meaning.specs.Walk.{next}
use Rattle.meaning.specs.Records.{records_within, records_at, run}
use Rattle.image.specs.Form.{place_at, edge_at, trailer_of, has_letters}
use Rattle.image.specs.Rules.{trailer_right, start_right, other_right, place_right, places_fault, edge_right}
use Rattle.image.specs.Rules.{events_fault, edges_fault}
use Rattle.image.specs.Rules.{image_rules, check_image}
use Rattle.image.specs.Questions.{seek}
use Rattle.image.specs.Calls.{checked_first, fallback_in, level_in, edge_in, next_in, run_answer, run_memory, list_bytes}

-- six places, six edges, the trailer
unfoldable pub image_a : List ℕ
image_a =
    0 ∷ 0 ∷ 2 ∷ 0 ∷ 0 ∷ 0 ∷ 0 ∷ 0 ∷ 0 ∷ 0 ∷ 0 ∷ 0 ∷ 0 ∷ 0 ∷ 2 ∷ 0 ∷ 1 ∷ 0 ∷ 0 ∷ 0 ∷ 1 ∷ 0 ∷ 1 ∷ 0 ∷ 0 ∷ 0 ∷ 0 ∷ 0
    ∷ 3 ∷ 0 ∷ 1 ∷ 0 ∷ 0 ∷ 0 ∷ 1 ∷ 0 ∷ 2 ∷ 0 ∷ 0 ∷ 0 ∷ 0 ∷ 0 ∷ 4 ∷ 0 ∷ 1 ∷ 0 ∷ 2 ∷ 0 ∷ 2 ∷ 0 ∷ 3 ∷ 0 ∷ 0 ∷ 0 ∷ 0 ∷ 0
    ∷ 5 ∷ 0 ∷ 1 ∷ 0 ∷ 0 ∷ 0 ∷ 2 ∷ 0 ∷ 3 ∷ 0 ∷ 0 ∷ 0 ∷ 0 ∷ 0 ∷ 6 ∷ 0 ∷ 0 ∷ 0 ∷ 0 ∷ 0 ∷ 3 ∷ 0 ∷ 4 ∷ 0 ∷ 5 ∷ 0 ∷ 5 ∷ 0
    ∷ 33 ∷ 0 ∷ 1 ∷ 0 ∷ 49 ∷ 0 ∷ 2 ∷ 0 ∷ 49 ∷ 0 ∷ 3 ∷ 0 ∷ 34 ∷ 0 ∷ 4 ∷ 0 ∷ 65 ∷ 0 ∷ 5 ∷ 0 ∷ 65 ∷ 0 ∷ 5 ∷ 0
    ∷ 120 ∷ 0 ∷ 0 ∷ 0 ∷ 6 ∷ 0 ∷ 6 ∷ 0 ∷ 1 ∷ 0 ∷ 83 ∷ 77 ∷ []

record Edit : Type 0 where
  at : ℕ
  byte : ℕ
  answer : Answer

abbrev edit : ℕ → ℕ → Answer → Edit
edit i b c = record { at = i; byte = b; answer = c }

edits : List Edit
edits =
    -- the image as it is, and a byte that may differ: a head, a level that is still above its fallback's
    edit 0 0 (accepted 6 6 0 0)
    ∷ edit 22 7 (accepted 6 6 0 0)
    -- 17: distance, counts, form, letters
    ∷ edit 108 7 (refused 17 0)
    ∷ edit 112 3 (refused 17 0)
    ∷ edit 114 7 (refused 17 0)
    ∷ edit 116 2 (refused 17 0)
    ∷ edit 119 66 (refused 17 0)
    -- 18: a wrong first edge shows at its own record, a wrong count at the next one, the last place's past them all
    ∷ edit 14 6 (refused 18 14)
    ∷ edit 16 2 (refused 18 28)
    ∷ edit 72 255 (refused 18 84)
    -- 18: a zero byte; place 0 marked; a head of 512 and more; a fallback not lower; a level; a link
    ∷ edit 13 3 (refused 18 0)
    ∷ edit 12 1 (refused 18 0)
    ∷ edit 51 2 (refused 18 42)
    ∷ edit 46 3 (refused 18 42)
    ∷ edit 48 1 (refused 18 42)
    ∷ edit 80 2 (refused 18 70)
    ∷ edit 82 0 (refused 18 70)
    -- 19: a zero byte; an event not above the one before; a target 0, past the places, too high a level
    ∷ edit 85 1 (refused 19 84)
    ∷ edit 88 33 (refused 19 88)
    ∷ edit 86 0 (refused 19 84)
    ∷ edit 86 6 (refused 19 84)
    ∷ edit 86 5 (refused 19 84)
    ∷ []

expected : List Edit → List Answer
expected [] = []
expected (e ∷ es) = e.answer ∷ expected es

checked : List Edit → List Answer
checked [] = []
checked (e ∷ es) = check_image (set image_a e.at e.byte) ∷ checked es

edits_right : checked edits ≡ expected edits
unfolding image_a edits expected checked check_image image_rules place_at edge_at trailer_of has_letters trailer_right
    start_right other_right place_right places_fault edge_right events_fault edges_fault
edits_right = refl

-- nothing, and the letters alone
short_right : (check_image [] ≡ refused 17 0) × (check_image (83 ∷ 77 ∷ []) ≡ refused 17 0)
unfolding check_image image_rules place_at edge_at trailer_of has_letters trailer_right
short_right = (refl, refl)

-- ---- questions of the image as it was opened, with six places
asked_A :
    (fallback_in image_a 6 3 ≡ accepted 2 0 0 0)
    × (level_in image_a 6 3 ≡ accepted 2 0 0 0)
    × (edge_in image_a 6 3 65 ≡ accepted 1 5 0 0)
    × (edge_in image_a 6 3 34 ≡ accepted 0 0 0 0)
    × (fallback_in image_a 6 6 ≡ refused 20 0)
unfolding image_a fallback_in level_in edge_in place_at edge_at seek
asked_A = (refl, refl, refl, refl, refl)

-- place 3 has no edge on 22: one failure step to place 2, and on to place 4 with level 2
next_A : (next_in image_a 6 3 34 ≡ accepted 4 2 1 0) × (next_in image_a 6 6 34 ≡ refused 20 0)
unfolding image_a next_in next place_at edge_at seek
next_A = (refl, refl)

-- ---- runs: 21 31 22 41 has one record, end 4, length 3, mark 5, and 1 step; without room it stops before the last event
runs_A :
    (run_answer image_a 0 0 (33 ∷ 49 ∷ 34 ∷ 65 ∷ []) (replicate 10 9) ≡ accepted 4 5 1 1)
    × (run_memory image_a 0 0 (33 ∷ 49 ∷ 34 ∷ 65 ∷ []) (replicate 10 9) ≡ 4 ∷ 0 ∷ 0 ∷ 0 ∷ 3 ∷ 0 ∷ 5 ∷ 0 ∷ 9 ∷ 9 ∷ [])
    × (run_answer image_a 0 0 (33 ∷ 49 ∷ 34 ∷ 65 ∷ []) (replicate 7 9) ≡ accepted 3 4 0 1)
    × (run_answer image_a 0 0 (49 ∷ 34 ∷ 34 ∷ 65 ∷ []) (replicate 10 9) ≡ accepted 4 0 0 1)
    × (run_answer image_a 0 0 [] [] ≡ accepted 0 0 0 0)
    × (run_answer image_a 6 4294967295 (33 ∷ []) [] ≡ refused 20 0)
    × (run_answer image_a 5 4294967295 (33 ∷ []) [] ≡ refused 21 0)
unfolding image_a run_answer run_memory list_bytes checked_first image_rules place_at edge_at trailer_of has_letters trailer_right
    start_right other_right place_right places_fault edge_right events_fault edges_fault
    seek next records_within records_at run
runs_A = (refl, refl, refl, refl, refl, refl, refl)
