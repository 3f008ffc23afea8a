-- THE LIST IS WHOLE. Over an accepted image, the text of a part and then that of what is left is the text of it all; and
-- a part's text fits its buffer, so that nothing is cut.
--   Small               a record's numbers, as bytes hold them
--   records-small       those of a run
--   part_records_lem    the records that a part reads back are the run's
--   part_fits           23,529 bytes hold the lines of a part; part_text_lem: so they stand whole in the buffer
--   part_then           the listing of what is left: this part, and then what is left after it
--   nothing_left        past the last event nothing is left
-- Assumes nothing.
use mathlib.Core.Path.{◌≡◌, refl, ap, ◌∙◌}
use mathlib.Core.List.{List, [], ◌∷◌, ◌++◌, map}
use Prim.Native.Nat.{ℕ, zero, suc, ◌+◌, ◌*◌, ◌≤◌, ◌<◌}
use native.Mathlib.Omega.{arith}
use lib.ListN.{length, take, drop, get_or, length-append, length-drop}
use lib.Seq.{sets, sets-eq, take_at, drop-length, drop-drop, length-take-le}
use lib.Dec.{eqb}
use Rattle.meaning.specs.Questions.{Image}
use Rattle.meaning.specs.Walk.{next}
use Rattle.meaning.specs.Records.{Record, records_within, records_at, Outcome, run}
use Rattle.meaning.proofs.Cases.{by_bool}
use Rattle.meaning.proofs.Run.{listing, run_records, run_room, run_taken, run-listing}
use Rattle.image.specs.Form.{place_at}
use Rattle.image.specs.Rules.{check_image}
use Rattle.image.specs.Questions.{questions}
use Rattle.image.specs.Calls.{places_in, run_told, run_answer, list_bytes, run_memory}
use Rattle.lists.specs.Whole.{joined, decoded}
use Rattle.lists.specs.Group.{group_of}
use Rattle.lists.specs.Listing.{line_of, event_number, lines_text}
use Rattle.lists.proofs.Wrote.{wrote_start}
use Rattle.lists.proofs.Whole.{bytes_of, Fitting, decoded_bytes}
use Rattle.lists.proofs.Lines.{lines_append, line_length}
use Rattle.list.specs.Part.{no_records, part_answer, part_records, part_text, Parted}
use Rattle.list.specs.declared.Part.{Part}
use Rattle.list.proofs.Parts.{room_is, part_room, outcome_at}
use Rattle.list.proofs.Going.{part_accepted}

abbrev Small : List Record → Type 0
Small [] = Unit {0}
Small (r ∷ rs) = (r.end < 4294967296) × (r.length < 65536) × (r.mark < 256) × Small rs

small_append : (rs ss : List Record) → Small rs → Small ss → Small (rs ++ ss)
small_append [] ss v w = w
small_append (r ∷ rs) ss v w = (v.0, v.1, v.2, small_append rs ss v.3 w)

small_fitting : (rs : List Record) → Small rs → Fitting rs
small_fitting [] v = tt
small_fitting (r ∷ rs) v = (v.0, v.1, small_fitting rs v.3)

-- the bytes of a list, in the two ways that they are written
bytes_are : (rs : List Record) → list_bytes rs ≡ joined (map bytes_of rs)
unfolding list_bytes
bytes_are [] = refl
bytes_are (r ∷ rs) = ap (λ (bs : List ℕ). bytes_of r ++ bs) (bytes_are rs)

bytes_length : (rs : List Record) → length (list_bytes rs) ≡ 8 * length rs
unfolding list_bytes
bytes_length [] = refl
bytes_length (r ∷ rs) = omega (arith, length-append (bytes_of r) (list_bytes rs), bytes_length rs)

-- each line has at most 23 bytes
small_lines : (rs : List Record) (log : List ℕ) → Small rs → length (lines_text rs log) ≤ 23 * length rs
unfolding lines_text
small_lines [] log v = omega arith
small_lines (r ∷ rs) log v =
    omega (
      arith,
      length-append (line_of log r) (lines_text rs log),
      line_length r.end r.length r.mark (group_of (event_number log r.end)) v.0 v.1 v.2,
      small_lines rs log v.3,
    )

-- ---- the records of a run, where levels and marks are small
module _ (M : Image) (level : (p : ℕ) → M.level p < 65536) (mark : (p : ℕ) → M.mark p < 256) where
  within_small : (f e p : ℕ) → e < 4294967296 → Small (records_within f M e p)
  unfolding records_within
  within_small zero e p h = tt
  within_small (suc f) e p h =
      by_bool (eqb p 0) (λ z. rw z tt)
      (λ nz.
      let more = within_small f e (M.fallback p) h in
      rw nz (by_bool (eqb (M.mark p) 0) (λ q. rw q more) (λ nq. rw nq (h, level p, mark p, more))))

  listing_small : (e p : ℕ) (t : List ℕ) → e + length t < 4294967296 → Small (listing M e p t)
  unfolding records_at
  listing_small e p [] h = tt
  listing_small e p (a ∷ t) h =
      let to = (next M p a).place in
      small_append (records_at M (suc e) to) (listing M (suc e) to t) (within_small to (suc e) to (omega arith))
      (listing_small (suc e) to t (omega arith))

  run_small : (room e p : ℕ) (log : List ℕ) → e + length log < 4294967296 → Small (run M room e p log).records
  run_small room e p log h =
      let n = (run M room e p log).taken in
      let k = length-take-le n log (run_taken M room e p log) in
      rw (run_records M room e p log)
      (listing_small e p (take n log) (omega (arith, run_taken M room e p log)))

module _ (image : List ℕ) (bytes : (k : ℕ) → get_or image k 0 < 256) where
  level_small : (p : ℕ) → (questions image).level p < 65536
  unfolding place_at
  level_small p = omega (arith, bytes (14 * p + 6), bytes (14 * p + 6 + 1))

  mark_small : (p : ℕ) → (questions image).mark p < 256
  unfolding place_at
  mark_small p = bytes (14 * p + 12)

  module _ (some : 0 < places_in (check_image image)) (log : List ℕ) (short : length log ≤ 32768) (p at : ℕ)
      (below : p < places_in (check_image image)) (within : at ≤ length log) where
    abbrev here : Outcome
    here = outcome_at image p log at

    here_small : Small here.records
    here_small =
        run_small (questions image) level_small mark_small 1023 at p (drop at log) (rw length-drop (omega arith))

    answer : part_answer image p log at ≡ run_told here
    answer = part_accepted image some log short p at below within

    told : run_answer image p at (drop at log) no_records ≡ run_told here
    unfolding part_answer
    told = answer

    -- the buffer holds the run's records from its start on
    left : run_memory image p at (drop at log) no_records ≡ sets no_records 0 (list_bytes here.records)
    unfolding run_memory
    left = rw (told, part_room image p log at)

    pub part_records_lem : part_records image p log at (length here.records) ≡ here.records
    unfolding part_records
    part_records_lem =
        let rs = here.records in
        let room = run_room (questions image) 1023 at p (drop at log) in
        let n = bytes_length rs in
        let s : run_memory image p at (drop at log) no_records ≡ list_bytes rs ++ drop (0 + length (list_bytes rs)) no_records =
        left ∙ sets-eq (list_bytes rs) no_records 0 (omega (arith, room_is)) in
        let t : take (8 * length rs) (run_memory image p at (drop at log) no_records) ≡ list_bytes rs =
        ap (take (8 * length rs)) s ∙ take_at (list_bytes rs) _ (8 * length rs) n in
        ap decoded (t ∙ bytes_are rs) ∙ decoded_bytes rs (small_fitting rs here_small)

    -- the text of a part is the lines of the run's records
    pub part_lines : part_text image p log at (part_answer image p log at) ≡ lines_text here.records log
    part_lines = ap (part_text image p log at) answer ∙ ap (λ (rs : List Record). lines_text rs log) part_records_lem

    pub part_fits : length (part_text image p log at (part_answer image p log at)) ≤ 23529
    part_fits =
        rw part_lines (omega (
          arith,
          small_lines here.records log here_small,
          run_room (questions image) 1023 at p (drop at log),
        ))

    -- NOTHING IS CUT: the buffer's first bytes, which are printed, are the whole text of the part
    pub part_text_lem : (text text' : List ℕ) (r : Part) → 23529 ≤ length text → Parted image p log at text text' r
        → take r.length text' ≡ lines_text here.records log
    part_text_lem text text' r room d =
        wrote_start d.lines (let f = part_fits in omega arith) ∙ part_lines

    -- THE PARTS ARE THE WHOLE: what is left to list is this part, and then what is left after it
    pub part_then : lines_text (listing (questions image) at p (drop at log)) log
        ≡ lines_text here.records log
        ++ lines_text (listing (questions image) (at + here.taken) here.place (drop (at + here.taken) log)) log
    part_then =
        let M = questions image in
        ap (λ (rs : List Record). lines_text rs log)
        (run-listing M 1023 at p (drop at log)
        ∙ ap (λ (l : List ℕ). here.records ++ listing M (at + here.taken) here.place l)
        (drop-drop here.taken at log))
        ∙ lines_append here.records _ log

-- and after the last event nothing is left
pub nothing_left : (image : List ℕ) (log : List ℕ) (p : ℕ)
    → lines_text (listing (questions image) (length log) p (drop (length log) log)) log ≡ []
unfolding lines_text
nothing_left image log p =
    ap (λ (l : List ℕ). lines_text (listing (questions image) (length log) p l) log) (drop-length log)
