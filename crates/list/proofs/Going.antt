-- The run in parts, over an accepted image.
--   Fine, fine          the image is accepted, with its counts
--   part_accepted       a part is not refused: it is the run over what is left of the log
--   Going               what holds before each part: where it stands, and the failure steps so far
--   going_start, going_on, going_end  at the first event; after a part, which took at least one; after the last
-- Assumes nothing.
use mathlib.Core.Path.{◌≡◌, refl, sym, ap, ◌∙◌, subst}
use mathlib.Core.List.{List, []}
use Prim.Native.Nat.{ℕ, suc, ◌+◌, ◌≤◌, ◌<◌}
use native.Mathlib.Omega.{arith}
use lib.ListN.{length, drop, get_or, length-drop}
use lib.Seq.{drop-length, drop-cons, drop-drop}
use lib.Dec.{lit≤}
use borrow.Author.Tests.{lt-leb, le-ltb}
use Rattle.meaning.specs.Answer.{Answer, accepted, refused}
use Rattle.meaning.specs.Questions.{Image, Levels}
use Rattle.meaning.specs.Walk.{Stand, walk}
use Rattle.meaning.specs.Records.{Outcome, run}
use Rattle.meaning.proofs.Run.{run_taken, run-below, run_left}
use Rattle.image.specs.Rules.{check_image}
use Rattle.image.specs.Questions.{questions}
use Rattle.image.specs.Calls.{places_in, run_told, run_answer}
use Rattle.image.proofs.Accepted.{facts, accepted_levels}
use Rattle.image.proofs.Judged.{first_accepted}
use Rattle.image.proofs.Laws.{accepted_steps, accepted_moves}
use Rattle.list.specs.Part.{part_answer, Parted, steps_over, taken_in, place_in, steps_in}
use Rattle.list.specs.declared.Part.{Part}
use Rattle.list.proofs.Parts.{accepted_zeros, part_room, outcome_at}

pub record Fine (image : List ℕ) : Type 0 where
  pub places : ℕ
  pub edges : ℕ
  pub is : check_image image ≡ accepted places edges 0 0
  pub count : (questions image).count ≡ places
  pub told : places_in (check_image image) ≡ places

pub fine : (image : List ℕ) → 0 < places_in (check_image image) → Fine image
fine image h = go (check_image image) refl
  where
    go : (a : Answer) → check_image image ≡ a → Fine image
    go (refused n p) e = absurd (let w : ⊥ = omega (arith, ap places_in e) in w)
    go (accepted q t a b) e =
        let z = accepted_zeros image q t a b e in
        record {
          places = _;
          edges = _;
          is = z;
          count = ap (λ (M : Image). M.count) (facts image _ _ 0 0 z).counts;
          told = ap places_in z;
        }

module _ (image : List ℕ) (some : 0 < places_in (check_image image)) (log : List ℕ) (short : length log ≤ 32768) where
  abbrev M : Image
  M = questions image

  F : Fine image
  F = fine image some

  levels : Levels M
  levels = accepted_levels image _ _ 0 0 F.is

  pub part_accepted : (p at : ℕ) → p < places_in (check_image image) → at ≤ length log
      → part_answer image p log at ≡ run_told (outcome_at image p log at)
  unfolding part_answer run_answer
  part_accepted p at below within =
      let l : p < F.places = omega (arith, F.told) in
      let h : at + length (drop at log) ≤ 4294967295 = rw length-drop (omega arith) in
      first_accepted image _ _ _ (sym F.is) ∙ rw (
        lt-leb F.places p l,
        le-ltb 4294967295 (at + length (drop at log)) h,
        part_room image p log at,
      )

  pub record Going (at p steps : ℕ) : Type 0 where
    pub within : at ≤ length log
    pub below : p < places_in (check_image image)
    pub counted : steps + (walk M p (drop at log)).failed ≡ steps_over image log
    pub few : steps + M.level p ≤ at

  pub going_start : Going 0 0 0
  unfolding steps_over
  going_start =
      record { within = omega arith; below = some; counted = omega arith; few = omega (arith, levels.zero-level) }

  module _ (at p steps : ℕ) (g : Going at p steps) where
    abbrev here : Outcome
    here = outcome_at image p log at

    low : p < M.count
    low = omega (arith, F.count, F.told, g.below)

    -- a part takes at least one event
    moves : at < length log → 0 < here.taken
    moves h =
        subst (λ (l : List ℕ). 0 < (run M 1023 at p l).taken) (sym (drop-cons log at 0 h))
        (accepted_moves image _ _ 0 0 F.is 1023 at p (get_or log at 0) (drop (suc at) log)
        (omega (arith, F.told, g.below)) (lit≤ tt))

    went : Going (at + here.taken) here.place (steps + here.steps)
    went =
        let b = run-below M levels 1023 at p (drop at log) low in
        let w : (walk M p (drop at log)).failed
        ≡ here.steps + (walk M here.place (drop (at + here.taken) log)).failed =
        ap (λ (s : Stand). s.failed) (run_left M 1023 at p (drop at log))
        ∙ ap (λ (l : List ℕ). here.steps + (walk M here.place l).failed) (drop-drop here.taken at log) in
        record {
          within = omega (arith, run_taken M 1023 at p (drop at log), length-drop at log, g.within);
          below = omega (arith, b, F.count, F.told);
          counted = omega (arith, w, g.counted);
          few = omega (
            arith,
            g.few,
            accepted_steps image _ _ 0 0 F.is 1023 at p (drop at log) (omega (arith, F.told, g.below)),
          );
        }

    pub going_on : {text text' : List ℕ} {r : Part} → at < length log → Parted image p log at text text' r
        → (at < at + r.taken) × Going (at + r.taken) r.place (steps + r.steps)
    going_on {r = r} h d =
        let a = part_accepted p at g.below g.within in
        let i : r.taken ≡ here.taken = d.taken ∙ ap taken_in a in
        let to : r.place ≡ here.place = d.place ∙ ap place_in a in
        let s : r.steps ≡ here.steps = d.steps ∙ ap steps_in a in
        (omega (arith, moves h, i), rw (i, to, s) went)

    pub going_end : length log ≤ at → steps ≡ steps_over image log
    going_end h =
        let e : at ≡ length log = omega (arith, g.within) in
        let n : drop at log ≡ [] = ap (λ (k : ℕ). drop k log) e ∙ drop-length log in
        omega (arith, g.counted, ap (λ (l : List ℕ). (walk M p l).failed) n)
