-- What a part of the run comes to.
--   Ran, ran            a run that is not refused is the run over the questions of an accepted image
--   part_ran            the same of a part
--   part_done, part_refused  what `next_part` answers and leaves
-- Assumes nothing.
use mathlib.Core.Path.{◌≡◌, refl, sym, ap, ◌∙◌}
use mathlib.Core.List.{List}
use Prim.Native.Nat.{ℕ, ◌+◌, ◌*◌, ◌-◌, ◌/◌, ◌≤◌, ◌<◌}
use native.Mathlib.Omega.{arith}
use lib.ListN.{length, take, drop, replicate, length-drop, length-replicate}
use lib.Seq.{take_all}
use lib.Dec.{leb, ltb}
use borrow.Author.Tests.{leb-false, ltb-false}
use Rattle.meaning.specs.Answer.{Answer, accepted, refused, judged}
use Rattle.meaning.specs.Records.{Outcome, run}
use Rattle.meaning.proofs.Cases.{by_bool}
use Rattle.meaning.proofs.Run.{run_room}
use Rattle.image.specs.Form.{form1, trailer_of}
use Rattle.image.specs.Rules.{image_rules, check_image}
use Rattle.image.specs.Questions.{questions}
use Rattle.image.specs.Calls.{run_rules, run_told, run_answer, run_memory}
use Rattle.meaning.proofs.Refused.{refused_accepted}
use Rattle.image.proofs.Judged.{judged_accepted, first_refused, first_accepted}
use Rattle.lists.specs.Wrote.{Wrote}
use Rattle.lists.specs.Whole.{decoded}
use Rattle.lists.specs.Listing.{lines_text}
use Rattle.lists.proofs.Wrote.{wrote_none}
use Rattle.list.specs.Part.{no_records, part_answer, part_records, Parted}

-- an accepted image's other two numbers are 0
pub accepted_zeros : (image : List ℕ) (q t a b : ℕ) → check_image image ≡ accepted q t a b
    → check_image image ≡ accepted (trailer_of form1 image).places (trailer_of form1 image).edges 0 0
unfolding check_image
accepted_zeros image q t a b e = judged_accepted (image_rules form1 image) _ _ _ _ q t a b _ e

module _ (image : List ℕ) (p base : ℕ) (log out : List ℕ) where
  abbrev pub outcome : Outcome
  outcome = run (questions image) (length out / 8) base p log

  pub record Ran (i to k s : ℕ) : Type 0 where
    pub places : ℕ
    pub edges : ℕ
    pub fine : check_image image ≡ accepted places edges 0 0
    pub below : p < places
    pub within : base + length log ≤ 4294967295
    pub told : accepted i to k s ≡ run_told outcome

  pub ran : (i to k s : ℕ) → accepted i to k s ≡ run_answer image p base log out → Ran i to k s
  unfolding run_answer
  ran i to k s e = go (check_image image) refl
    where
      ruled : (q t : ℕ) → check_image image ≡ accepted q t 0 0
          → accepted i to k s ≡ judged (run_rules q p base (length log)) (run_told outcome) → Ran i to k s
      ruled q t f g =
          by_bool (leb q p) (λ over. refused_accepted (sym (rw over at g)))
          (λ under.
          by_bool (ltb 4294967295 (base + length log)) (λ long. refused_accepted (sym (rw (under, long) at g)))
          (λ short.
          record {
            places = q;
            edges = t;
            fine = f;
            below = leb-false q p under;
            within = ltb-false 4294967295 (base + length log) short;
            told = rw (under, short) at g;
          }))

      go : (a : Answer) → check_image image ≡ a → Ran i to k s
      go (refused n r) f = refused_accepted (sym (e ∙ first_refused image _ n r (sym f)))
      go (accepted q t a b) f =
          let z = accepted_zeros image q t a b f in
          ruled _ _ z (e ∙ first_accepted image _ _ _ (sym z))

pub room_is : length no_records ≡ 8184
unfolding no_records
room_is = length-replicate {A = ℕ} 8184 0

module _ (image : List ℕ) (p : ℕ) (log : List ℕ) (at : ℕ) where
  -- the rest of the log, as the code has it
  abbrev pub rest : List ℕ
  rest = take (length log - at) (drop at log)

  rest_is : rest ≡ drop at log
  rest_is = take_all (length log - at) (drop at log) (rw length-drop (omega arith))

  -- what the run that `next_part` calls answers and leaves, in the contract's words
  pub answer_is : (a : Answer) → a ≡ run_answer image p at rest (replicate 8184 0) → a ≡ part_answer image p log at
  unfolding part_answer no_records
  answer_is a e = e ∙ ap (λ (l : List ℕ). run_answer image p at l (replicate 8184 0)) rest_is

  pub records_are : (k : ℕ) (out : List ℕ) → out ≡ run_memory image p at rest (replicate 8184 0)
      → decoded (take (8 * k) out) ≡ part_records image p log at k
  unfolding part_records no_records
  records_are k out e =
      ap (λ (o : List ℕ). decoded (take (8 * k) o))
      (e ∙ ap (λ (l : List ℕ). run_memory image p at l (replicate 8184 0)) rest_is)

  -- the run of a part
  abbrev pub outcome_at : Outcome
  outcome_at = run (questions image) 1023 at p (drop at log)

  pub record PartRan (i to k s : ℕ) : Type 0 where
    pub places : ℕ
    pub edges : ℕ
    pub fine : check_image image ≡ accepted places edges 0 0
    pub below : p < places
    pub taken : i ≡ outcome_at.taken
    pub place : to ≡ outcome_at.place
    pub records : k ≡ length outcome_at.records
    pub steps : s ≡ outcome_at.steps

  pub part_room : length no_records / 8 ≡ 1023
  part_room = omega (arith, room_is)

  pub part_ran : (i to k s : ℕ) → accepted i to k s ≡ part_answer image p log at → PartRan i to k s
  unfolding part_answer
  part_ran i to k s e =
      let r = ran image p at (drop at log) no_records i to k s e in
      let t : accepted i to k s ≡ run_told outcome_at =
      r.told ∙ ap (λ (room : ℕ). run_told (run (questions image) room at p (drop at log))) part_room in
      record {
        places = r.places;
        edges = r.edges;
        fine = r.fine;
        below = r.below;
        taken = cc;
        place = cc;
        records = cc;
        steps = cc;
      }

  -- no more records than there is room for
  pub part_few : (i to k s : ℕ) → accepted i to k s ≡ part_answer image p log at → k ≤ 1023
  part_few i to k s e =
      let r = part_ran i to k s e in omega (arith, r.records, run_room (questions image) 1023 at p (drop at log))

  module _ (text text' : List ℕ) where
    -- what is written stands in the text that was lent
    pub part_done : (i to k s n : ℕ) (out written : List ℕ) → accepted i to k s ≡ part_answer image p log at
        → out ≡ run_memory image p at rest (replicate 8184 0)
        → Wrote text 0 (lines_text (decoded (take (8 * k) out)) log) written n → text' ≡ written
        → Parted image p log at text text' (record { taken = i; place = to; steps = s; length = n })
    part_done i to k s n out written e m w lent =
        let lines : Wrote text 0 (lines_text (part_records image p log at k) log) text' n = rw (← records_are k out m, lent) w in
        record { taken = rw (← e); place = rw (← e); steps = rw (← e); lines = rw (← e) lines }

    pub part_refused : (n r : ℕ) → refused n r ≡ part_answer image p log at → text' ≡ text
        → Parted image p log at text text' (record { taken = 0; place = 0; steps = 0; length = 0 })
    part_refused n r e f =
        record {
          taken = rw (← e);
          place = rw (← e);
          steps = rw (← e);
          lines = rw (← e, f) (wrote_none text 0);
        }
