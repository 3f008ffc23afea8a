-- What a run answers and leaves in memory, from what it found.
--   ran_refused         the image is refused, and memory left as it was
--   ran_20, ran_21      the same of the place, of base and log length
--   ran_done            the run, and its records from the start of the buffer
-- Assumes nothing.
use mathlib.Core.Path.{◌≡◌, sym, ap, ◌∙◌}
use mathlib.Core.List.{List}
use Prim.Native.Nat.{ℕ, ◌+◌, ◌/◌, ◌≤◌, ◌<◌}
use lib.ListN.{length}
use lib.Seq.{sets}
use borrow.Author.Tests.{lt-ltb, le-ltb, le-leb, lt-leb}
use Rattle.meaning.specs.Answer.{Answer, accepted, refused, judged}
use Rattle.meaning.specs.Questions.{Image}
use Rattle.meaning.specs.Records.{Outcome, run}
use Rattle.image.specs.Form.{form1}
use Rattle.image.specs.Rules.{check_image}
use Rattle.image.specs.Questions.{questions_at, questions}
use Rattle.image.specs.Calls.{run_rules, run_told, run_answer, list_bytes, run_memory}
use Rattle.image.proofs.Accepted.{facts}
use Rattle.image.proofs.Judged.{first_refused, first_accepted}

module _ (xs : List ℕ) (p base : ℕ) (log out : List ℕ) where
  abbrev ran : Image → Outcome
  ran M = run M (length out / 8) base p log

  -- a refused run leaves memory as it was
  refused_run : (n i : ℕ) → run_answer xs p base log out ≡ refused n i
      → (refused n i ≡ run_answer xs p base log out) × (out ≡ run_memory xs p base log out)
  unfolding run_memory
  refused_run n i e = (sym e, rw e)

  pub ran_refused : (n i : ℕ) → refused n i ≡ check_image xs
      → (refused n i ≡ run_answer xs p base log out) × (out ≡ run_memory xs p base log out)
  unfolding run_answer
  ran_refused n i e = refused_run n i (first_refused xs _ n i e)

  module _ (q t : ℕ) (fine : accepted q t 0 0 ≡ check_image xs) where
    asked : run_answer xs p base log out ≡ judged (run_rules q p base (length log)) (run_told (ran (questions xs)))
    unfolding run_answer
    asked = first_accepted xs _ q t fine

    pub ran_20 : q ≤ p → (refused 20 0 ≡ run_answer xs p base log out) × (out ≡ run_memory xs p base log out)
    ran_20 l = refused_run 20 0 (asked ∙ rw (le-leb q p l))

    pub ran_21 : p < q → 4294967295 < base + length log
        → (refused 21 0 ≡ run_answer xs p base log out) × (out ≡ run_memory xs p base log out)
    ran_21 l h = refused_run 21 0 (asked ∙ rw (lt-leb q p l, lt-ltb 4294967295 (base + length log) h))

    pub ran_done : p < q → base + length log ≤ 4294967295 → (r : Answer) (out' : List ℕ)
        → r ≡ run_told (ran (questions_at form1 xs q))
        → out' ≡ sets out 0 (list_bytes (ran (questions_at form1 xs q)).records)
        → (r ≡ run_answer xs p base log out) × (out' ≡ run_memory xs p base log out)
    unfolding run_memory
    ran_done l h r out' e f =
        let c = (facts xs q t 0 0 (sym fine)).counts in
        let a : run_answer xs p base log out ≡ run_told (ran (questions xs)) =
        asked ∙ rw (lt-leb q p l, le-ltb 4294967295 (base + length log) h) in
        (e ∙ sym (a ∙ ap (λ (M : Image). run_told (ran M)) c), f ∙ sym (rw (a, c)))
