-- The open image: its counts are those of the check, and its answers are the image's questions. A refused image has
-- no places, and answers 20 to everything.
--   lent_apart          the slice that was lent says all of an open image
--   opened_refused, opened_accepted  no places exactly where the image is refused
--   opened-asked        of an accepted image's place: fallback, level, mark, edge and the next walk
--   opened_nothing      of a refused image: 20
-- Assumes nothing.
use mathlib.Core.Path.{◌≡◌, sym, ap, ◌∙◌}
use mathlib.Core.List.{List}
use mathlib.Core.HLevel.{is_prop→PathP}
use Rattle.std.proofs.Props.{props}
use Rattle.std.specs.Borrow.{Bor}
use Prim.Native.Nat.{ℕ, ◌≤◌, ◌<◌}
use native.Mathlib.Omega.{arith}
use Rattle.meaning.specs.Answer.{Answer, accepted, refused}
use Rattle.meaning.specs.Questions.{Image, edge_of}
use Rattle.meaning.specs.Walk.{next}
use Rattle.image.specs.Form.{form1}
use Rattle.image.specs.Rules.{check_image}
use Rattle.image.specs.Questions.{questions_at, questions}
use Rattle.image.specs.Calls.{places_in, edges_in, fallback_in, level_in, mark_in, edge_told, edge_in, walk_told, next_in}
use Rattle.image.specs.Opened.{lent}
use Rattle.meaning.proofs.Refused.{Apart}
use Rattle.image.proofs.Accepted.{facts}
use Rattle.image.proofs.Asking.{place_refused, place_known}

-- what was lent says all of an open image
pub lent_apart : Apart lent
lent_apart M N e =
    let f : M.counts.places ≡ N.counts.places =
    M.counted.0 ∙ ap (λ (b : Bor (List ℕ)). places_in (check_image b.now)) e ∙ sym N.counted.0 in
    let g : M.counts.edges ≡ N.counts.edges =
    M.counted.1 ∙ ap (λ (b : Bor (List ℕ)). edges_in (check_image b.now)) e ∙ sym N.counted.1 in
    λ i.
    record {
      bytes = e i;
      counts = record { places = f i; edges = g i };
      counted = is_prop→PathP
          (λ j. (f j ≡ places_in (check_image (e j).now)) × (g j ≡ edges_in (check_image (e j).now)))
          (λ j. hlevel props) M.counted N.counted i;
    }

-- no places exactly where the image is refused
pub opened_refused : (xs : List ℕ) (n p : ℕ) → check_image xs ≡ refused n p → places_in (check_image xs) ≡ 0
opened_refused xs n p e = rw e

pub opened_accepted : (xs : List ℕ) (q t a b : ℕ) → check_image xs ≡ accepted q t a b
    → (0 < places_in (check_image xs)) × (places_in (check_image xs) ≡ q)
opened_accepted xs q t a b e = let s = (facts xs q t a b e).some_place in (rw e s, rw e)

-- what an open image answers of a place below its count
module _ (xs : List ℕ) (q t a b : ℕ) (fine : check_image xs ≡ accepted q t a b) (p : ℕ) (below : p < q) where
  abbrev M : Image
  M = questions xs

  at_count : (f : List ℕ → ℕ → ℕ → Answer) (g : Image → Answer) → (f xs q p ≡ g (questions_at form1 xs q))
      → f xs (places_in (check_image xs)) p ≡ g M
  at_count f g e =
      ap (λ (n : ℕ). f xs n p) (opened_accepted xs q t a b fine).1 ∙ e
      ∙ ap g (sym (facts xs q t a b fine).counts)

  pub opened-asked :
      (fallback_in xs (places_in (check_image xs)) p ≡ accepted (M.fallback p) 0 0 0)
      × (level_in xs (places_in (check_image xs)) p ≡ accepted (M.level p) 0 0 0)
      × (mark_in xs (places_in (check_image xs)) p ≡ accepted (M.mark p) 0 0 0)
      × ((e : ℕ) → edge_in xs (places_in (check_image xs)) p e ≡ edge_told (edge_of M p e))
      × ((e : ℕ) → next_in xs (places_in (check_image xs)) p e ≡ walk_told M (next M p e))
  unfolding fallback_in level_in mark_in edge_in next_in
  opened-asked = (
    at_count fallback_in (λ M. accepted (M.fallback p) 0 0 0) (sym (place_known q p _ below)),
    at_count level_in (λ M. accepted (M.level p) 0 0 0) (sym (place_known q p _ below)),
    at_count mark_in (λ M. accepted (M.mark p) 0 0 0) (sym (place_known q p _ below)),
    (λ e. at_count (λ xs q p. edge_in xs q p e) (λ M. edge_told (edge_of M p e)) (sym (place_known q p _ below))),
    (λ e. at_count (λ xs q p. next_in xs q p e) (λ M. walk_told M (next M p e)) (sym (place_known q p _ below))),
  )

-- and a refused one, of any place
pub opened_nothing : (xs : List ℕ) (n i p : ℕ) → check_image xs ≡ refused n i
    → (fallback_in xs (places_in (check_image xs)) p ≡ refused 20 0)
    × (level_in xs (places_in (check_image xs)) p ≡ refused 20 0)
    × (mark_in xs (places_in (check_image xs)) p ≡ refused 20 0)
    × ((e : ℕ) → edge_in xs (places_in (check_image xs)) p e ≡ refused 20 0)
    × ((e : ℕ) → next_in xs (places_in (check_image xs)) p e ≡ refused 20 0)
unfolding fallback_in level_in mark_in edge_in next_in
opened_nothing xs n i p e =
    let l : places_in (check_image xs) ≤ p = (let z = opened_refused xs n i e in omega arith) in (
      sym (place_refused _ p _ l),
      sym (place_refused _ p _ l),
      sym (place_refused _ p _ l),
      (λ a. sym (place_refused _ p _ l)),
      (λ a. sym (place_refused _ p _ l)),
    )
