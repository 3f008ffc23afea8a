-- The check, row by row: what each row refuses, and what an accepted image passes.
--   check_17, check_18, check_19, check_fine  the answer, from what the rows find
--   Passed, check_passed        an accepted image: every row finds nothing, and the counts are the trailer's
--   sized                       a right trailer's image is as long as its counts say
-- Assumes nothing.
use mathlib.Core.Path.{◌≡◌, ◌∙◌}
use mathlib.Core.Bool.{true, false}
use Rattle.std.specs.Prelude.{Option, None, Some}
use mathlib.Core.List.{List}
use Prim.Native.Nat.{ℕ, ◌+◌, ◌*◌}
use native.Mathlib.Omega.{arith}
use Rattle.meaning.specs.Answer.{accepted, refused}
use Rattle.meaning.proofs.Cases.{by_bool, by_option}
use Rattle.image.specs.Form.{form1, place_at, edge_at, trailer_of}
use Rattle.image.specs.Rules.{trailer_right, places_fault, edges_fault, image_rules, check_image}
use Rattle.image.specs.Held.{Sized}
use Rattle.meaning.proofs.Refused.{refused_accepted}
use Rattle.image.proofs.Right.{trailer_in}

module _ (xs : List ℕ) where
  abbrev pub q : ℕ
  q = (trailer_of form1 xs).places

  abbrev pub t : ℕ
  t = (trailer_of form1 xs).edges

  abbrev pub PlacesFault : Option ℕ
  PlacesFault = places_fault (place_at form1 xs) t q 0 0

  abbrev pub EdgesFault : Option ℕ
  EdgesFault = edges_fault (place_at form1 xs) (edge_at form1 xs q) q q 0 0

  pub check_17 : trailer_right form1 xs ≡ false → refused 17 0 ≡ check_image xs
  unfolding check_image image_rules
  check_17 e = rw e

  pub check_18 : (i : ℕ) → trailer_right form1 xs ≡ true → PlacesFault ≡ Some i → refused 18 (0 + 14 * i) ≡ check_image xs
  unfolding check_image image_rules
  check_18 i e f = rw (e, f)

  pub check_19 : (i : ℕ) → trailer_right form1 xs ≡ true → PlacesFault ≡ None → EdgesFault ≡ Some i
      → refused 19 (14 * q + 4 * i) ≡ check_image xs
  unfolding check_image image_rules
  check_19 i e f g = rw (e, f, g)

  pub check_fine : trailer_right form1 xs ≡ true → PlacesFault ≡ None → EdgesFault ≡ None
      → accepted q t 0 0 ≡ check_image xs
  unfolding check_image image_rules
  check_fine e f g = rw (e, f, g)

  pub sized : trailer_right form1 xs ≡ true → Sized xs q t
  sized e =
      let r = trailer_in form1 xs e in
      record { size = r.size; few_places = r.few_places; few_edges = r.few_edges }

-- the same of counts and faults that were read
module _ (xs : List ℕ) (n m : ℕ) (places : n ≡ q xs) (edges : m ≡ t xs) (right : trailer_right form1 xs ≡ true) where
  pub told_sized : Sized xs n m
  told_sized = rw (places, edges) (sized xs right)

  pub told_18 : (i o : ℕ) → places_fault (place_at form1 xs) m n 0 0 ≡ Some i → o ≡ 14 * i → refused 18 o ≡ check_image xs
  told_18 i o is e =
      let s : PlacesFault xs ≡ Some i = rw (← places, ← edges) is in
      let z : o ≡ 0 + 14 * i = omega arith in
      rw z (check_18 xs i right s)

  module _ (none-18 : places_fault (place_at form1 xs) m n 0 0 ≡ None) where
    passed_18 : PlacesFault xs ≡ None
    passed_18 = rw (← places, ← edges) none-18

    pub told_19 : (i o : ℕ) → edges_fault (place_at form1 xs) (edge_at form1 xs n) n n 0 0 ≡ Some i → o ≡ 14 * n + 4 * i
        → refused 19 o ≡ check_image xs
    told_19 i o is e =
        let s : EdgesFault xs ≡ Some i = rw (← places) is in
        let z : o ≡ 14 * q xs + 4 * i = omega arith in
        rw z (check_19 xs i right passed_18 s)

    pub told-fine : edges_fault (place_at form1 xs) (edge_at form1 xs n) n n 0 0 ≡ None → accepted n m 0 0 ≡ check_image xs
    told-fine is =
        let s : EdgesFault xs ≡ None = rw (← places) is in
        rw (places, edges) (check_fine xs right passed_18 s)

pub record Passed (xs : List ℕ) (n m : ℕ) : Type 0 where
  pub trailer : trailer_right form1 xs ≡ true
  pub places : PlacesFault xs ≡ None
  pub edges : EdgesFault xs ≡ None
  pub place_count : n ≡ q xs
  pub edge_count : m ≡ t xs

pub check_passed : (xs : List ℕ) (n m a b : ℕ) → check_image xs ≡ accepted n m a b → Passed xs n m
check_passed xs n m a b e =
    by_bool (trailer_right form1 xs)
    (λ r. by_option (PlacesFault xs)
    (λ f. by_option (EdgesFault xs)
    (λ g.
    let h : accepted (q xs) (t xs) 0 0 ≡ accepted n m a b = check_fine xs r f g ∙ e in
    record { trailer = r; places = f; edges = g; place_count = cc; edge_count = cc })
    (λ i g. refused_accepted (check_19 xs i r f g ∙ e)))
    (λ i f. refused_accepted (check_18 xs i r f ∙ e)))
    (λ r. refused_accepted (check_17 xs r ∙ e))
