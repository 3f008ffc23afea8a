-- The image of a book is accepted: `image_accepted`, what `check_image` answers of its bytes. `places_right`,
-- `edges_right`: every place record and every edge record obeys the rules of 18 and 19. Assumes nothing.
use mathlib.Core.Path.{◌≡◌, refl, sym, ap, ◌∙◌, subst}
use mathlib.Core.Logic.{◌≢◌}
use mathlib.Core.Bool.{true}
use Rattle.std.specs.Prelude.{None}
use mathlib.Core.List.{List, [], ◌∷◌, Memᴰ}
use Prim.Native.Nat.{ℕ, zero, suc, ◌+◌, ◌≤◌, ◌<◌}
use native.Mathlib.Omega.{arith}
use lib.ListN.{length, get_or}
use lib.Dec.{eqb}
use borrow.Author.Tests.{eq-eqb, ne_eqb, le-leb, lt-ltb}
use Rattle.meaning.specs.Choice.{when}
use Rattle.meaning.specs.Chain.{Live, Chain, step, head, level, rest}
use Rattle.meaning.specs.Places.{number}
use Rattle.meaning.specs.Book.{Book, delta, outs, marks}
use Rattle.meaning.specs.Questions.{first_edge}
use Rattle.meaning.specs.Answer.{accepted}
use Rattle.meaning.proofs.Cases.{by_bool, by_eq}
use Rattle.meaning.proofs.Book.{rising_away, delta_only}
use Rattle.meaning.proofs.Places.{number_is, number-zero, number_step, place_stacked}
use Rattle.meaning.proofs.Rest.{step_away}
use Rattle.meaning.proofs.Fails.{level-step}
use Rattle.meaning.proofs.Edges.{first_edge-suc}
use Rattle.image.specs.Form.{PlaceRecord, EdgeRecord, form1, size_of, place_at, edge_at}
use Rattle.image.specs.Rules.{trailer_right, start_right, other_right, place_right, places_fault, edge_right, events_fault}
use Rattle.image.specs.Rules.{edges_fault, image_rules, check_image}
use Rattle.compile.specs.Bytes.{reported, place_of, edge_count, image_bytes}
use Rattle.compile.proofs.Opening.{first-zero}
use Rattle.compile.proofs.Back.{length_image, image_trailer, image_letters}
use Rattle.compile.proofs.Shown.{Fine, model_levels, head_small, fallback_low, place_shown, count_shown}
use Rattle.compile.proofs.Shown.{level-shown, target_low, edge-shown}

event_mem : (es : List ℕ) (i : ℕ) → i < length es → Memᴰ (get_or es i 0) es
event_mem [] i l = absurd (let w : ⊥ = omega arith in w)
event_mem (e ∷ es) zero l = Memᴰ.head refl
event_mem (e ∷ es) (suc i) l = Memᴰ.tail (event_mem es i (omega arith))

module _ {B : Book} {L : List Chain} (F : Fine B L) where
  abbrev firsts : ℕ → ℕ
  firsts = first_edge (delta B) (outs B) (marks B) L

  abbrev bytes : List ℕ
  bytes = image_bytes form1 B L

  -- ---- 17
  trailer_right_lem : trailer_right form1 bytes ≡ true
  unfolding trailer_right
  trailer_right_lem =
      let few = F.few_places in
      let all = F.few_edges in
      let n = length_image B L in
      let t = image_trailer B L few all in
      let s = (model_levels F).some_place in
      let q = length L in
      let u = edge_count B L in
      rw (
        le-leb 12 (length bytes) (omega arith),
        image_letters B L,
        t,
        le-leb 1 q s,
        le-leb q 1024 few,
        le-leb u 4096 all,
        eq-eqb (size_of form1 q u) (size_of form1 q u) refl,
        eq-eqb (length bytes) (size_of form1 q u) n,
      )

  -- ---- 18
  start_right_lem : start_right (place_of B L 0) ≡ true
  unfolding start_right place_of
  start_right_lem =
      let c : get_or L 0 [] ≡ [] = F.numbers.first in
      let z = number-zero (delta B) L F.numbers in
      rw (c, z, F.start)

  -- the link of a place other than 0
  link_right : (p : ℕ) (x : Live) (c : Chain) → p < length L → get_or L p [] ≡ x ∷ c → (f : ℕ) → get_or L f [] ≡ c
      → number L (reported (marks B) (x ∷ c))
      ≡ when (eqb (marks B x.state) 0) (number L (reported (marks B) (get_or L f []))) p
  link_right p x c l e f g =
      by_bool (eqb (marks B x.state) 0) (λ m. rw (m, g)) (λ m. rw m (number_is L F.numbers.once p (x ∷ c) l e))

  other_right_lem : (p : ℕ) → p < length L → p ≢ 0 → other_right p (place_of B L p) (place_of B L (place_of B L p).fallback) ≡ true
  unfolding other_right place_of
  other_right_lem p l nz = go (get_or L p []) refl
    where
      go : (c : Chain) → get_or L p [] ≡ c → other_right p (place_of B L p) (place_of B L (place_of B L p).fallback) ≡ true
      go [] e = absurd (nz (sym (number_is L F.numbers.once p [] l e) ∙ number-zero (delta B) L F.numbers))
      go (x ∷ c) e =
          let j = F.numbers.fallback p x c l e in
          let f = j.0 in
          let lower = j.1 in
          let here : number L c ≡ f = number_is L F.numbers.once f c (omega arith) j.2 in
          let h = head_small F p l x c e in
          let nonzero = h.0 in
          let small = h.1 in
          let above = (model_levels F).above p l nz in
          let above' : level (get_or L f []) < x.reach =
          subst (λ (n : ℕ). level (get_or L n []) < x.reach) here
          (subst (λ (z : Chain). level (get_or L (number L (rest z)) []) < level z) e above) in
          let k : ℕ = when (eqb (marks B x.state) 0) (number L (reported (marks B) (get_or L f []))) p in
          rw (
            e,
            here,
            lt-ltb f p lower,
            le-leb 1 x.state (omega arith),
            le-leb x.state 511 (omega arith),
            lt-ltb (level (get_or L f [])) x.reach above',
            link_right p x c l e f j.2,
          )
          (eq-eqb k k refl)

  right_of : (p sum : ℕ) (x b : PlaceRecord) → x.first ≡ sum → x.spare ≡ 0 → (p ≡ 0 → start_right x ≡ true)
      → (p ≢ 0 → other_right p x b ≡ true) → place_right p sum x b ≡ true
  unfolding place_right
  right_of p sum x b e f g h =
      by_eq p 0 (λ z. rw (eq-eqb x.first sum e, eq-eqb x.spare 0 f, eq-eqb p 0 z, g z))
      (λ nz. rw (eq-eqb x.first sum e, eq-eqb x.spare 0 f, ne_eqb p 0 nz, h nz))

  place_right_lem : (p sum : ℕ) → p < length L → sum ≡ firsts p
      → place_right p sum (place_at form1 bytes p) (place_at form1 bytes (place_at form1 bytes p).fallback) ≡ true
  unfolding place_of
  place_right_lem p sum l e =
      let s = place_shown F p l in
      let b = place_shown F (place_of B L p).fallback (fallback_low F p l) in
      subst (λ (x : PlaceRecord). place_right p sum x (place_at form1 bytes x.fallback) ≡ true) (sym s)
      (subst (λ (y : PlaceRecord). place_right p sum (place_of B L p) y ≡ true) (sym b)
      (right_of p sum (place_of B L p) (place_of B L (place_of B L p).fallback) (sym e) refl
      (λ z. subst (λ (k : ℕ). start_right (place_of B L k) ≡ true) (sym z) start_right_lem) (other_right_lem p l)))

  places_right : (left p sum : ℕ) → p + left ≡ length L → sum ≡ firsts p
      → places_fault (place_at form1 bytes) (edge_count B L) left p sum ≡ None
  unfolding places_fault
  places_right zero p sum e g =
      let z : p ≡ length L = omega arith in
      rw (eq-eqb sum (edge_count B L) (g ∙ ap firsts z))
  places_right (suc left) p sum e g =
      let s = place_shown F p (omega arith) in
      let n = first_next p (omega arith) in
      rw (place_right_lem p sum (omega arith) g)
      (places_right left (p + 1) (sum + (place_at form1 bytes p).count) (omega arith) (omega arith))
    where
      first_next : (p : ℕ) → p < length L → firsts (p + 1) ≡ firsts p + (place_at form1 bytes p).count
      first_next p l =
          let e : p + 1 ≡ suc p = omega arith in
          rw e (first_edge-suc (delta B) (outs B) (marks B) L p ∙ ap (λ (k : ℕ). firsts p + k) (sym (count_shown F p l)))

  -- ---- 19
  -- an edge of a place: its target is another place than 0, at most one level up
  target_right : (p a : ℕ) → p < length L → Memᴰ a (outs B (head (get_or L p [])))
      → (1 ≤ number L (step (delta B) (get_or L p []) a))
      × (level (get_or L (number L (step (delta B) (get_or L p []) a)) []) ≤ level (get_or L p []) + 1)
  target_right p a l m =
      let c = get_or L p [] in
      let o = delta_only B (head c) a m in
      let s = number_step (delta B) L F.numbers p a l in
      let v = level-step (delta B) c a (place_stacked (delta B) L F.numbers p l) in
      let w = ap level s.1 in
      let away : step (delta B) c a ≢ [] = step_away (delta B) (rising_away (delta B) F.up) c a o.0 o.1 in
      let nz : number L (step (delta B) c a) ≢ 0 =
      λ z. away (sym s.1 ∙ ap (λ (i : ℕ). get_or L i []) z ∙ F.numbers.first) in
      (omega arith, omega arith)

  -- the events of a place, from one on: each is right after the one before
  module _ (p : ℕ) (l : p < length L) where
    abbrev own : List ℕ
    own = outs B (head (get_or L p []))

    abbrev place : ℕ → PlaceRecord
    place = place_at form1 bytes

    abbrev edge : ℕ → EdgeRecord
    edge = edge_at form1 bytes (length L)

    edge_right_lem : (i floor : ℕ) → i < length own → floor ≤ get_or own i 0
        → edge_right (length L) (place p).level floor (edge (firsts p + i)) (place (edge (firsts p + i)).target).level
        ≡ true
    unfolding edge_right
    edge_right_lem i floor k low =
        let a = get_or own i 0 in
        let t = number L (step (delta B) (get_or L p []) a) in
        let inside = target_low F p a l in
        let r = target_right p a l (event_mem own i k) in
        let one = r.0 in
        let up = r.1 in
        rw (
          edge-shown F p i l k,
          level-shown F p l,
          level-shown F t inside,
          lt-ltb t (length L) inside,
          le-leb floor a low,
          le-leb 1 t one,
          le-leb (level (get_or L t [])) (level (get_or L p []) + 1) up,
        )

    events_right : (left i floor : ℕ) → i + left ≡ length own → (i < length own → floor ≤ get_or own i 0)
        → events_fault place edge (length L) (place p).level left (firsts p + i) floor ≡ None
    unfolding events_fault
    events_right zero i floor e low = refl
    events_right (suc left) i floor e low =
        let k : i < length own = omega arith in
        let z : firsts p + i + 1 ≡ firsts p + (i + 1) = omega arith in
        let event : (edge (firsts p + i)).event ≡ get_or own i 0 = ap (λ (r : EdgeRecord). r.event) (edge-shown F p i l k) in
        rw (edge_right_lem i floor k (low k), z, event)
        (events_right left (i + 1) (get_or own i 0 + 1) (omega arith)
        (λ h. let u = F.rise (head (get_or L p [])) i (i + 1) (omega arith) h in omega arith))

  edges_right : (left p j : ℕ) → p + left ≡ length L → j ≡ firsts p
      → edges_fault (place_at form1 bytes) (edge_at form1 bytes (length L)) (length L) left p j ≡ None
  unfolding edges_fault
  edges_right zero p j e g = refl
  edges_right (suc left) p j e g =
      let l : p < length L = omega arith in
      let c = count_shown F p l in
      let z : j ≡ firsts p + 0 = omega arith in
      let s = first_edge-suc (delta B) (outs B) (marks B) L p in
      let w : suc p ≡ p + 1 = omega arith in
      let n : firsts (p + 1) ≡ firsts p + length (outs B (head (get_or L p []))) = rw w at s in
      let own = events_right p l (length (outs B (head (get_or L p [])))) 0 0 (omega arith) (λ h. omega arith) in
      rw (c, z, own)
      (edges_right left (p + 1) (firsts p + 0 + length (outs B (head (get_or L p [])))) (omega arith) (omega arith))

  -- ---- THE IMAGE IS ACCEPTED
  pub image_accepted : check_image bytes ≡ accepted (length L) (edge_count B L) 0 0
  unfolding check_image image_rules
  image_accepted =
      let few = F.few_places in
      let all = F.few_edges in
      let t = image_trailer B L few all in
      let ps = places_right (length L) 0 0 (omega arith) (sym (first-zero (delta B) (outs B) (marks B) L)) in
      let es = edges_right (length L) 0 0 (omega arith) (sym (first-zero (delta B) (outs B) (marks B) L)) in
      rw (trailer_right_lem, t, ps, es)
