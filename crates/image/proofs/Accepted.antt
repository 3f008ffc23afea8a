-- An image that the check accepts: every record of it is right, and its questions obey what the walk needs.
--   Facts, facts, facts_of  an accepted image by place and edge: limits, size, records, edges in the table, events rising
--   levels, accepted_levels  its questions obey `Levels`
--   fallback_below, events_small  a fallback is a place; an event is a byte
-- Assumes nothing.
use mathlib.Core.Path.{◌≡◌, refl, sym, ap, subst}
use Rattle.std.specs.Prelude.{Option, None, Some}
use mathlib.Core.List.{List}
use Prim.Native.Nat.{ℕ, zero, suc, ◌+◌, ◌-◌, ◌≤◌, ◌<◌}
use native.Mathlib.Omega.{arith}
use lib.ListN.{length, get_or}
use Rattle.meaning.specs.Answer.{accepted}
use Rattle.meaning.specs.Questions.{Image, edge_of, Levels}
use Rattle.meaning.proofs.Cases.{by_eq, none_some}
use Rattle.image.specs.Form.{PlaceRecord, EdgeRecord, form1, size_of, place_at, edge_at}
use Rattle.image.specs.Rules.{places_fault, events_fault, edges_fault, check_image}
use Rattle.image.specs.Questions.{questions_at, questions}
use Rattle.image.specs.Held.{Accepted, edges_of, Rising}
use Rattle.image.proofs.Scan.{passed, or_none, places-passed, places_sum}
use Rattle.image.proofs.Right.{trailer_in, PlaceIn, place_in, EdgeIn, edge_in_lem}
use Rattle.image.proofs.Verdict.{check_passed}
use Rattle.image.proofs.Seek.{seek_found}

-- ---- a scan that finds nothing went past every record
module _ (P : ℕ → PlaceRecord) (t : ℕ) where
  abbrev Right : ℕ → ℕ → Type 0
  Right p sum = PlaceIn p sum (P p) (P (P p).fallback)

  -- every place is right, after the edges before its first, and its edges stand among the t
  places_all : (left p sum : ℕ) → places_fault P t left p sum ≡ None → (r : ℕ) → p ≤ r → r < p + left
      → Right r (P r).first × ((P r).first + (P r).count ≤ t)
  places_all zero p sum e r l h = absurd (let w : ⊥ = omega arith in w)
  places_all (suc left) p sum e r l h =
      let s = places-passed P t left p sum e in
      let k = places_sum P t left (p + 1) _ s.1 in
      let x = place_in p sum (P p) _ s.0 in
      let f : (P p).first ≡ sum = x.first in
      by_eq p r
      (λ z.
      subst (λ (n : ℕ). Right n (P n).first × ((P n).first + (P n).count ≤ t)) z
      (subst (λ (n : ℕ). Right p n) (sym f) x, omega arith))
      (λ z. places_all left (p + 1) _ s.1 r (omega arith) (omega arith))

  module _ (E : ℕ → EdgeRecord) (q : ℕ) where
    -- one edge, and the rest
    events-passed : (level left j floor : ℕ) → events_fault P E q level (suc left) j floor ≡ None
        → EdgeIn q level floor (E j) (P (E j).target).level
        × (events_fault P E q level left (j + 1) ((E j).event + 1) ≡ None)
    unfolding events_fault
    events-passed level left j floor e = let h = passed _ j _ e in (edge_in_lem q level floor (E j) _ h.0, h.1)

    -- each of a place's edges is right
    events_all : (level left j floor : ℕ) → events_fault P E q level left j floor ≡ None → (k : ℕ) → j ≤ k → k < j + left
        → EdgeIn q level floor (E k) (P (E k).target).level
    events_all level zero j floor e k l h = absurd (let w : ⊥ = omega arith in w)
    events_all level (suc left) j floor e k l h =
        let s = events-passed level left j floor e in
        by_eq j k (λ z. subst (λ (n : ℕ). EdgeIn q level floor (E n) (P (E n).target).level) z s.0)
        (λ z.
        let i = events_all level left (j + 1) ((E j).event + 1) s.1 k (omega arith) (omega arith) in
        let r = s.0.rises in
        let u = i.rises in
        record { rises = omega arith; some_target = i.some_target; target = i.target; reach = i.reach })

    -- and their events rise
    events_rise : (level left j floor : ℕ) → events_fault P E q level left j floor ≡ None → Rising E j left
    events_rise level zero j floor e i k b c = absurd (let w : ⊥ = omega arith in w)
    events_rise level (suc left) j floor e i k b c =
        let s = events-passed level left j floor e in
        by_eq i 0
        (λ z.
        let u = (events_all level left (j + 1) ((E j).event + 1) s.1 (j + k) (omega arith) (omega arith)).rises in
        let f : j + i ≡ j = omega arith in
        rw f (omega arith))
        (λ nz.
        let u = events_rise level left (j + 1) ((E j).event + 1) s.1 (i - 1) (k - 1) (omega arith) (omega arith) in
        let f : j + 1 + (i - 1) ≡ j + i = omega arith in
        let g : j + 1 + (k - 1) ≡ j + k = omega arith in
        rw (f, g) at u)

    -- the edges of every place, from its first on
    edges_all : (left p j : ℕ) → places_fault P t left p j ≡ None → edges_fault P E q left p j ≡ None → (r : ℕ) → p ≤ r
        → r < p + left
        → events_fault P E q (P r).level (P r).count (P r).first 0 ≡ None
    unfolding edges_fault
    edges_all zero p j e f r l h = absurd (let w : ⊥ = omega arith in w)
    edges_all (suc left) p j e f r l h =
        let s = places-passed P t left p j e in
        let d : (P p).first ≡ j = (place_in p j (P p) _ s.0).first in
        let o = or_none _ _ f in
        by_eq p r
        (λ z.
        subst (λ (n : ℕ). events_fault P E q (P n).level (P n).count (P n).first 0 ≡ None) z
        (subst (λ (n : ℕ). events_fault P E q (P p).level (P p).count n 0 ≡ None) (sym d) o.0))
        (λ z. edges_all left (p + 1) _ s.1 o.1 r (omega arith) (omega arith))

-- ---- the facts of an accepted image with q places and t edges
pub record Facts (xs : List ℕ) (q t : ℕ) : Type 0 where
  pub some_place : 0 < q
  pub few_places : q ≤ form1.most_places
  pub few_edges : t ≤ form1.most_edges
  pub size : length xs ≡ size_of form1 q t
  pub counts : questions xs ≡ questions_at form1 xs q
  pub place : (p : ℕ) → p < q → PlaceIn p (place_at form1 xs p).first (place_at form1 xs p)
      (place_at form1 xs (place_at form1 xs p).fallback)
  pub inside : (p : ℕ) → p < q → (place_at form1 xs p).first + (place_at form1 xs p).count ≤ t
  pub edge : (p k : ℕ) → p < q → (place_at form1 xs p).first ≤ k → k < (place_at form1 xs p).first + (place_at form1 xs p).count
      → EdgeIn q (place_at form1 xs p).level 0 (edge_at form1 xs q k)
      (place_at form1 xs (edge_at form1 xs q k).target).level
  pub rising : (p : ℕ) → p < q → Rising (edge_at form1 xs q) (place_at form1 xs p).first (place_at form1 xs p).count

pub facts : (xs : List ℕ) (q t a b : ℕ) → check_image xs ≡ accepted q t a b → Facts xs q t
facts xs q t a b e =
    let h = check_passed xs q t a b e in
    let n = h.place_count in
    let m = h.edge_count in
    let r = trailer_in form1 xs h.trailer in
    let P = place_at form1 xs in
    let E = edge_at form1 xs q in
    let f : places_fault P t q 0 0 ≡ None = rw (n, m) h.places in
    let g : edges_fault P E q q 0 0 ≡ None = rw n h.edges in
    record {
      some_place = let s = r.some_place in omega arith;
      few_places = rw n r.few_places;
      few_edges = rw m r.few_edges;
      size = rw (n, m) r.size;
      counts = ap (λ (k : ℕ). questions_at form1 xs k) (sym n);
      place = λ p b. (places_all P t q 0 0 f p (omega arith) (omega arith)).0;
      inside = λ p b. (places_all P t q 0 0 f p (omega arith) (omega arith)).1;
      edge = λ p k b l u.
          events_all P t E q (P p).level (P p).count (P p).first 0
          (edges_all P t E q q 0 0 f g p (omega arith) (omega arith)) k l u;
      rising = λ p b.
          events_rise P t E q (P p).level (P p).count (P p).first 0
          (edges_all P t E q q 0 0 f g p (omega arith) (omega arith));
    }

pub facts_of : {xs : List ℕ} {q : ℕ} → Accepted xs q → Facts xs q (edges_of xs)
facts_of {xs} {q} A = facts xs q (edges_of xs) 0 0 A.is

-- an event is a byte
pub events_small : (xs : List ℕ) (q j n : ℕ) → ((i : ℕ) → get_or xs i 0 < 256) → (i : ℕ) → i < n
    → (edge_at form1 xs q (j + i)).event < 256
unfolding edge_at
events_small xs q j n small i b = small _

-- ---- what the walk needs
module _ (xs : List ℕ) (q t : ℕ) (F : Facts xs q t) where
  abbrev M : Image
  M = questions_at form1 xs q

  target_in : (p a r : ℕ) → p < q → (o : Option ℕ) → M.find p a ≡ o → edge_of M p a ≡ Some r
      → (r < q) × (M.level r ≤ suc (M.level p))
  target_in p a r b None f e = none_some refl (rw f at e)
  target_in p a r b (Some k) f e =
      let s = seek_found (edge_at form1 xs q) a _ _ k f in
      let g : ◌≡◌ {A = Option ℕ} (Some (M.target k)) (Some r) = rw f at e in
      let h : M.target k ≡ r = cc in
      let x = F.edge p k b s.0 s.1 in
      let u = x.reach in
      subst (λ (n : ℕ). (n < q) × (M.level n ≤ suc (M.level p))) h (x.target, omega arith)

  pub levels : Levels M
  levels =
      record {
        some_place = F.some_place;
        zero-level = ((F.place 0 F.some_place).start refl).level;
        lower = λ p b nz. ((F.place p b).other nz).fallback;
        above = λ p b nz. ((F.place p b).other nz).level;
        target = λ p a r b e. target_in p a r b (M.find p a) refl e;
      }

  pub fallback_below : (p : ℕ) → p < q → (place_at form1 xs p).fallback < q
  fallback_below p b =
      by_eq p 0 (λ z. let e = ((F.place p b).start z).fallback in omega arith)
      (λ nz. let d = ((F.place p b).other nz).fallback in omega arith)

pub accepted_levels : (xs : List ℕ) (q t a b : ℕ) → check_image xs ≡ accepted q t a b → Levels (questions xs)
accepted_levels xs q t a b e = let F = facts xs q t a b e in rw F.counts (levels xs q t F)
