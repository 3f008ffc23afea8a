-- What is written are the records of the image. `Placing`, `Owning`, `Edging` hold while the place records, the edge
-- records of one place and those of all places are written; the rest is one turn of each. `image_wrote`: the three
-- parts are the image. Assumes nothing.
use mathlib.Core.Path.{◌≡◌, refl, sym, ap, ◌∙◌, subst}
use mathlib.Core.Logic.{◌≢◌}
use mathlib.Core.List.{List, [], ◌∷◌, ◌++◌}
use Prim.Native.Nat.{ℕ, zero, suc, ◌+◌, ◌*◌, ◌≤◌, ◌<◌}
use native.Mathlib.Omega.{arith}
use lib.ListN.{length, get_or, drop, length-append, length-map}
use lib.Seq.{sets, drop-cons, drop-length}
use borrow.Author.Tests.{eq-eqb, ne_eqb}
use Rattle.wire.proofs.Sets.{sets_then}
use Rattle.meaning.specs.Chain.{Chain, step, head, rest}
use Rattle.meaning.specs.Places.{number, Numbers}
use Rattle.meaning.specs.Book.{Book, delta, outs, marks}
use Rattle.meaning.specs.Questions.{first_edge}
use Rattle.meaning.proofs.Cases.{by_eq}
use Rattle.meaning.proofs.Book.{delta_names}
use Rattle.meaning.proofs.Places.{number_is, number_step, places-number}
use Rattle.meaning.proofs.Edges.{first_edge-suc, first_edge_mono}
use Rattle.image.specs.Form.{PlaceRecord, EdgeRecord, form1}
use Rattle.compile.specs.Work.{Rows, Down, chain_of, list_of}
use Rattle.compile.specs.Explore.{whole, IsPlace}
use Rattle.compile.specs.Bytes.{reported, place_record, edge_record, trailer_of, spread, place_of, edges_for, edges_of}
use Rattle.compile.specs.Bytes.{places_below, edges_below, image_bytes}
use Rattle.compile.specs.Write.{Numbered, EdgesAre, LinkIs, Wrote}
use Rattle.compile.proofs.Rows.{length_list, list_at, chain-zero, chain_cons}
use Rattle.compile.proofs.Seek.{head_of, level_of}
use Rattle.compile.proofs.Written.{spread-append, spread_snoc, length-spread, wrote_none, wrote_then}

-- ---- how many there are
module _ (B : Book) (L : List Chain) where
  abbrev firsts : ℕ → ℕ
  firsts = first_edge (delta B) (outs B) (marks B) L

  pub places-suc : (p : ℕ) → places_below B L (p + 1) ≡ places_below B L p ++ (place_of B L p ∷ [])
  unfolding places_below
  places-suc p = let e : p + 1 ≡ suc p = omega arith in rw e

  pub edges_suc : (p : ℕ) → edges_below B L (p + 1) ≡ edges_below B L p ++ edges_of B L p
  unfolding edges_below
  edges_suc p = let e : p + 1 ≡ suc p = omega arith in rw e

  pub first-suc : (p : ℕ) → firsts (p + 1) ≡ firsts p + length (outs B (head (get_or L p [])))
  first-suc p = let e : p + 1 ≡ suc p = omega arith in rw e (first_edge-suc (delta B) (outs B) (marks B) L p)

  pub length-places : (p : ℕ) → length (places_below B L p) ≡ p
  unfolding places_below
  length-places zero = refl
  length-places (suc p) = omega (arith, length-append (places_below B L p) (place_of B L p ∷ []), length-places p)

  length-own : (c : Chain) (es : List ℕ) → length (edges_for B L c es) ≡ length es
  length-own c es = length-map es (λ (a : ℕ). edge_record a (number L (step (delta B) c a)))

  pub length_edges : (p : ℕ) → length (edges_below B L p) ≡ firsts p
  unfolding edges_below first_edge
  length_edges zero = refl
  length_edges (suc p) =
      let own = length-own (get_or L p []) (outs B (head (get_or L p []))) in
      omega (arith, length-append (edges_below B L p) (edges_of B L p), length_edges p)

  pub place_bytes : (p : ℕ) → length (spread form1.place_bytes (places_below B L p)) ≡ 14 * p
  place_bytes p =
      let a = length-spread form1.place_bytes 14 (λ r. refl) (places_below B L p) in
      let b = length-places p in
      rw b at a

  pub edge_bytes : (p : ℕ) → length (spread form1.edge_bytes (edges_below B L p)) ≡ 4 * firsts p
  edge_bytes p =
      let a = length-spread form1.edge_bytes 4 (λ r. refl) (edges_below B L p) in
      let b = length_edges p in
      rw b at a

  pub own_bytes : (c : Chain) (es : List ℕ) → length (spread form1.edge_bytes (edges_for B L c es)) ≡ 4 * length es
  own_bytes c es =
      let a = length-spread form1.edge_bytes 4 (λ r. refl) (edges_for B L c es) in
      let b = length-own c es in
      rw b at a

-- ---- the link of the place o is that of the place p, which is not above it
pub record Linking (B : Book) (w : Rows) (o p : ℕ) : Type 0 where
  pub low : p ≤ o
  pub same : reported (marks B) (chain_of w o) ≡ reported (marks B) (chain_of w p)

module _ {B : Book} {w : Rows} (d : Down w.fallbacks) {o p : ℕ} (K : Linking B w o p) where
  pub link_end : p ≡ 0 → LinkIs B w o 0
  link_end z = record { low = omega arith; is = chain-zero w ∙ sym (K.same ∙ rw (z, chain-zero w)) }

  module _ (z : p ≢ 0) {h m : ℕ} (e : h ≡ get_or w.heads p 0) (g : m ≡ marks B h) where
    mark_at : marks B (get_or w.heads p 0) ≡ m
    mark_at = ap (λ (x : ℕ). marks B x) (sym e) ∙ sym g

    pub link_here : m ≢ 0 → LinkIs B w o p
    link_here n =
        let c = chain_cons w d p (omega arith) in
        record { low = K.low; is = sym (K.same ∙ rw (c, mark_at, ne_eqb m 0 n)) }

    pub link_on : {f : ℕ} → m ≡ 0 → f ≡ get_or w.fallbacks p 0 → Linking B w o f
    link_on n i =
        let k = d p (omega arith) in
        let l = K.low in
        let c = chain_cons w d p (omega arith) in
        record { low = omega arith; same = K.same ∙ rw (c, mark_at, eq-eqb m 0 n, ← i) }

-- ---- what holds while the records are written: d are the bytes at first, d' those now
-- the records of the places below p, which have e edges
pub record Placing (B : Book) (w : Rows) (n : ℕ) (d : List ℕ) (p e : ℕ) (d' : List ℕ) : Type 0 where
  pub edges : e ≡ first_edge (delta B) (outs B) (marks B) (list_of w n) p
  pub so_far : d' ≡ sets d 0 (spread form1.place_bytes (places_below B (list_of w n) p))

-- the records of i of the edges of the place p, written from at on
pub record Owning (B : Book) (w : Rows) (n p : ℕ) (d : List ℕ) (at i : ℕ) (d' : List ℕ) : Type 0 where
  pub so_far : sets d at (spread form1.edge_bytes (edges_of B (list_of w n) p))
      ≡ sets d' (at + 4 * i)
      (spread form1.edge_bytes (edges_for B (list_of w n) (chain_of w p) (drop i (outs B (get_or w.heads p 0)))))

-- the records of the edges of the places below p, which end at r
pub record Edging (B : Book) (w : Rows) (n : ℕ) (d : List ℕ) (p r : ℕ) (d' : List ℕ) : Type 0 where
  pub so_far : Wrote d (14 * n) (spread form1.edge_bytes (edges_below B (list_of w n) p)) d' r

pub placing_start : (B : Book) (w : Rows) (n : ℕ) (d : List ℕ) → Placing B w n d 0 0 d
unfolding places_below first_edge
placing_start B w n d = record { edges = refl; so_far = refl }

pub edging_start : (B : Book) (w : Rows) (n : ℕ) (d : List ℕ) → Edging B w n d 0 (14 * n) d
unfolding edges_below
edging_start B w n d = record { so_far = wrote_none d (14 * n) }

-- ---- the arrays and the model
module _ {B : Book} {w : Rows} {n : ℕ} (N : Numbered B w n) where
  pub numbers : Numbers (delta B) (list_of w n)
  numbers = (places-number (delta B) (outs B) (delta_names B) 1024 (list_of w n) N.all).0

  number_of : (p : ℕ) (d : Chain) → p < n → chain_of w p ≡ d → number (list_of w n) d ≡ p
  number_of p d l e =
      let k = length_list w n in
      number_is (list_of w n) numbers.once p d (omega arith) (list_at w n p l ∙ e)

  fallback_of : (p : ℕ) → p < n → number (list_of w n) (rest (chain_of w p)) ≡ get_or w.fallbacks p 0
  fallback_of p l =
      by_eq p 0
      (λ e.
      let z : rest (chain_of w p) ≡ [] = rw (e, chain-zero w) in
      rw z (number_of 0 [] N.held.some_place (chain-zero w) ∙ sym N.held.fallback_zero ∙ rw (← e)))
      (λ e.
      let d = N.held.fallbacks_down p (omega arith) in
      rw (chain_cons w N.held.fallbacks_down p (omega arith)) (number_of (get_or w.fallbacks p 0) _ (omega arith) refl))

  place_is : {p e m f l h k a : ℕ} → p < n → e ≡ first_edge (delta B) (outs B) (marks B) (list_of w n) p
      → h ≡ get_or w.heads p 0 → m ≡ length (outs B h) → f ≡ get_or w.fallbacks p 0 → l ≡ get_or w.levels p 0
      → LinkIs B w p k → a ≡ marks B h
      → place_record e m f l h k a ≡ place_of B (list_of w n) p
  unfolding place_of
  place_is {p} {k = k} below e1 e2 e3 e4 e5 K e6 =
      let low = K.low in
      let lnk : number (list_of w n) (reported (marks B) (chain_of w p)) ≡ k =
      number_of k (reported (marks B) (chain_of w p)) (omega arith) K.is in
      let at = list_at w n p below in
      let hd = head_of w n N.held p in
      let lv = level_of w n N.held p in
      rw (at, hd, lv, fallback_of p below, lnk, e1, e3, e4, e5, e6, e2)

  pub placing_next : {p e m f l h k a : ℕ} {d d' d'' : List ℕ} → Placing B w n d p e d' → p < n
      → h ≡ get_or w.heads p 0 → m ≡ length (outs B h) → f ≡ get_or w.fallbacks p 0 → l ≡ get_or w.levels p 0
      → LinkIs B w p k → a ≡ marks B h
      → d'' ≡ sets d' (14 * p) (form1.place_bytes (place_record e m f l h k a)) → Placing B w n d (p + 1) (e + m) d''
  placing_next {p} {e} {m} {f} {l} {h} {k} {a} {d} {d'} P below e2 e3 e4 e5 K e6 g =
      let L = list_of w n in
      let old = spread form1.place_bytes (places_below B L p) in
      let len = place_bytes B L p in
      let r : place_record e m f l h k a ≡ place_of B L p = place_is below P.edges e2 e3 e4 e5 K e6 in
      let all : spread form1.place_bytes (places_below B L (p + 1)) ≡ old ++ form1.place_bytes (place_of B L p) =
      ap (λ (z : List PlaceRecord). spread form1.place_bytes z) (places-suc B L p)
      ∙ spread_snoc form1.place_bytes (places_below B L p) (place_of B L p) in
      let hd : head (get_or L p []) ≡ h = ap head (list_at w n p below) ∙ head_of w n N.held p ∙ sym e2 in
      record {
        edges = sym (first-suc B L p ∙ rw (hd, ← e3, ← P.edges));
        so_far =
            g ∙ ap (λ (z : List ℕ). sets z (14 * p) (form1.place_bytes (place_record e m f l h k a))) P.so_far
            ∙ ap (λ (z : PlaceRecord). sets (sets d 0 old) (14 * p) (form1.place_bytes z)) r
            ∙ sym (sets_then d 0 (14 * p) old (form1.place_bytes (place_of B L p)) (omega arith))
            ∙ ap (λ (z : List ℕ). sets d 0 z) (sym all);
      }

  pub placing_few : {p e : ℕ} {d d' : List ℕ} → Placing B w n d p e d' → p ≤ n → e ≤ 4096
  placing_few {p} P m =
      let e = P.edges in
      let all = N.few_edges in
      let up = first_edge_mono (delta B) (outs B) (marks B) (list_of w n) p n m in
      omega arith

  -- ---- the edge records of one place
  at_place : (p : ℕ) → p < n → edges_of B (list_of w n) p ≡ edges_for B (list_of w n) (chain_of w p) (outs B (get_or w.heads p 0))
  at_place p l = rw (list_at w n p l, head_of w n N.held p)

  pub owning_start : (p at : ℕ) (d : List ℕ) → p < n → Owning B w n p d at 0 d
  owning_start p at d l =
      let z : at + 4 * 0 ≡ at = omega arith in
      record { so_far = rw z (ap (λ (y : List EdgeRecord). sets d at (spread form1.edge_bytes y)) (at_place p l)) }

  -- the target of an edge
  target_is : (p a t : ℕ) → p < n → IsPlace whole w n (step (delta B) (chain_of w p) a) t
      → number (list_of w n) (step (delta B) (chain_of w p) a) ≡ t
  target_is p a t l P =
      let L = list_of w n in
      let k = length_list w n in
      let c = list_at w n p l in
      let s = number_step (delta B) L numbers p a (omega arith) in
      let below = s.0 in
      let i : number L (step (delta B) (get_or L p []) a) < n = omega arith in
      number_of t (step (delta B) (chain_of w p) a) P.below
      (P.is (number L (step (delta B) (get_or L p []) a)) i
      (sym (list_at w n (number L (step (delta B) (get_or L p []) a)) i) ∙ s.1 ∙ ap (λ (z : Chain). step (delta B) z a) c))

  pub owning_next : {p at i a t : ℕ} {d d' d'' : List ℕ} → Owning B w n p d at i d' → p < n
      → (i < length (outs B (get_or w.heads p 0))) × (get_or (outs B (get_or w.heads p 0)) i 0 ≡ a)
      → IsPlace whole w n (step (delta B) (chain_of w p) a) t
      → d'' ≡ sets d' (at + 4 * i) (form1.edge_bytes (edge_record a t)) → Owning B w n p d at (i + 1) d''
  owning_next {p} {at} {i} {a} {t} {d} {d'} {d''} O l E P g =
      let L = list_of w n in
      let es = outs B (get_or w.heads p 0) in
      let tl = spread form1.edge_bytes (edges_for B L (chain_of w p) (drop (suc i) es)) in
      let e : drop i es ≡ a ∷ drop (suc i) es = drop-cons es i 0 E.0 ∙ ap (λ (z : ℕ). z ∷ drop (suc i) es) E.1 in
      let y : i + 1 ≡ suc i = omega arith in
      let x : at + 4 * suc i ≡ at + 4 * i + 4 = omega arith in
      record {
        so_far =
            O.so_far ∙ rw (e, target_is p a t l P)
            (sets_then d' (at + 4 * i) (at + 4 * i + 4) (form1.edge_bytes (edge_record a t)) tl refl ∙ rw (← g, y, x));
      }

  -- h and m are what was read: the head of p and the number of its edges
  pub owning_end : {p at i h m : ℕ} {d d' : List ℕ} → Owning B w n p d at i d' → p < n → h ≡ get_or w.heads p 0
      → m ≡ length (outs B h) → i ≤ m → m ≤ i
      → Wrote d at (spread form1.edge_bytes (edges_of B (list_of w n) p)) d' (at + 4 * m)
  owning_end {p} {at} {i} {h} {m} {d} {d'} O l e g low high =
      let L = list_of w n in
      let es = outs B (get_or w.heads p 0) in
      let own : m ≡ length es = g ∙ ap (λ (z : ℕ). length (outs B z)) e in
      let all : i ≡ length es = omega arith in
      let none : drop i es ≡ [] = rw all (drop-length es) in
      let len = own_bytes B L (chain_of w p) es in
      let same = ap (λ (y : List EdgeRecord). length (spread form1.edge_bytes y)) (at_place p l) in
      record { is = sym (O.so_far ∙ rw none); next = omega arith }

  -- ---- the edge records of all places
  module _ {p r : ℕ} {d d' : List ℕ} (E : Edging B w n d p r d') (l : p < n) where
    -- the edges of the place p end where all edges end, at the latest
    pub edging_room : r + 4 * length (outs B (get_or w.heads p 0)) ≤ 30720
    edging_room =
        let L = list_of w n in
        let a = E.so_far.next in
        let b = edge_bytes B L p in
        let few = N.held.few in
        let all = N.few_edges in
        let s = first-suc B L p in
        let hd = ap (λ (z : ℕ). length (outs B z)) (ap head (list_at w n p l) ∙ head_of w n N.held p) in
        let up = first_edge_mono (delta B) (outs B) (marks B) L (p + 1) n (omega arith) in
        omega arith

    pub edging_next : {r' : ℕ} {d'' : List ℕ}
        → Wrote d' r (spread form1.edge_bytes (edges_of B (list_of w n) p)) d'' r' → Edging B w n d (p + 1) r' d''
    edging_next {r'} {d''} W =
        let L = list_of w n in
        record {
          so_far =
              subst (λ (z : List ℕ). Wrote d (14 * n) z d'' r')
              (sym (ap (λ (z : List EdgeRecord). spread form1.edge_bytes z) (edges_suc B L p)
              ∙ spread-append form1.edge_bytes (edges_below B L p) (edges_of B L p)))
              (wrote_then E.so_far W);
        }

  -- ---- the image
  pub image_few : {t : ℕ} → EdgesAre B w n t → 14 * n + 4 * t ≤ 90000
  image_few g = let few = N.held.few in let all = N.few_edges in omega arith

  pub image_wrote : (d : List ℕ) {d1 d2 d3 : List ℕ} {t : ℕ} → EdgesAre B w n t
      → d1 ≡ sets d 0 (spread form1.place_bytes (places_below B (list_of w n) n))
      → d2 ≡ sets d1 (14 * n) (spread form1.edge_bytes (edges_below B (list_of w n) n))
      → d3 ≡ sets d2 (14 * n + 4 * t) (form1.trailer_bytes (trailer_of form1 n t))
      → d3 ≡ sets d 0 (image_bytes form1 B (list_of w n))
  unfolding image_bytes
  image_wrote d {d1} {t = t} g X Y e =
      let L = list_of w n in
      let ps = spread form1.place_bytes (places_below B L n) in
      let es = spread form1.edge_bytes (edges_below B L n) in
      let tr = form1.trailer_bytes (trailer_of form1 n t) in
      let len = length_list w n in
      let a = place_bytes B L n in
      let b = edge_bytes B L n in
      e ∙ ap (λ (z : List ℕ). sets z (14 * n + 4 * t) tr) Y ∙ sym (sets_then d1 (14 * n) (14 * n + 4 * t) es tr (omega arith))
      ∙ ap (λ (z : List ℕ). sets z (14 * n) (es ++ tr)) X ∙ sym (sets_then d 0 (14 * n) ps (es ++ tr) (omega arith))
      ∙ rw (len, ← g)
