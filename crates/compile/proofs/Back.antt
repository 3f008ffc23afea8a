-- What was written is read back: the bytes of a book's image hold the records of the model. `spread_at`: record i of
-- records one after the other; `wrote-stand`: once they are written. `place_back`, `edge_back`, `trailer_back`: one
-- record from its bytes. `place_at_lem`, `edge_at_lem`: the record of a place, of an edge. `image_place`, `image_edge`,
-- `image_trailer`, `image_letters`: those of the image. Assumes nothing.
use mathlib.Core.Path.{◌≡◌, refl, sym, ap, ◌∙◌, subst}
use mathlib.Core.Bool.{true}
use mathlib.Core.List.{List, [], ◌∷◌, ◌++◌, append_assoc, map}
use Prim.Native.Nat.{ℕ, zero, suc, ◌+◌, ◌*◌, ◌-◌, ◌/◌, ◌%◌, ◌≤◌, ◌<◌}
use native.Mathlib.Omega.{arith}
use native.Mathlib.Nat.{mul-suc, mul-zero}
use lib.ListN.{length, get_or, drop, length-append, get_or-append}
use lib.Seq.{sets, get_or-append-add, get_or-append_seam}
use Rattle.wire.specs.Little.{le16_at, le32_at}
use Rattle.meaning.specs.Chain.{Chain, step, head}
use Rattle.meaning.specs.Places.{number}
use Rattle.meaning.specs.Book.{Book, delta, outs, marks}
use Rattle.meaning.specs.Questions.{first_edge}
use Rattle.meaning.proofs.Cases.{by_order}
use Rattle.meaning.proofs.Edges.{first_edge-suc, first_edge_mono}
use Rattle.image.specs.Form.{PlaceRecord, EdgeRecord, Trailer, form1, size_of, place_at, edge_at, has_letters}
use Rattle.compile.specs.Bytes.{edge_record, trailer_of, spread, place_of, edges_of, places_below, edges_below}
use Rattle.compile.specs.Bytes.{edge_count, image_bytes}
use Rattle.compile.proofs.Records.{place_bytes, edge_bytes, length-places, length_edges}
use Rattle.compile.proofs.Written.{length-spread, sets_at}

-- ---- records one after the other
module _ {A : Type 0} (g : A → List ℕ) (k : ℕ) (size : (r : A) → length (g r) ≡ k) where
  pub spread_at : (rs : List A) (x : A) (i j : ℕ) → i < length rs → j < k → (C : List ℕ)
      → get_or (spread g rs ++ C) (k * i + j) 0 ≡ get_or (g (get_or rs i x)) j 0
  spread_at [] x i j l h C = absurd (let w : ⊥ = omega arith in w)
  spread_at (r ∷ rs) x zero j l h C =
      let s = size r in
      let z : k * 0 + j ≡ j = omega (arith, mul-zero k) in
      rw (append_assoc (g r) (spread g rs) C, z) (get_or-append (g r) (spread g rs ++ C) 0 j (omega arith))
  spread_at (r ∷ rs) x (suc i) j l h C =
      let s = size r in
      let m = mul-suc k i in
      let z : k * suc i + j ≡ length (g r) + (k * i + j) = omega arith in
      rw (append_assoc (g r) (spread g rs) C, z)
      (get_or-append-add (g r) (spread g rs ++ C) (k * i + j) 0 ∙ spread_at rs x i j (omega arith) h C)

-- ---- one record from its bytes
-- the numbers that take two bytes
pub record Fits (r : PlaceRecord) : Type 0 where
  pub first : r.first < 65536
  pub count : r.count < 65536
  pub fallback : r.fallback < 65536
  pub level : r.level < 65536
  pub head : r.head < 65536
  pub link : r.link < 65536

-- the n bytes bs stand at a place
pub record Stand (xs : List ℕ) (at n : ℕ) (bs : List ℕ) : Type 0 where
  pub byte : (j : ℕ) → j < n → get_or xs (at + j) 0 ≡ get_or bs j 0

module _ {xs : List ℕ} {at n : ℕ} {bs : List ℕ} (X : Stand xs at n bs) where
  first_byte : 0 < n → get_or xs at 0 ≡ get_or bs 0 0
  first_byte l = let e : at ≡ at + 0 = omega arith in ap (λ (i : ℕ). get_or xs i 0) e ∙ X.byte 0 l

  pub number_back : (k v : ℕ) → k + 1 < n → get_or bs k 0 ≡ v % 256 → get_or bs (k + 1) 0 ≡ v / 256 % 256 → v < 65536
      → le16_at xs (at + k) ≡ v
  number_back k v l e f small =
      let lo = X.byte k (omega arith) in
      let hi = X.byte (k + 1) l in
      let g : at + k + 1 ≡ at + (k + 1) = omega arith in
      let hi' : get_or xs (at + k + 1) 0 ≡ get_or bs (k + 1) 0 = ap (λ (i : ℕ). get_or xs i 0) g ∙ hi in
      omega arith

  pub first-number : (v : ℕ) → 1 < n → get_or bs 0 0 ≡ v % 256 → get_or bs 1 0 ≡ v / 256 % 256 → v < 65536 → le16_at xs at ≡ v
  first-number v l e f small =
      let g : at ≡ at + 0 = omega arith in
      ap (λ (i : ℕ). le16_at xs i) g ∙ number_back 0 v l e f small

place_back : (xs : List ℕ) (at : ℕ) (r : PlaceRecord) → Stand xs at 14 (form1.place_bytes r) → Fits r
    → form1.place_from xs at ≡ r
place_back xs at r X F =
    let e1 = first-number X r.first (omega arith) refl refl F.first in
    let e2 = number_back X 2 r.count (omega arith) refl refl F.count in
    let e3 = number_back X 4 r.fallback (omega arith) refl refl F.fallback in
    let e4 = number_back X 6 r.level (omega arith) refl refl F.level in
    let e5 = number_back X 8 r.head (omega arith) refl refl F.head in
    let e6 = number_back X 10 r.link (omega arith) refl refl F.link in
    let e7 = X.byte 12 (omega arith) in
    let e8 = X.byte 13 (omega arith) in
    λ i.
    record {
      first = e1 i;
      count = e2 i;
      fallback = e3 i;
      level = e4 i;
      head = e5 i;
      link = e6 i;
      mark = e7 i;
      spare = e8 i;
    }

edge_back : (xs : List ℕ) (at : ℕ) (r : EdgeRecord) → Stand xs at 4 (form1.edge_bytes r) → r.target < 65536
    → form1.edge_from xs at ≡ r
edge_back xs at r X l =
    let e1 = first_byte X (omega arith) in
    let e2 = X.byte 1 (omega arith) in
    let e3 = number_back X 2 r.target (omega arith) refl refl l in
    λ i. record { event = e1 i; spare = e2 i; target = e3 i }

trailer_back : (xs : List ℕ) (at : ℕ) (r : Trailer) → Stand xs at 12 (form1.trailer_bytes r)
    → r.distance < 4294967296 → r.places < 65536 → r.edges < 65536 → r.form < 65536 → form1.trailer_from xs at ≡ r
trailer_back xs at r X l1 l2 l3 l4 =
    let d = r.distance in
    let lo = first-number X (d % 65536) (omega arith) refl refl (omega arith) in
    let hi = number_back X 2 (d / 65536 % 65536) (omega arith) refl refl (omega arith) in
    let e1 : le32_at xs at ≡ d = omega arith in
    let e2 = number_back X 4 r.places (omega arith) refl refl l2 in
    let e3 = number_back X 6 r.edges (omega arith) refl refl l3 in
    let e4 = number_back X 8 r.form (omega arith) refl refl l4 in
    λ i. record { distance = e1 i; places = e2 i; edges = e3 i; form = e4 i }

-- record i of records that were written one after the other, where there is room for them
pub wrote-stand : {A : Type 0} (g : A → List ℕ) (k : ℕ) → ((r : A) → length (g r) ≡ k) → (rs : List A) (x : A)
    (d : List ℕ) (at : ℕ) {d' : List ℕ} → d' ≡ sets d at (spread g rs) → at + k * length rs ≤ length d
    → (i to : ℕ) → i < length rs → to ≡ at + k * i → Stand d' to k (g (get_or rs i x))
wrote-stand g k size rs x d at W room i to l e =
    let n = length-spread g k size rs in
    record {
      byte = λ j h.
          let z : to + j ≡ at + (k * i + j) = omega arith in
          ap (λ (y : List ℕ). get_or y (to + j) 0) W
          ∙ ap (λ (y : ℕ). get_or (sets d at (spread g rs)) y 0) z
          ∙ sets_at d at (spread g rs) (omega arith) (k * i + j)
          ∙ spread_at g k size rs x i j l h (drop (at + length (spread g rs)) d);
    }

-- ---- the records of the image
pub place_at_lem : (B : Book) (L : List Chain) (n p : ℕ) (x : PlaceRecord) → p < n → get_or (places_below B L n) p x ≡ place_of B L p
unfolding places_below
place_at_lem B L zero p x l = absurd (let w : ⊥ = omega arith in w)
place_at_lem B L (suc n) p x l =
    let k = length-places B L n in
    by_order p n
    (λ h. get_or-append (places_below B L n) (place_of B L n ∷ []) x p (omega arith) ∙ place_at_lem B L n p x h)
    (λ h.
    let e : p ≡ length (places_below B L n) = omega arith in
    ap (λ (i : ℕ). get_or (places_below B L n ++ (place_of B L n ∷ [])) i x) e
    ∙ get_or-append_seam (places_below B L n) (place_of B L n) [] x
    ∙ ap (λ (i : ℕ). place_of B L i) (sym h))
    (λ h. absurd (let w : ⊥ = omega arith in w))

map_at : {A : Type 0} (f : ℕ → A) (es : List ℕ) (i : ℕ) (x : A) → i < length es → get_or (map f es) i x ≡ f (get_or es i 0)
map_at f [] i x l = absurd (let w : ⊥ = omega arith in w)
map_at f (e ∷ es) zero x l = refl
map_at f (e ∷ es) (suc i) x l = map_at f es i x (omega arith)

module _ (B : Book) (L : List Chain) where
  abbrev firsts : ℕ → ℕ
  firsts = first_edge (delta B) (outs B) (marks B) L

  abbrev pub at_edge : ℕ → ℕ → EdgeRecord
  at_edge p a = edge_record a (number L (step (delta B) (get_or L p []) a))

  -- edge i of the place p stands at the place's first edge and its own number
  pub edge_at_lem : (n p i : ℕ) (x : EdgeRecord) → p < n → i < length (outs B (head (get_or L p [])))
      → get_or (edges_below B L n) (firsts p + i) x ≡ at_edge p (get_or (outs B (head (get_or L p []))) i 0)
  unfolding edges_below
  edge_at_lem zero p i x l k = absurd (let w : ⊥ = omega arith in w)
  edge_at_lem (suc n) p i x l k =
      let len = length_edges B L n in
      by_order p n
      (λ h.
      let s = first_edge-suc (delta B) (outs B) (marks B) L p in
      let up = first_edge_mono (delta B) (outs B) (marks B) L (suc p) n (omega arith) in
      get_or-append (edges_below B L n) (edges_of B L n) x (firsts p + i) (omega arith) ∙ edge_at_lem n p i x h k)
      (λ h.
      let g : firsts p + i ≡ length (edges_below B L n) + i = ap (λ (q : ℕ). firsts q + i) h ∙ omega arith in
      let k' : i < length (outs B (head (get_or L n []))) =
      subst (λ (q : ℕ). i < length (outs B (head (get_or L q [])))) h k in
      ap (λ (j : ℕ). get_or (edges_below B L n ++ edges_of B L n) j x) g
      ∙ get_or-append-add (edges_below B L n) (edges_of B L n) i x
      ∙ map_at (at_edge n) (outs B (head (get_or L n []))) i x k'
      ∙ ap (λ (q : ℕ). at_edge q (get_or (outs B (head (get_or L q []))) i 0)) (sym h))
      (λ h. absurd (let w : ⊥ = omega arith in w))

module _ (B : Book) (L : List Chain) where
  abbrev places : List ℕ
  places = spread form1.place_bytes (places_below B L (length L))

  abbrev edges : List ℕ
  edges = spread form1.edge_bytes (edges_below B L (length L))

  abbrev trailer : List ℕ
  trailer = form1.trailer_bytes (trailer_of form1 (length L) (edge_count B L))

  pub length_image : length (image_bytes form1 B L) ≡ size_of form1 (length L) (edge_count B L)
  unfolding image_bytes
  length_image =
      let a = length-append places (edges ++ trailer) in
      let b = length-append edges trailer in
      let c = place_bytes B L (length L) in
      let d = edge_bytes B L (length L) in
      omega arith

  pub image_place : (p : ℕ) → p < length L → Fits (place_of B L p) → place_at form1 (image_bytes form1 B L) p ≡ place_of B L p
  unfolding image_bytes place_at
  image_place p l F =
      let n = length-places B L (length L) in
      let r = get_or (places_below B L (length L)) p (place_of B L p) in
      let e : r ≡ place_of B L p = place_at_lem B L (length L) p (place_of B L p) l in
      place_back (image_bytes form1 B L) (14 * p) (place_of B L p)
      (record {
        byte = λ j h.
            spread_at form1.place_bytes 14 (λ x. refl) (places_below B L (length L)) (place_of B L p) p j (omega arith) h
            (edges ++ trailer)
            ∙ ap (λ (z : PlaceRecord). get_or (form1.place_bytes z) j 0) e;
      }) F

  -- past the place records
  past : (j : ℕ) → get_or (places ++ (edges ++ trailer)) (14 * length L + j) 0 ≡ get_or (edges ++ trailer) j 0
  past j =
      let c = place_bytes B L (length L) in
      let e : 14 * length L + j ≡ length places + j = omega arith in
      rw e (get_or-append-add places (edges ++ trailer) j 0)

  pub image_edge : (j : ℕ) (x : EdgeRecord) → j < edge_count B L → (get_or (edges_below B L (length L)) j x).target < 65536
      → edge_at form1 (image_bytes form1 B L) (length L) j ≡ get_or (edges_below B L (length L)) j x
  unfolding image_bytes edge_at
  image_edge j x l small =
      let n = length_edges B L (length L) in
      edge_back (image_bytes form1 B L) (14 * length L + 4 * j) (get_or (edges_below B L (length L)) j x)
      (record {
        byte = λ i h.
            let e : 14 * length L + 4 * j + i ≡ 14 * length L + (4 * j + i) = omega arith in
            rw e (past (4 * j + i)
            ∙ spread_at form1.edge_bytes 4 (λ y. refl) (edges_below B L (length L)) x j i (omega arith) h trailer);
      }) small

  -- past the edge records
  end : (at j : ℕ) → at ≡ 14 * length L + 4 * edge_count B L + j
      → get_or (image_bytes form1 B L) at 0 ≡ get_or trailer j 0
  unfolding image_bytes
  end at j g =
      let d = edge_bytes B L (length L) in
      let e : at ≡ 14 * length L + (length edges + j) = omega arith in
      rw e (past (length edges + j) ∙ get_or-append-add edges trailer j 0)

  pub image_trailer : length L ≤ 1024 → edge_count B L ≤ 4096
      → Rattle.image.specs.Form.trailer_of form1 (image_bytes form1 B L) ≡ trailer_of form1 (length L) (edge_count B L)
  unfolding Rattle.image.specs.Form.trailer_of
  image_trailer l k =
      let n = length_image in
      trailer_back (image_bytes form1 B L) (length (image_bytes form1 B L) - 12) (trailer_of form1 (length L) (edge_count B L))
      (record { byte = λ j h. end (length (image_bytes form1 B L) - 12 + j) j (omega arith) })
      (omega arith) (omega arith) (omega arith) (omega arith)

  pub image_letters : has_letters (image_bytes form1 B L) ≡ true
  unfolding has_letters
  image_letters =
      let n = length_image in
      let e = end (length (image_bytes form1 B L) - 2) 10 (omega arith) in
      let f = end (length (image_bytes form1 B L) - 1) 11 (omega arith) in
      rw (e, f)
