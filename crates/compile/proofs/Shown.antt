-- The image of a book in bytes shows the book: its questions are those of `image_of`. `Fine B L` is what an accepted
-- book with few enough places and edges gives; L numbers its chains. `place_shown`, `edge-shown`: the records in the
-- bytes; `image_alike`: every question below the counts has the answer of `image_of`, so that walks and runs are the
-- same. Assumes nothing.
use mathlib.Core.Path.{◌≡◌, refl, sym, ap, ◌∙◌, subst}
use mathlib.Core.Logic.{◌≢◌}
use Rattle.std.specs.Prelude.{Option, Some}
use mathlib.Core.List.{List, [], ◌∷◌, ◌++◌, map, Memᴰ}
use Prim.Native.Nat.{ℕ, zero, suc, ◌+◌, ◌-◌, ◌≤◌, ◌<◌}
use native.Mathlib.Omega.{arith}
use lib.ListN.{length, get_or, length-append, get_or-append, get_or-map}
use lib.Seq.{get_or-append-add}
use lib.Dec.{eqb}
use Rattle.meaning.specs.Chain.{Live, Chain, step, head, level, rest}
use Rattle.meaning.specs.Places.{number, Numbers}
use Rattle.meaning.specs.Book.{Book, delta, outs, marks}
use Rattle.meaning.specs.Questions.{Image, index_from, first_edge, targets_below, image_of, Levels}
use Rattle.meaning.proofs.Cases.{by_bool, by_eq, by_order, none_some}
use Rattle.meaning.proofs.Book.{Rising, Under, delta_names, delta_only}
use Rattle.meaning.proofs.Chain.{chain_is}
use Rattle.meaning.proofs.Places.{number_is, number-zero, number_step, place_reached, some_place}
use Rattle.meaning.proofs.Edges.{first_edge-suc, first_edge_mono}
use Rattle.meaning.proofs.Image.{image_levels}
use Rattle.meaning.proofs.Small.{member_small}
use Rattle.image.specs.Form.{PlaceRecord, EdgeRecord, Trailer, form1, place_at, edge_at}
use Rattle.image.specs.Questions.{seek, questions_at, questions}
use Rattle.compile.specs.Bytes.{reported, edge_record, place_of, edges_for, edges_of, edges_below, edge_count, image_bytes}
use Rattle.compile.proofs.Records.{length_edges}
use Rattle.compile.proofs.Back.{Fits, at_edge, edge_at_lem, image_place, image_edge, image_trailer}
use Rattle.meaning.proofs.Alike.{Alike}

pub record Fine (B : Book) (L : List Chain) : Type 0 where
  pub numbers : Numbers (delta B) L
  pub low : (i : ℕ) → i < length L → level (get_or L i []) ≤ i
  pub few_places : length L ≤ 1024
  pub few_edges : edge_count B L ≤ 4096
  pub up : Rising (delta B)
  pub under : Under 512 (delta B)
  pub start : marks B 0 ≡ 0
  pub rise : (q i k : ℕ) → i < k → k < length (outs B q) → get_or (outs B q) i 0 < get_or (outs B q) k 0

map-append : {A B : Type 0} (f : A → B) (xs ys : List A) → map f (xs ++ ys) ≡ map f xs ++ map f ys
map-append f [] ys = refl
map-append f (x ∷ xs) ys = ap {B = List _} (λ r. f x ∷ r) (map-append f xs ys)

module _ {B : Book} {L : List Chain} (F : Fine B L) where
  abbrev firsts : ℕ → ℕ
  firsts = first_edge (delta B) (outs B) (marks B) L

  abbrev model : Image
  model = image_of (delta B) (outs B) (marks B) L

  pub model_levels : Levels model
  model_levels = image_levels (delta B) (outs B) (marks B) L (delta_names B) (delta_only B) F.numbers

  -- ---- a place's numbers are small
  pub head_small : (p : ℕ) → p < length L → (x : Live) (c : Chain) → get_or L p [] ≡ x ∷ c → (x.state ≢ 0) × (x.state < 512)
  head_small p l x c e =
      let r = place_reached (delta B) L F.numbers p l in
      let m = subst (λ (z : Chain). Memᴰ x z) (sym (r.1 ∙ e)) (Memᴰ.head refl) in (
        ((chain_is (delta B) r.0).reaches x.state x.reach m).0,
        (member_small (delta B) 512 (omega arith) F.up F.under r.0 x m).1,
      )

  head_low : (p : ℕ) → p < length L → head (get_or L p []) < 512
  head_low p l = go (get_or L p []) refl
    where
      go : (c : Chain) → get_or L p [] ≡ c → head c < 512
      go [] e = omega arith
      go (x ∷ c) e = (head_small p l x c e).1

  pub fallback_low : (p : ℕ) → p < length L → number L (rest (get_or L p [])) < length L
  fallback_low p l =
      by_eq p 0
      (λ z.
      let e : get_or L p [] ≡ [] = ap (λ (i : ℕ). get_or L i []) z ∙ F.numbers.first in
      let n = number-zero (delta B) L F.numbers in
      rw e (omega arith))
      (λ nz. let d = model_levels.lower p l nz in omega arith)

  -- the chain from its first marked state on has a place
  link_at : (c : Chain) (p : ℕ) → p < length L → get_or L p [] ≡ c → number L (reported (marks B) c) < length L
  link_at [] p l e = let n = number-zero (delta B) L F.numbers in omega arith
  link_at (x ∷ c) p l e =
      by_bool (eqb (marks B x.state) 0)
      (λ m. let j = F.numbers.fallback p x c l e in let k = j.1 in rw m (link_at c j.0 (omega arith) j.2))
      (λ m. let n = number_is L F.numbers.once p (x ∷ c) l e in rw m (omega arith))

  count_low : (p : ℕ) → p < length L → firsts p + length (outs B (head (get_or L p []))) ≤ edge_count B L
  count_low p l =
      let s = first_edge-suc (delta B) (outs B) (marks B) L p in
      let m = first_edge_mono (delta B) (outs B) (marks B) L (suc p) (length L) (omega arith) in
      omega arith

  place_fits : (p : ℕ) → p < length L → Fits (place_of B L p)
  unfolding place_of
  place_fits p l =
      let few = F.few_places in
      let all = F.few_edges in
      let n = count_low p l in
      let f = fallback_low p l in
      let v = F.low p l in
      let h = head_low p l in
      let k = link_at (get_or L p []) p l refl in
      record {
        first = omega arith;
        count = omega arith;
        fallback = omega arith;
        level = omega arith;
        head = omega arith;
        link = omega arith;
      }

  pub place_shown : (p : ℕ) → p < length L → place_at form1 (image_bytes form1 B L) p ≡ place_of B L p
  place_shown p l = image_place B L p l (place_fits p l)

  pub count_shown : (p : ℕ) → p < length L
      → (place_at form1 (image_bytes form1 B L) p).count ≡ length (outs B (head (get_or L p [])))
  unfolding place_of
  count_shown p l = ap (λ (r : PlaceRecord). r.count) (place_shown p l)

  pub level-shown : (p : ℕ) → p < length L → (place_at form1 (image_bytes form1 B L) p).level ≡ level (get_or L p [])
  unfolding place_of
  level-shown p l = ap (λ (r : PlaceRecord). r.level) (place_shown p l)

  -- ---- an edge's target
  pub target_low : (p a : ℕ) → p < length L → number L (step (delta B) (get_or L p []) a) < length L
  target_low p a l = (number_step (delta B) L F.numbers p a l).0

  abbrev blank : EdgeRecord
  blank = edge_record 0 0

  pub edge-shown : (p i : ℕ) → p < length L → i < length (outs B (head (get_or L p [])))
      → edge_at form1 (image_bytes form1 B L) (length L) (firsts p + i) ≡ at_edge B L p (get_or (outs B (head (get_or L p []))) i 0)
  edge-shown p i l k =
      let e = edge_at_lem B L (length L) p i blank l k in
      let few = F.few_places in
      let t = target_low p (get_or (outs B (head (get_or L p []))) i 0) l in
      let n = count_low p l in
      let small : (get_or (edges_below B L (length L)) (firsts p + i) blank).target < 65536 =
      subst (λ (r : EdgeRecord). r.target < 65536) (sym e) (omega arith) in
      image_edge B L (firsts p + i) blank (omega arith) small ∙ e

  -- ---- the targets of all edges
  edges_targets : (n : ℕ)
      → map (λ (r : EdgeRecord). r.target) (edges_below B L n) ≡ targets_below (delta B) (outs B) (marks B) L n
  unfolding edges_below targets_below
  edges_targets zero = refl
  edges_targets (suc n) =
      map-append (λ (r : EdgeRecord). r.target) (edges_below B L n) (edges_of B L n)
      ∙ rw (edges_targets n, own (outs B (head (get_or L n []))))
    where
      own : (es : List ℕ) → map (λ (r : EdgeRecord). r.target) (edges_for B L (get_or L n []) es)
          ≡ map (λ (a : ℕ). number L (step (delta B) (get_or L n []) a)) es
      own [] = refl
      own (a ∷ es) = ap {B = List ℕ} (λ r. number L (step (delta B) (get_or L n []) a) ∷ r) (own es)

  targets_small : (n : ℕ) → n ≤ length L → (j : ℕ) → j < length (edges_below B L n)
      → (get_or (edges_below B L n) j blank).target < length L
  unfolding edges_below
  targets_small zero l j h = absurd (let w : ⊥ = omega arith in w)
  targets_small (suc n) l j h =
      let es = outs B (head (get_or L n [])) in
      let len = length-append (edges_below B L n) (edges_of B L n) in
      by_order j (length (edges_below B L n))
      (λ k.
      rw (get_or-append (edges_below B L n) (edges_of B L n) blank j k) (targets_small n (omega arith) j k))
      (λ k. own j (omega arith)) (λ k. own j (omega arith))
    where
      own : (j : ℕ) → length (edges_below B L n) ≤ j → (get_or (edges_below B L n ++ edges_of B L n) j blank).target < length L
      own j k =
          let i = j - length (edges_below B L n) in
          let e : j ≡ length (edges_below B L n) + i = omega arith in
          rw (e, get_or-append-add (edges_below B L n) (edges_of B L n) i blank)
          (among (outs B (head (get_or L n []))) i)
        where
          among : (es : List ℕ) (i : ℕ) → (get_or (edges_for B L (get_or L n []) es) i blank).target < length L
          among [] i = let s = some_place (delta B) L F.numbers in omega arith
          among (a ∷ es) zero = target_low n a (omega arith)
          among (a ∷ es) (suc i) = among es i

  pub target_shown : (j : ℕ) → j < edge_count B L
      → (edge_at form1 (image_bytes form1 B L) (length L) j).target ≡ model.target j
  target_shown j l =
      let n = length_edges B L (length L) in
      let few = F.few_places in
      let small = targets_small (length L) (omega arith) j (omega arith) in
      ap (λ (r : EdgeRecord). r.target) (image_edge B L j blank l (omega arith))
      ∙ sym (get_or-map (λ (r : EdgeRecord). r.target) (edges_below B L (length L)) j blank)
      ∙ ap (λ (z : List ℕ). get_or z j 0) (edges_targets (length L))

  -- ---- every question has the answer of the model
  seek_index : (E : ℕ → EdgeRecord) (a : ℕ) (es : List ℕ) (j : ℕ) → ((i : ℕ) → i < length es → (E (j + i)).event ≡ get_or es i 0)
      → seek E a (length es) j ≡ index_from j es a
  unfolding seek
  seek_index E a [] j h = refl
  seek_index E a (b ∷ es) j h =
      let z : j + 0 ≡ j = omega arith in
      let here : (E j).event ≡ b = rw z at (h 0 (omega arith)) in
      let e : j + 1 ≡ suc j = omega arith in
      let there : seek E a (length es) (j + 1) ≡ index_from (suc j) es a =
      seek_index E a es (j + 1)
      (λ i l. let g : j + 1 + i ≡ j + suc i = omega arith in rw g (h (suc i) (omega arith)))
      ∙ ap (λ (k : ℕ). index_from k es a) e in
      rw (here, there)

  found_inside : (es : List ℕ) (j k a : ℕ) → index_from j es a ≡ Some k → k < j + length es
  found_inside [] j k a e = none_some refl e
  found_inside (b ∷ es) j k a e =
      by_bool (eqb b a)
      (λ h. let g : ◌≡◌ {A = Option ℕ} (Some j) (Some k) = sym (rw h) ∙ e in let z : j ≡ k = cc in omega arith)
      (λ h. let i = found_inside es (suc j) k a (sym (rw h) ∙ e) in omega arith)

  pub image_alike : Alike (questions (image_bytes form1 B L)) model
  unfolding place_of
  image_alike =
      let xs = image_bytes form1 B L in
      let n = ap (λ (t : Trailer). t.places) (image_trailer B L F.few_places F.few_edges) in
      subst (λ (q : ℕ). Alike (questions_at form1 xs q) model) (sym n)
      (record {
        count = refl;
        fallback = λ p l. ap (λ (r : PlaceRecord). r.fallback) (place_shown p l);
        level = λ p l. ap (λ (r : PlaceRecord). r.level) (place_shown p l);
        mark = λ p l. ap (λ (r : PlaceRecord). r.mark) (place_shown p l);
        find = λ p a l.
            ap (λ (r : PlaceRecord). seek (edge_at form1 xs (length L)) a r.count r.first) (place_shown p l)
            ∙ seek_index (edge_at form1 xs (length L)) a (outs B (head (get_or L p []))) (firsts p)
            (λ i k. ap (λ (r : EdgeRecord). r.event) (edge-shown p i l k));
        target = λ p a j l e.
            let i = found_inside (outs B (head (get_or L p []))) (firsts p) j a e in
            let c = count_low p l in
            target_shown j (omega arith);
      })
