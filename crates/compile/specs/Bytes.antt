-- A book's image in bytes, in any form. Document 01, "The image". L numbers the chains of the book B.
--   reported mark c     the chain from the first of its states that is marked; empty where none is
--   place_record, edge_record  a record of these numbers, its spare byte zero
--   place_of, edges_of  the record of place p; those of its edges, exactly the edges of its head
--   places_below, edges_below  the records of the places below p, and of their edges
--   edge_count B L      the number of all edges
--   spread g rs         the bytes of records, one after the other
--   image_bytes f B L   THE IMAGE: place records, edge records, trailer
use Rattle.std.specs.Prelude.{List, [], ◌∷◌, ◌++◌, map, ℕ, zero, suc, length, get_or, eqb}
use Rattle.meaning.specs.Choice.{when}
use Rattle.meaning.specs.Text.{Marks}
use Rattle.meaning.specs.Chain.{Chain, step, head, level, rest}
use Rattle.meaning.specs.Places.{number}
use Rattle.meaning.specs.Book.{Book, delta, outs, marks}
use Rattle.meaning.specs.Questions.{first_edge}
use Rattle.image.specs.Form.{PlaceRecord, EdgeRecord, Trailer, Form, size_of}

-- the link is the place itself if its head is marked, otherwise its fallback's link
abbrev pub reported : Marks → Chain → Chain
reported mark [] = []
reported mark (x ∷ c) = when (eqb (mark x.state) 0) (reported mark c) (x ∷ c)

abbrev pub place_record : ℕ → ℕ → ℕ → ℕ → ℕ → ℕ → ℕ → PlaceRecord
place_record f n b l h k m =
    record { first = f; count = n; fallback = b; level = l; head = h; link = k; mark = m; spare = 0 }

abbrev pub edge_record : ℕ → ℕ → EdgeRecord
edge_record a t = record { event = a; spare = 0; target = t }

abbrev pub trailer_of : Form → ℕ → ℕ → Trailer
trailer_of f q t = record { distance = size_of f q t; places = q; edges = t; form = f.number }

abbrev pub spread : {A : Type 0} → (A → List ℕ) → List A → List ℕ
spread g [] = []
spread g (r ∷ rs) = g r ++ spread g rs

module _ (B : Book) (L : List Chain) where
  unfoldable pub place_of : ℕ → PlaceRecord
  place_of p =
      let c = get_or L p [] in
      place_record (first_edge (delta B) (outs B) (marks B) L p) (length (outs B (head c))) (number L (rest c)) (level c)
      (head c) (number L (reported (marks B) c)) (marks B (head c))

  abbrev pub edges_for : Chain → List ℕ → List EdgeRecord
  edges_for c es = map (λ (a : ℕ). edge_record a (number L (step (delta B) c a))) es

  abbrev pub edges_of : ℕ → List EdgeRecord
  edges_of p = edges_for (get_or L p []) (outs B (head (get_or L p [])))

  unfoldable pub places_below : ℕ → List PlaceRecord
  places_below zero = []
  places_below (suc p) = places_below p ++ (place_of p ∷ [])

  unfoldable pub edges_below : ℕ → List EdgeRecord
  edges_below zero = []
  edges_below (suc p) = edges_below p ++ edges_of p

  abbrev pub edge_count : ℕ
  edge_count = first_edge (delta B) (outs B) (marks B) L (length L)

unfoldable pub image_bytes : Form → Book → List Chain → List ℕ
image_bytes f B L =
    spread f.place_bytes (places_below B L (length L))
    ++ (spread f.edge_bytes (edges_below B L (length L)) ++ f.trailer_bytes (trailer_of f (length L) (edge_count B L)))
