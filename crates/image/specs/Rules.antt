-- Refusals 17, 18 and 19 of an image. Document 01, "The image": the trailer, then every place record, then every
-- edge record. The lowest number wins, and within a number the first record.
--   trailer_right       17: trailer and length
--   place_right p sum x b  18: the record x of place p, after places with sum edges in all; b is the record of its
--                       fallback
--   places_fault        the first place record at fault, past the last where the counts do not add up
--   edge_right q level floor e reached  19: the edge record e of a place with that level, its event not below floor, its
--                       target's level reached
--   edges_fault         the first edge record at fault
--   image_rules, check_image  the refusals in their order; what a check answers: places and edges, or refused
use Rattle.std.specs.Prelude.{Bool, not, ◌&&◌, List, [], ◌∷◌, ℕ, zero, suc, ◌+◌, ◌*◌, length, eqb, leb, ltb}
use Rattle.std.specs.Prelude.{Option, None, Some}
use Rattle.meaning.specs.Choice.{when}
use Rattle.meaning.specs.Answer.{Answer, accepted, Rule, rule, rule_at, judged}
use Rattle.image.specs.Form.{PlaceRecord, EdgeRecord, Trailer, Form, form_of, size_of, place_at, edge_at, trailer_of}
use Rattle.image.specs.Form.{has_letters}

-- ---- 17
-- n is the image's length
abbrev pub counts_right : Form → ℕ → Trailer → Bool
counts_right f n t =
    eqb t.form f.number
    && leb 1 t.places
    && leb t.places f.most_places
    && leb t.edges f.most_edges
    && eqb t.distance (size_of f t.places t.edges)
    && eqb n (size_of f t.places t.edges)

unfoldable pub trailer_right : Form → List ℕ → Bool
trailer_right f xs = leb f.trailer_size (length xs) && has_letters xs && counts_right f (length xs) (trailer_of f xs)

-- ---- 18
-- the byte beside the mark
abbrev pub spare_right : ℕ → ℕ → Bool
spare_right mark spare = eqb spare 0

-- a marked place links to itself, any other to where its fallback links
abbrev pub link_of : ℕ → PlaceRecord → PlaceRecord → ℕ
link_of p x b = when (eqb x.mark 0) b.link p

unfoldable pub start_right : PlaceRecord → Bool
start_right x = eqb x.head 0 && eqb x.fallback 0 && eqb x.level 0 && eqb x.link 0 && eqb x.mark 0

unfoldable pub other_right : ℕ → PlaceRecord → PlaceRecord → Bool
other_right p x b =
    ltb x.fallback p
    && leb 1 x.head
    && leb x.head 511
    && ltb b.level x.level
    && eqb x.link (link_of p x b)

unfoldable pub place_right : ℕ → ℕ → PlaceRecord → PlaceRecord → Bool
place_right p sum x b =
    eqb x.first sum && spare_right x.mark x.spare && when (eqb p 0) (start_right x) (other_right p x b)

-- the first of left places from p on that is at fault
unfoldable pub places_fault : (ℕ → PlaceRecord) → ℕ → ℕ → ℕ → ℕ → Option ℕ
places_fault P t zero p sum = when (eqb sum t) None (Some p)
places_fault P t (suc left) p sum =
    when (place_right p sum (P p) (P (P p).fallback)) (places_fault P t left (p + 1) (sum + (P p).count)) (Some p)

-- ---- 19
unfoldable pub edge_right : ℕ → ℕ → ℕ → EdgeRecord → ℕ → Bool
edge_right q level floor e reached =
    ltb e.target q && eqb e.spare 0 && leb floor e.event && leb 1 e.target && leb reached (level + 1)

-- the first of one place's left edges from j on that is at fault: floor is one above the event before
unfoldable pub events_fault : (ℕ → PlaceRecord) → (ℕ → EdgeRecord) → ℕ → ℕ → ℕ → ℕ → ℕ → Option ℕ
events_fault P E q level zero j floor = None
events_fault P E q level (suc left) j floor =
    when (edge_right q level floor (E j) (P (E j).target).level)
    (events_fault P E q level left (j + 1) ((E j).event + 1))
    (Some j)

abbrev pub or_else : Option ℕ → Option ℕ → Option ℕ
or_else None o = o
or_else (Some i) o = Some i

-- the same of the edges of left places from p on, whose edges start at j
unfoldable pub edges_fault : (ℕ → PlaceRecord) → (ℕ → EdgeRecord) → ℕ → ℕ → ℕ → ℕ → Option ℕ
edges_fault P E q zero p j = None
edges_fault P E q (suc left) p j =
    or_else (events_fault P E q (P p).level (P p).count j 0) (edges_fault P E q left (p + 1) (j + (P p).count))

-- ---- the check
-- a record number as an offset: the records of that size start at base
abbrev pub offset : ℕ → ℕ → Option ℕ → Option ℕ
offset base size None = None
offset base size (Some i) = Some (base + size * i)

unfoldable pub image_rules : Form → List ℕ → List Rule
image_rules f xs =
    let q = (trailer_of f xs).places in
    let t = (trailer_of f xs).edges in
    rule 17 (not (trailer_right f xs)) 0
    ∷ rule_at 18 (offset 0 f.place_size (places_fault (place_at f xs) t q 0 0))
    ∷ rule_at 19 (offset (f.place_size * q) f.edge_size (edges_fault (place_at f xs) (edge_at f xs q) q q 0 0))
    ∷ []

unfoldable pub check_image : List ℕ → Answer
check_image xs =
    let t = trailer_of (form_of xs) xs in
    judged (image_rules (form_of xs) xs) (accepted t.places t.edges 0 0)
