-- How an image lies in bytes. Document 01, "The image".
--   PlaceRecord, EdgeRecord, Trailer  the numbers of each record
--   Form                a form: its number and limits, the sizes of its records, the numbers and the bytes of each
--   form1, form_of      the form of document 01; the form of an image
--   size_of f q t       the length of an image with q places and t edges, which is also its distance
--   place_at, edge_at, trailer_of  the records of an image by number, and its trailer
--   letters, has_letters the last two bytes, SM in every form
use Rattle.std.specs.Prelude.{ℕ, ◌+◌, ◌*◌, ◌-◌, List, [], ◌∷◌, ◌++◌, Bool, ◌&&◌, length, get_or, eqb}
use Rattle.wire.specs.Little.{le16_at, le32_at, bytes16, bytes32}

pub record PlaceRecord : Type 0 where
  pub first : ℕ
  pub count : ℕ
  pub fallback : ℕ
  pub level : ℕ
  pub head : ℕ
  pub link : ℕ
  pub mark : ℕ
  pub spare : ℕ

pub record EdgeRecord : Type 0 where
  pub event : ℕ
  pub spare : ℕ
  pub target : ℕ

pub record Trailer : Type 0 where
  pub distance : ℕ
  pub places : ℕ
  pub edges : ℕ
  pub form : ℕ

pub record Form : Type 0 where
  pub number : ℕ
  pub most_places : ℕ
  pub most_edges : ℕ
  pub place_size : ℕ
  pub edge_size : ℕ
  pub trailer_size : ℕ
  -- the numbers of the record that starts at an offset
  pub place_from : List ℕ → ℕ → PlaceRecord
  pub edge_from : List ℕ → ℕ → EdgeRecord
  pub trailer_from : List ℕ → ℕ → Trailer
  -- the bytes of a record; the letters are the trailer's last
  pub place_bytes : PlaceRecord → List ℕ
  pub edge_bytes : EdgeRecord → List ℕ
  pub trailer_bytes : Trailer → List ℕ

abbrev pub letters : List ℕ
letters = 83 ∷ 77 ∷ []

abbrev pub form1 : Form
form1 =
    record {
      number = 1;
      most_places = 1024;
      most_edges = 4096;
      place_size = 14;
      edge_size = 4;
      trailer_size = 12;
      place_from =
          λ xs at.
          record {
            first = le16_at xs at;
            count = le16_at xs (at + 2);
            fallback = le16_at xs (at + 4);
            level = le16_at xs (at + 6);
            head = le16_at xs (at + 8);
            link = le16_at xs (at + 10);
            mark = get_or xs (at + 12) 0;
            spare = get_or xs (at + 13) 0;
          };
      edge_from = λ xs at. record { event = get_or xs at 0; spare = get_or xs (at + 1) 0; target = le16_at xs (at + 2) };
      trailer_from =
          λ xs at.
          record {
            distance = le32_at xs at;
            places = le16_at xs (at + 4);
            edges = le16_at xs (at + 6);
            form = le16_at xs (at + 8);
          };
      place_bytes =
          λ r.
          bytes16 r.first ++ (bytes16 r.count ++ (bytes16 r.fallback ++ (bytes16 r.level
          ++ (bytes16 r.head ++ (bytes16 r.link ++ (r.mark ∷ r.spare ∷ []))))));
      edge_bytes = λ r. r.event ∷ r.spare ∷ bytes16 r.target;
      trailer_bytes =
          λ r. bytes32 r.distance ++ (bytes16 r.places ++ (bytes16 r.edges ++ (bytes16 r.form ++ letters)));
    }

-- there is one form
abbrev pub form_of : List ℕ → Form
form_of xs = form1

abbrev pub size_of : Form → ℕ → ℕ → ℕ
size_of f q t = f.place_size * q + f.edge_size * t + f.trailer_size

unfoldable pub place_at : Form → List ℕ → ℕ → PlaceRecord
place_at f xs p = f.place_from xs (f.place_size * p)

-- the record of edge j, where there are q places
unfoldable pub edge_at : Form → List ℕ → ℕ → ℕ → EdgeRecord
edge_at f xs q j = f.edge_from xs (f.place_size * q + f.edge_size * j)

unfoldable pub trailer_of : Form → List ℕ → Trailer
trailer_of f xs = f.trailer_from xs (length xs - f.trailer_size)

unfoldable pub has_letters : List ℕ → Bool
has_letters xs = eqb (get_or xs (length xs - 2) 0) (get_or letters 0 0) && eqb (get_or xs (length xs - 1) 0) (get_or letters 1 0)
