-- What is asked of an image, from its records.
--   seek E a left j      the number of the first of left edges from j on with the event a
--   questions_at f xs q  the questions of an image with q places in the form f
--   questions xs         the questions of the image xs, with the count of its trailer
use Rattle.std.specs.Prelude.{Option, None, Some}
use Rattle.std.specs.Prelude.{List, ℕ, zero, suc, ◌+◌, eqb}
use Rattle.meaning.specs.Choice.{when}
use Rattle.meaning.specs.Questions.{Image}
use Rattle.image.specs.Form.{EdgeRecord, Form, form_of, place_at, edge_at, trailer_of}

unfoldable pub seek : (ℕ → EdgeRecord) → ℕ → ℕ → ℕ → Option ℕ
seek E a zero j = None
seek E a (suc left) j = when (eqb (E j).event a) (Some j) (seek E a left (j + 1))

-- the edges of a place stand together, from its first on
abbrev pub questions_at : Form → List ℕ → ℕ → Image
questions_at f xs q =
    record {
      count = q;
      fallback = λ p. (place_at f xs p).fallback;
      level = λ p. (place_at f xs p).level;
      mark = λ p. (place_at f xs p).mark;
      find = λ p a. seek (edge_at f xs q) a (place_at f xs p).count (place_at f xs p).first;
      target = λ j. (edge_at f xs q j).target;
    }

abbrev pub questions : List ℕ → Image
questions xs = questions_at (form_of xs) xs (trailer_of (form_of xs) xs).places
