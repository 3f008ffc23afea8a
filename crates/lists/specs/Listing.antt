-- The text of the listing. Document 01, "Books to try": numbers are decimal, one space stands between fields, and every
-- line ends with one line feed.
--   header_text             the first line
--   line_text, line_of      the line of a record: end, length, mark, and the group letter of the log's event number end
--   lines_text              the lines of a list of records
--   last_text               the last line: the image's place count and the run's steps
--   listing_text            the whole listing
--   refused_text            what a refusal prints
use Rattle.std.specs.Prelude.{List, [], ◌∷◌, ◌++◌, ℕ, get_or}
use Rattle.meaning.specs.Records.{Record}
use Rattle.lists.specs.Letters.{letters}
use Rattle.lists.specs.Decimal.{decimal}
use Rattle.lists.specs.Group.{group_of}

abbrev pub header_text : List ℕ
header_text = letters "end length mark last\n"

-- a number and the space after it
abbrev pub field : ℕ → List ℕ
field n = decimal n ++ letters " "

abbrev pub line_text : ℕ → ℕ → ℕ → ℕ → List ℕ
line_text end l mark last = field end ++ (field l ++ (field mark ++ (last ∷ letters "\n")))

-- the log's event number n, counting from 1; 0 where there is none
unfoldable pub event_number : List ℕ → ℕ → ℕ
event_number log n = get_or (0 ∷ log) n 0

abbrev pub line_of : List ℕ → Record → List ℕ
line_of log r = line_text r.end r.length r.mark (group_of (event_number log r.end))

unfoldable pub lines_text : List Record → List ℕ → List ℕ
lines_text [] log = []
lines_text (r ∷ rs) log = line_of log r ++ lines_text rs log

-- a line of two numbers
abbrev pub pair_text : List ℕ → ℕ → List ℕ → ℕ → List ℕ
pair_text first n second m = first ++ (decimal n ++ (second ++ (decimal m ++ letters "\n")))

abbrev pub last_text : ℕ → ℕ → List ℕ
last_text places steps = pair_text (letters "places ") places (letters " fails ") steps

abbrev pub refused_text : ℕ → ℕ → List ℕ
refused_text number place = pair_text (letters "refused ") number (letters " at ") place

unfoldable pub listing_text : List Record → List ℕ → ℕ → ℕ → List ℕ
listing_text rs log places steps = header_text ++ (lines_text rs log ++ last_text places steps)
