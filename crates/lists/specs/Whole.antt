-- Records in bytes, for every list of whole records. Document 01, "Runs and lists".
--   record_at xs at       the eight bytes of the record that starts at a place
--   records_from n xs at  n records, one after the other
--   records_of xs         all whole records of a list
--   end_of r              the end of a record's bytes
--   joined rs             the bytes of a list of records
--   record_of, decoded    the record that eight bytes hold; the records that a list holds
use Rattle.std.specs.Prelude.{ℕ, zero, suc, ◌+◌, ◌/◌, List, [], ◌∷◌, ◌++◌, map, length, take, drop, get_or}
use Rattle.wire.specs.Little.{le16_at, le32_at}
use Rattle.wire.specs.Record.{record_size}
use Rattle.meaning.specs.Records.{Record, recorded}

abbrev pub record_at : List ℕ → ℕ → List ℕ
record_at xs at = take record_size (drop at xs)

unfoldable pub records_from : ℕ → List ℕ → ℕ → List (List ℕ)
records_from zero xs at = []
records_from (suc n) xs at = record_at xs at ∷ records_from n xs (at + record_size)

abbrev pub records_of : List ℕ → List (List ℕ)
records_of xs = records_from (length xs / record_size) xs 0

abbrev pub end_of : List ℕ → ℕ
end_of r = le32_at r 0

abbrev pub joined : List (List ℕ) → List ℕ
joined [] = []
joined (r ∷ rs) = r ++ joined rs

abbrev pub record_of : List ℕ → Record
record_of r = recorded (le32_at r 0) (le16_at r 4) (get_or r 6 0)

abbrev pub decoded : List ℕ → List Record
decoded xs = map record_of (records_of xs)
