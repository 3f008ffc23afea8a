-- Little-endian numbers in a list of bytes. Document 01, "The book": numbers are little-endian.
--   le16_at, le32_at    the number of two or four bytes that starts at a place; a byte past the end reads as 0
--   bytes16, bytes32    a number in two or four bytes, the lowest first
--   put16_at, put32_at  the list after a number is written at a place; past the end nothing is
--   ByteIs, NumberIs    what a reader answers: the number, and that it is small
use Rattle.std.specs.Prelude.{ℕ, ◌+◌, ◌*◌, ◌/◌, ◌%◌, ◌<◌, List, [], ◌∷◌, ◌++◌, ◌≡◌, get_or, set}

abbrev pub le16_at : List ℕ → ℕ → ℕ
le16_at xs at = get_or xs at 0 + 256 * get_or xs (at + 1) 0

abbrev pub le32_at : List ℕ → ℕ → ℕ
le32_at xs at = le16_at xs at + 65536 * le16_at xs (at + 2)

abbrev pub bytes16 : ℕ → List ℕ
bytes16 v = v % 256 ∷ v / 256 % 256 ∷ []

abbrev pub bytes32 : ℕ → List ℕ
bytes32 v = bytes16 (v % 65536) ++ bytes16 (v / 65536 % 65536)

abbrev pub put16_at : List ℕ → ℕ → ℕ → List ℕ
put16_at xs at v = set (set xs at (v % 256)) (at + 1) (v / 256 % 256)

abbrev pub put32_at : List ℕ → ℕ → ℕ → List ℕ
put32_at xs at v = put16_at (put16_at xs at (v % 65536)) (at + 2) (v / 65536 % 65536)

pub record ByteIs (xs : List ℕ) (at r : ℕ) : Type 0 where
  pub is : r ≡ get_or xs at 0
  pub small : r < 256

pub record NumberIs (w limit r : ℕ) : Type 0 where
  pub is : r ≡ w
  pub small : r < limit
