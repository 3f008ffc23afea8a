-- A record of a run in bytes. Document 01, "Runs and lists".
--   record_size         8 bytes a record
--   spare_byte          the last byte of a record: zero
--   record_bytes e n m  end in four bytes, length in two, mark, the spare byte
use Rattle.std.specs.Prelude.{ℕ, List, [], ◌∷◌, ◌++◌}
use Rattle.wire.specs.Little.{bytes16, bytes32}

abbrev pub record_size : ℕ
record_size = 8

abbrev pub spare_byte : ℕ
spare_byte = 0

abbrev pub record_bytes : ℕ → ℕ → ℕ → List ℕ
record_bytes e n m = bytes32 e ++ (bytes16 n ++ (m ∷ spare_byte ∷ []))
