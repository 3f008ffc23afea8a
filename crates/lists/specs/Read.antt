-- A record as the code reads it from its eight bytes.
--   Reads bytes r     r has the numbers of the record that the bytes hold
use Rattle.std.specs.Prelude.{List, ◌≡◌, ℕ, get_or}
use Rattle.wire.specs.Little.{le16_at, le32_at}
use Rattle.lists.specs.declared.Record.{Record}

pub record Reads (bytes : List ℕ) (r : Record) : Type 0 where
  pub end : r.end ≡ le32_at bytes 0
  pub length : r.length ≡ le16_at bytes 4
  pub mark : r.mark ≡ get_or bytes 6 0
