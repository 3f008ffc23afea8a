-- The groups of events, for the listing. Document 01: 00-0F S system, 10-1F M measuring, 20-2F C calibration, 30-3F D
-- diagnosis, 40-4F W storing, 50-FF R reserved.
--   group_of event     the letter of an event's group
use Rattle.std.specs.Prelude.{◌&&◌, ℕ, leb}
use Prim.Native.Char.{Char}
use Rattle.meaning.specs.Choice.{when}
use Rattle.lists.specs.Letters.{letter}

abbrev pub within : ℕ → ℕ → ℕ → Char → ℕ → ℕ
within event from to c other = when (leb from event && leb event to) (letter c) other

unfoldable pub group_of : ℕ → ℕ
group_of event =
    within event 0x00 0x0F "S"
    (within event 0x10 0x1F "M"
    (within event 0x20 0x2F "C"
    (within event 0x30 0x3F "D"
    (within event 0x40 0x4F "W"
    (within event 0x50 0xFF "R" 0)))))
