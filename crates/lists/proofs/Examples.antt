-- Cases of document 01 and of its edges, computed: the short list, the part, the groups, decimal numbers, the listing.
-- Assumes nothing.
use mathlib.Core.Path.{◌≡◌, refl}
use mathlib.Core.List.{List, [], ◌∷◌, ◌++◌}
use Prim.Native.Nat.{ℕ}
use Rattle.wire.specs.Record.{record_bytes}
use Rattle.meaning.specs.Records.{recorded}
use Rattle.meaning.specs.Answer.{accepted, refused}
use Rattle.lists.specs.Whole.{records_from}
use Rattle.lists.specs.Short.{keep, short, short_answer, short_memory}
use Rattle.lists.specs.Part.{part_answer, part_of}
use Rattle.lists.specs.Letters.{letters}
use Rattle.lists.specs.Group.{group_of}
use Rattle.lists.specs.Decimal.{decimal}
use Rattle.lists.specs.Listing.{event_number, lines_text, listing_text, refused_text}

-- ---- the short list

-- ends may fall: 5, 3, 5 keeps all three
falling : List ℕ
falling = record_bytes 5 1 1 ++ (record_bytes 3 1 2 ++ record_bytes 5 2 3)

falling_answer : short_answer falling 24 ≡ accepted 3 0 0 0
unfolding falling short_answer short keep records_from
falling_answer = refl

falling_memory : short_memory falling (falling ++ (7 ∷ [])) ≡ falling ++ (7 ∷ [])
unfolding falling short_memory short_answer short keep records_from
falling_memory = refl

-- book C on 21 31 41: two records at end 3, and the short list has the first only; a byte past it is unchanged
twice : List ℕ
twice = record_bytes 3 3 5 ++ record_bytes 3 2 3

twice_answer : short_answer twice 9 ≡ accepted 1 0 0 0
unfolding twice short_answer short keep records_from
twice_answer = refl

twice_memory : short_memory twice (9 ∷ 9 ∷ 9 ∷ 9 ∷ 9 ∷ 9 ∷ 9 ∷ 9 ∷ 9 ∷ []) ≡ record_bytes 3 3 5 ++ (9 ∷ [])
unfolding twice short_memory short_answer short keep records_from
twice_memory = refl

-- three records at one end are one; the record just before it is not the last kept, but has its end
thrice : List ℕ
thrice = record_bytes 4 9 1 ++ (record_bytes 4 2 1 ++ (record_bytes 4 1 1 ++ record_bytes 0 1 1))

thrice_answer : short_answer thrice 16 ≡ accepted 2 0 0 0
unfolding thrice short_answer short keep records_from
thrice_answer = refl

-- no record at all, no whole record, and a buffer of 12 bytes, which holds one
none_answer : short_answer [] 0 ≡ accepted 0 0 0 0
unfolding short_answer short keep records_from
none_answer = refl

odd_answer : short_answer (1 ∷ 2 ∷ 3 ∷ []) 0 ≡ refused 22 0
unfolding short_answer short keep records_from
odd_answer = refl

tight_answer : short_answer falling 12 ≡ refused 23 0
unfolding falling short_answer short keep records_from
tight_answer = refl

-- ---- the part of a log

log : List ℕ
log = 0x21 ∷ 0x31 ∷ 0x22 ∷ 0x41 ∷ []

part_a : part_of log 0 4 3 ≡ 0x31 ∷ 0x22 ∷ 0x41 ∷ []
unfolding log part_of part_answer
part_a = refl

part_a_answer : part_answer log 0 4 3 ≡ accepted 1 3 0 0
unfolding log part_answer
part_a_answer = refl

part_whole : part_of log 4294967291 4294967295 4 ≡ log
unfolding log part_of part_answer
part_whole = refl

part_high_base : part_answer log 4294967292 4294967295 3 ≡ refused 21 0
unfolding log part_answer
part_high_base = refl

part_no_length : part_answer log 0 4 0 ≡ refused 24 0
unfolding log part_answer
part_no_length = refl

part_long_length : part_answer log 0 4 5 ≡ refused 24 0
unfolding log part_answer
part_long_length = refl

part_before_log : part_answer log 10 12 3 ≡ refused 24 0
unfolding log part_answer
part_before_log = refl

part_below_base : part_answer log 10 9 1 ≡ refused 24 0
unfolding log part_answer
part_below_base = refl

part_after-log : part_answer log 10 15 1 ≡ refused 24 0
unfolding log part_answer
part_after-log = refl

-- ---- the groups, at the ends of their ranges

abbrev group_ends : List ℕ
group_ends =
    group_of 0x00 ∷ group_of 0x0F ∷ group_of 0x10 ∷ group_of 0x1F ∷ group_of 0x20 ∷ group_of 0x2F
    ∷ group_of 0x30 ∷ group_of 0x3F ∷ group_of 0x40 ∷ group_of 0x4F ∷ group_of 0x50 ∷ group_of 0xFF ∷ []

groups : group_ends ≡ letters "SSMMCCDDWWRR"
unfolding group_of
groups = refl

-- ---- decimal numbers

decimal-zero : decimal 0 ≡ letters "0"
unfolding decimal
decimal-zero = refl

decimal_nine : decimal 9 ≡ letters "9"
unfolding decimal
decimal_nine = refl

decimal_ten : decimal 10 ≡ letters "10"
unfolding decimal
decimal_ten = refl

decimal_word : decimal 4294967295 ≡ letters "4294967295"
unfolding decimal
decimal_word = refl

decimal_long : decimal 18446744073709551615 ≡ letters "18446744073709551615"
unfolding decimal
decimal_long = refl

-- ---- the listing of book A on 21 31 22 41, whole

listing : listing_text (recorded 4 3 5 ∷ []) log 6 1 ≡ letters "end length mark last\n4 3 5 W\nplaces 6 fails 1\n"
unfolding log listing_text lines_text event_number group_of decimal
listing = refl

refusal : refused_text 10 24 ≡ letters "refused 10 at 24\n"
unfolding decimal
refusal = refl
