-- The lines of a listing. `lines_append`: a list in two parts. `lines_more`: the line of a record more; `line_read`: as
-- the code reads it. `line_length`, `lines_length`, `last_length`, `refused_length`: what a buffer must hold. Assumes
-- nothing.
use mathlib.Core.Path.{◌≡◌, refl, sym, ap, subst, ◌∙◌}
use mathlib.Core.List.{List, [], ◌∷◌, ◌++◌, map, append_assoc, append-nil}
use Prim.Native.Nat.{ℕ, zero, suc, ◌+◌, ◌*◌, ◌-◌, ◌/◌, ◌^◌, ◌≤◌, ◌<◌}
use native.Mathlib.Omega.{arith}
use lib.ListN.{length, take, get_or, length-append}
use lib.Dec.{lit≤}
use Rattle.wire.specs.Little.{le16_at, le32_at}
use Rattle.meaning.specs.Records.{Record}
use Rattle.lists.specs.Whole.{record_at, records_from, record_of, decoded}
use Rattle.lists.specs.Group.{group_of}
use Rattle.lists.specs.Letters.{letters}
use Rattle.lists.specs.Decimal.{decimal}
use Rattle.lists.specs.Listing.{field, line_text, line_of, event_number, lines_text, pair_text, last_text, refused_text}
use Rattle.std.proofs.lemmas.List.{map_more}
use Rattle.lists.specs.Read.{Reads}
use Rattle.lists.specs.declared.Record.{Record as Read}
use Rattle.lists.proofs.Whole.{record_of_at}
use Rattle.lists.proofs.Decimal.{decimal-length}

pub event_none : (log : List ℕ) (n : ℕ) → n ≡ 0 → 0 ≡ event_number log n
unfolding event_number
event_none log n e = rw e

pub event_at : (log : List ℕ) (n : ℕ) → (n ≡ 0 → ⊥) → get_or log (n - 1) 0 ≡ event_number log n
unfolding event_number
event_at log zero ne = absurd (ne refl)
event_at log (suc n) ne = let e : suc n - 1 ≡ n = omega arith in rw e

-- a list in two parts is listed one after the other
pub lines_append : (rs ss : List Record) (log : List ℕ) → lines_text (rs ++ ss) log ≡ lines_text rs log ++ lines_text ss log
unfolding lines_text
lines_append [] ss log = refl
lines_append (r ∷ rs) ss log =
    ap (λ (t : List ℕ). line_of log r ++ t) (lines_append rs ss log)
    ∙ sym (append_assoc (line_of log r) (lines_text rs log) (lines_text ss log))

-- the line of a record more
pub lines_more : (log : List ℕ) (rs : List (List ℕ)) (i : ℕ) → i < length rs
    → lines_text (map record_of (take (i + 1) rs)) log
    ≡ lines_text (map record_of (take i rs)) log ++ line_of log (record_of (get_or rs i []))
unfolding lines_text
lines_more log rs i h =
    let r = record_of (get_or rs i []) in
    let front = map record_of (take i rs) in
    ap (λ (qs : List Record). lines_text qs log) (map_more record_of rs i [] h)
    ∙ lines_append front (r ∷ []) log
    ∙ ap (λ (t : List ℕ). lines_text front log ++ t) (append-nil (line_of log r))

-- as the code reads it
pub line_read : (log bytes : List ℕ) (r : Read) (l m letter : ℕ) → Reads bytes r → l ≡ r.length → m ≡ r.mark
    → letter ≡ group_of (event_number log r.end) → line_text r.end l m letter ≡ line_of log (record_of bytes)
line_read log bytes r l m letter reads p q f =
    rw (f, p, q, reads.end, reads.length, reads.mark)

field-length : (n k : ℕ) → n < 10 ^ k → 1 ≤ k → length (field n) ≤ k + 1
field-length n k h g = omega (arith, length-append (decimal n) (letters " "), decimal-length n k h g)

-- a line of a record has at most 23 bytes
pub line_length : (end l mark letter : ℕ) → end < 4294967296 → l < 65536 → mark < 256
    → length (line_text end l mark letter) ≤ 23
line_length end l mark letter he hl hm =
    omega (
      arith,
      field-length end 10 (omega arith) (lit≤ tt),
      field-length l 5 (omega arith) (lit≤ tt),
      field-length mark 3 (omega arith) (lit≤ tt),
      length-append (field end) (field l ++ (field mark ++ (letter ∷ letters "\n"))),
      length-append (field l) (field mark ++ (letter ∷ letters "\n")),
      length-append (field mark) (letter ∷ letters "\n"),
    )

module _ (records log : List ℕ) (small : (k : ℕ) → get_or records k 0 < 256) where
  record_length : (at : ℕ) → length (line_of log (record_of (record_at records at))) ≤ 23
  record_length at =
      subst (λ (r : Record). length (line_of log r) ≤ 23) (sym (record_of_at records at))
      (line_length (le32_at records at) (le16_at records (at + 4)) (get_or records (at + 6) 0)
      (group_of (event_number log (le32_at records at)))
      (omega (arith, small at, small (at + 1), small (at + 2), small (at + 2 + 1)))
      (omega (arith, small (at + 4), small (at + 4 + 1)))
      (small (at + 6)))

  lines_within : (n at : ℕ) → length (lines_text (map record_of (records_from n records at)) log) ≤ 23 * n
  unfolding lines_text records_from
  lines_within zero at = omega arith
  lines_within (suc n) at =
      let here = line_of log (record_of (record_at records at)) in
      let rest = lines_text (map record_of (records_from n records (at + 8))) log in
      omega (arith, length-append here rest, record_length at, lines_within n (at + 8))

  -- a buffer of 23 bytes for each record holds their lines
  pub lines_length : length (lines_text (decoded records) log) ≤ 23 * (length records / 8)
  lines_length = lines_within (length records / 8) 0

-- 64 bytes hold either line of two numbers
pair_length : (first : List ℕ) (n : ℕ) (second : List ℕ) (m : ℕ) → n < 18446744073709551616 → m < 18446744073709551616
    → length (pair_text first n second m) ≤ length first + length second + 41
pair_length first n second m hn hm =
    omega (
      arith,
      decimal-length n 20 (omega arith) (lit≤ tt),
      decimal-length m 20 (omega arith) (lit≤ tt),
      length-append first (decimal n ++ (second ++ (decimal m ++ letters "\n"))),
      length-append (decimal n) (second ++ (decimal m ++ letters "\n")),
      length-append second (decimal m ++ letters "\n"),
      length-append (decimal m) (letters "\n"),
    )

pub last_length : (places steps : ℕ) → places < 18446744073709551616 → steps < 18446744073709551616
    → length (last_text places steps) ≤ 64
last_length places steps hp hs = omega (arith, pair_length (letters "places ") places (letters " fails ") steps hp hs)

pub refused_length : (number place : ℕ) → number < 18446744073709551616 → place < 18446744073709551616
    → length (refused_text number place) ≤ 64
refused_length number place hn hp = omega (arith, pair_length (letters "refused ") number (letters " at ") place hn hp)
