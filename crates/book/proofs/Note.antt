-- THE NOTE: what stands before the state table changes neither the answer nor the book, within the file's limit.
-- Assumes nothing.
--   note_check, note_book   a note before bytes that hold all that their trailer names: the same answer, refusals
--                           too, and the same book
--   same_end                two books with the same end, as far back as its trailer says: the same answer and book
--   note_accepted           an accepted book with a note is accepted alike, and is the same book
use mathlib.Core.Path.{◌≡◌, sym, ◌∙◌}
use mathlib.Core.List.{List, ◌++◌}
use Prim.Native.Nat.{ℕ, ◌+◌, ◌-◌, ◌≤◌}
use native.Mathlib.Omega.{arith}
use lib.ListN.{length, get_or, length-append}
use lib.Seq.{get_or-append-add, drop-append-add}
use borrow.Author.Tests.{le-ltb}
use Rattle.wire.specs.Little.{le16_at, le32_at}
use Rattle.meaning.specs.Answer.{accepted}
use Rattle.book.specs.Form.{most_bytes, trailer_size, SB, letters_right, trailer_at, trailer_of, table_at, table_of}
use Rattle.book.specs.Model.{book_of}
use Rattle.book.specs.Rules.{check_book}
use Rattle.book.proofs.Accepted.{trailer_is}

module _ (ns xs : List ℕ) where
  byte-after : (k at : ℕ) → at ≡ length ns + k → get_or (ns ++ xs) at 0 ≡ get_or xs k 0
  byte-after k at e = rw e (get_or-append-add ns xs k 0)

  le16_after : (k at : ℕ) → at ≡ length ns + k → le16_at (ns ++ xs) at ≡ le16_at xs k
  le16_after k at e = omega (arith, byte-after k at e, byte-after (k + 1) (at + 1) (omega arith))

  le32_after : (k at : ℕ) → at ≡ length ns + k → le32_at (ns ++ xs) at ≡ le32_at xs k
  le32_after k at e = omega (arith, le16_after k at e, le16_after (k + 2) (at + 2) (omega arith))

  -- the trailer and the letters, where all of the trailer is in xs
  module _ (whole : trailer_size ≤ length xs) where
    trailer_from : (k : ℕ) → trailer_at (ns ++ xs) + k ≡ length ns + (trailer_at xs + k)
    trailer_from k = let l = length-append ns xs in omega arith

    note_trailer : trailer_of (ns ++ xs) ≡ trailer_of xs
    unfolding trailer_of
    note_trailer =
        let e : trailer_at (ns ++ xs) ≡ length ns + trailer_at xs = (let f = trailer_from 0 in omega arith) in
        λ i. record {
          distance = (le32_after (trailer_at xs) (trailer_at (ns ++ xs)) e) i;
          states = (le16_after (trailer_at xs + 4) (trailer_at (ns ++ xs) + 4) (trailer_from 4)) i;
          edges = (le16_after (trailer_at xs + 6) (trailer_at (ns ++ xs) + 6) (trailer_from 6)) i;
          form = (le16_after (trailer_at xs + 8) (trailer_at (ns ++ xs) + 8) (trailer_from 8)) i;
        }

    note_letters : (ls : List ℕ) → letters_right ls (ns ++ xs) ≡ letters_right ls xs
    unfolding letters_right
    note_letters ls =
        let f = trailer_from 10 in
        let a = byte-after (trailer_at xs + 10) (trailer_at (ns ++ xs) + 10) f in
        let b = byte-after (trailer_at xs + 10 + 1) (trailer_at (ns ++ xs) + 10 + 1) (omega arith) in
        rw (a, b)

    -- the table, where all that the trailer names is in xs
    module _ (inside : (trailer_of xs).distance ≤ length xs) where
      note_table : table_of (ns ++ xs) ≡ table_of xs
      unfolding table_at
      note_table =
          let t = note_trailer in
          let l = length-append ns xs in
          let d = (trailer_of xs).distance in
          let e : length (ns ++ xs) - d ≡ length ns + (length xs - d) = omega arith in
          rw (t, e) (drop-append-add ns xs (length xs - d))

      pub note_book : book_of (ns ++ xs) ≡ book_of xs
      note_book = rw (note_table, note_trailer)

      pub note_check : length (ns ++ xs) ≤ most_bytes → check_book (ns ++ xs) ≡ check_book xs
      unfolding check_book
      note_check short =
          let l = length-append ns xs in
          let w₁ = le-ltb (length (ns ++ xs)) trailer_size (omega arith) in
          let w₂ = le-ltb most_bytes (length (ns ++ xs)) short in
          let w₃ = le-ltb (length (ns ++ xs)) (trailer_of xs).distance (omega arith) in
          let v₁ = le-ltb (length xs) trailer_size whole in
          let v₂ = le-ltb most_bytes (length xs) (omega arith) in
          let v₃ = le-ltb (length xs) (trailer_of xs).distance inside in
          rw (note_table, note_trailer, note_letters SB, w₁, w₂, w₃, v₁, v₂, v₃)

-- zs is the end of both
pub same_end : (ns ms zs : List ℕ) → trailer_size ≤ length zs → (trailer_of zs).distance ≤ length zs
    → length (ns ++ zs) ≤ most_bytes → length (ms ++ zs) ≤ most_bytes
    → (check_book (ns ++ zs) ≡ check_book (ms ++ zs)) × (book_of (ns ++ zs) ≡ book_of (ms ++ zs))
same_end ns ms zs w i p q =
    (note_check ns zs w i p ∙ sym (note_check ms zs w i q), note_book ns zs w i ∙ sym (note_book ms zs w i))

pub note_accepted : (ns xs : List ℕ) (S E : ℕ) → check_book xs ≡ accepted S E 0 0 → length (ns ++ xs) ≤ most_bytes
    → (check_book (ns ++ xs) ≡ accepted S E 0 0) × (book_of (ns ++ xs) ≡ book_of xs)
note_accepted ns xs S E A p =
    let r = trailer_is xs S E A in
    (note_check ns xs r.whole r.inside p ∙ A, note_book ns xs r.whole r.inside)
