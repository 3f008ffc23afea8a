-- No second outcome, proved: `determined`. A contract fixes an answer in one of these ways.
--   fixed               it is equated with a definition
--   decided             what it says is, and what an answer says keeps its cases apart
--   decided_both        the same, and the memory is equated with a definition
--   byte, number, state_record, edge_record_lem, writes  the contract is a record that does so, its answer's bounds besides
-- Assumes nothing.
use mathlib.Core.Path.{◌≡◌, sym, ◌∙◌}
use mathlib.Core.List.{List}
use Prim.Native.Nat.{ℕ}
use Rattle.meaning.proofs.Refused.{Apart}
use Rattle.wire.specs.Little.{ByteIs, NumberIs}
use Rattle.book.specs.Rules.{told as told_book}
use Rattle.book.specs.Reads.{StateIs, EdgeIs}
use Rattle.book.specs.declared.StateRecord.{StateRecord}
use Rattle.book.specs.declared.EdgeRecord.{EdgeRecord}
use Rattle.book.proofs.Answers.{told_injective as book-apart}
use Rattle.image.specs.Answers.{told_checked, told_asked, told_edged, told_walked, told_ran}
use Rattle.image.specs.Opened.{lent}
use Rattle.image.proofs.Opened.{lent_apart}
use Rattle.image.proofs.Told.{checked_apart, asked_apart, edged_apart, walked_apart, ran_apart}
use Rattle.compile.specs.Answer.{told as told_compiled}
use Rattle.compile.proofs.Answers.{told_injective as compiled-apart}
use Rattle.lists.specs.Short.{short_told}
use Rattle.lists.specs.Part.{part_told}
use Rattle.lists.specs.Writes.{Writes}
use Rattle.lists.specs.declared.text.Text.{Text}
use Rattle.lists.proofs.Told.{short_told_apart, part_told_apart}
use Rattle.demands.specs.Determined.{One, OneBoth, OneText, OfWire, OfBook, OfImage, OfCompile, OfLists, Determined}

-- ---- the ways
fixed : {A : Type 0} (a : A) → One (λ r. r ≡ a)
fixed a r s h k = h ∙ sym k

module _ {A B : Type 0} (told : A → B) (apart : Apart told) where
  decided : (b : B) → One (λ (r : A). told r ≡ b)
  decided b r s h k = apart r s (h ∙ sym k)

  decided_both : (b : B) (d : List ℕ) → OneBoth (λ (r : A) m. (told r ≡ b) × (m ≡ d))
  decided_both b d r s m n h k = (apart r s (h.0 ∙ sym k.0), h.1 ∙ sym k.1)

byte : (xs : List ℕ) (at : ℕ) → One (λ r. ByteIs xs at r)
byte xs at r s h k = h.is ∙ sym k.is

number : (w limit : ℕ) → One (λ r. NumberIs w limit r)
number w limit r s h k = h.is ∙ sym k.is

state_record : (x : StateRecord) → One (λ r. StateIs x r)
state_record x r s h k = h.is ∙ sym k.is

edge_record_lem : (x : EdgeRecord) → One (λ r. EdgeIs x r)
edge_record_lem x r s h k = h.is ∙ sym k.is

writes : (t : Text) (bytes : List ℕ) → OneText (λ r. Writes t bytes r)
writes t bytes r s h k = (h.wrote.next ∙ sym k.wrote.next, h.wrote.memory ∙ sym k.wrote.memory, h.lent ∙ sym k.lent)

-- ---- the functions
of_wire : OfWire
of_wire =
    record {
      byte_at = byte;
      le16 = λ xs at. number _ _;
      pair = λ low high. number _ _;
      le32 = λ xs at. number _ _;
      put_byte = λ d at b. fixed _;
      put16 = λ d at v. fixed _;
      put32 = λ d at v. fixed _;
    }

of_book : OfBook
of_book =
    record {
      table_at_lem = λ xs. fixed _;
      state_at_lem = λ t s. state_record _;
      edge_at_lem = λ t S j. edge_record_lem _;
      event_at = λ t S j. number _ _;
      target_at = λ t S j. number _ _;
      check_book_lem = λ xs. decided told_book book-apart _;
      mark_of = λ t S q. number _ _;
      count_of = λ t S q. number _ _;
      firsts = λ t S. fixed _;
      lead = λ t S first q a. fixed _;
      lead_rising = λ t S first q a up. fixed _;
    }

of_image : OfImage
of_image =
    record {
      check_image_lem = λ xs. decided told_checked checked_apart _;
      ask_fallback = λ xs p. decided told_asked asked_apart _;
      ask_level = λ xs p. decided told_asked asked_apart _;
      ask_mark = λ xs p. decided told_asked asked_apart _;
      ask_edge = λ xs p a. decided told_edged edged_apart _;
      step = λ xs p a. decided told_walked walked_apart _;
      next_in_lem = λ xs q p a. decided told_walked walked_apart _;
      open_image = λ slice. decided lent lent_apart _;
      fallback = λ M p. decided told_asked asked_apart _;
      level = λ M p. decided told_asked asked_apart _;
      mark = λ M p. decided told_asked asked_apart _;
      edge = λ M p a. decided told_edged edged_apart _;
      next = λ w M a. decided told_walked walked_apart _;
      run = λ xs p base log out. decided_both told_ran ran_apart _ _;
    }

of_compile : OfCompile
of_compile = record { compile = λ xs out. decided_both told_compiled compiled-apart _ _ }

of_lists : OfLists
of_lists =
    record {
      short_list = λ list out. decided_both short_told short_told_apart _ _;
      part_answer_lem = λ log base end l. decided part_told part_told_apart _;
      part = λ log base end l r s h k. h ∙ sym k;
      group = λ event. fixed _;
      put_header = λ t. writes t _;
      put_line = λ t end l mark letter. writes t _;
      put_lines = λ t records log. writes t _;
      put_last = λ t places steps. writes t _;
      put_refused = λ t n p. writes t _;
      put_byte = λ t byte. writes t _;
      put_bytes = writes;
      put-decimal = λ t n. writes t _;
    }

pub determined : Determined
determined =
    record { of_wire = of_wire; of_book = of_book; of_image = of_image; of_compile = of_compile; of_lists = of_lists }
