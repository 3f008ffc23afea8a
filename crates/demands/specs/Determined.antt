-- NO SECOND OUTCOME. Document 01, "How much the contracts say": for each input, refused ones too, a contract fixes answer
-- and lent memory. Each field below is a public function with the contract of its source, written out over the input's bytes
-- and numbers: two outcomes that meet the contract are equal. That it is the source's contract is proved in proofs/, `Tied`.
--   One P               at most one answer meets the contract P
--   OneBoth P           at most one answer, with one memory at exit, meets it
--   OneText P           at most one text at exit meets it, in one buffer: a reference is told by its ghost name, and
--                       `Writes` says that it is that of the one that was lent
--   Opened .. NextIs    the contracts of the open image, of its methods and of a walk's
--   OfWire .. OfLists   the public functions of a crate
--   Determined          THE STATEMENT: all of them. The face and the program take a field each here.
-- A lent slice that is not `&mut` cannot change, and so no contract speaks of it at exit.
-- Exceptions:
--   Table::lead_rising  requires that the state's events rise. Where they do, its answer is fixed; of any other input its
--                       contract says nothing. It is there for speed: `Table::lead` asks nothing and is fixed for every input.
--   lists::part         fixed are the bytes of the part returned, not its address. Where in the log it stands is what
--                       `part_answer` says, and that is fixed.
use Rattle.std.specs.Prelude.{◌≡◌, List, [], ◌∷◌, ℕ, ◌+◌, ◌*◌, length, set, Option, Result}
use Rattle.std.specs.Borrow.{Bor}
use Rattle.wire.specs.Little.{ByteIs, NumberIs, le16_at, le32_at, put16_at, put32_at}
use Rattle.meaning.specs.Book.{outs, marks}
use Rattle.meaning.specs.declared.Refusal.{Refusal}
use Rattle.book.specs.Form.{table_at, state_record_at, edge_record_at}
use Rattle.book.specs.Model.{table_book, firsts_of, Rising, lead_of}
use Rattle.book.specs.Rules.{check_book, told as told_book}
use Rattle.book.specs.Reads.{StateIs, EdgeIs}
use Rattle.image.specs.Rules.{check_image}
use Rattle.image.specs.Answers.{told_checked, told_asked, told_edged, told_walked, told_ran}
use Rattle.image.specs.Calls.{checked_first, opened, fallback_in, level_in, mark_in, edge_in, next_in}
use Rattle.image.specs.Calls.{run_answer, run_memory}
use Rattle.image.specs.Opened.{lent}
use Rattle.image.specs.declared.open_image.Image.{Image}
use Rattle.image.specs.declared.Walk.{Walk}
use Rattle.compile.specs.Answer.{compile_answer, compile_memory, told as told_compiled}
use Rattle.lists.specs.Whole.{decoded}
use Rattle.lists.specs.Short.{short_told, short_answer, short_memory}
use Rattle.lists.specs.Part.{part_told, part_answer, part_of}
use Rattle.lists.specs.Group.{group_of}
use Rattle.lists.specs.Writes.{Writes}
use Rattle.lists.specs.declared.text.Text.{Text}
use Rattle.lists.specs.Decimal.{decimal}
use Rattle.lists.specs.Listing.{header_text, line_text, lines_text, last_text, refused_text}

abbrev pub One : {A : Type 0} → (A → Type 0) → Type 0
One {A} P = (r s : A) → P r → P s → r ≡ s

abbrev pub OneBoth : {A : Type 0} → (A → List ℕ → Type 0) → Type 0
OneBoth {A} P = (r s : A) (m n : List ℕ) → P r m → P s n → (r ≡ s) × (m ≡ n)

-- a text at exit: the place after what was written, what its buffer holds, and which buffer that is
abbrev pub OneText : (Text → Type 0) → Type 0
OneText P =
    (r s : Text) → P r → P s → (r.at ≡ s.at) × (r.out.now ≡ s.out.now) × (r.out.ghost_name ≡ s.out.ghost_name)

-- a writer has no answer: its outcome is the memory at exit
pub record OfWire : Type 0 where
  pub byte_at : (xs : List ℕ) (at : ℕ) → One (λ r. ByteIs xs at r)
  pub le16 : (xs : List ℕ) (at : ℕ) → One (λ r. NumberIs (le16_at xs at) 65536 r)
  pub pair : (low high : ℕ) → One (λ r. NumberIs (low + 256 * high) 65536 r)
  pub le32 : (xs : List ℕ) (at : ℕ) → One (λ r. NumberIs (le32_at xs at) 4294967296 r)
  pub put_byte : (d : List ℕ) (at b : ℕ) → One (λ d'. d' ≡ set d at b)
  pub put16 : (d : List ℕ) (at v : ℕ) → One (λ d'. d' ≡ put16_at d at v)
  pub put32 : (d : List ℕ) (at v : ℕ) → One (λ d'. d' ≡ put32_at d at v)

pub record OfBook : Type 0 where
  pub table_at_lem : (xs : List ℕ) → One (λ r. r ≡ table_at xs)
  pub state_at_lem : (t : List ℕ) (s : ℕ) → One (λ r. StateIs (state_record_at t s) r)
  pub edge_at_lem : (t : List ℕ) (S j : ℕ) → One (λ r. EdgeIs (edge_record_at t S j) r)
  pub event_at : (t : List ℕ) (S j : ℕ) → One (λ r. NumberIs (edge_record_at t S j).event 256 r)
  pub target_at : (t : List ℕ) (S j : ℕ) → One (λ r. NumberIs (edge_record_at t S j).target 65536 r)
  pub check_book_lem : (xs : List ℕ) → One (λ r. told_book r ≡ check_book xs)
  pub mark_of : (t : List ℕ) (S q : ℕ) → One (λ r. NumberIs (marks (table_book t S) q) 256 r)
  pub count_of : (t : List ℕ) (S q : ℕ) → One (λ r. NumberIs (length (outs (table_book t S) q)) 65536 r)
  pub firsts : (t : List ℕ) (S : ℕ) → One (λ r. r ≡ firsts_of (table_book t S))
  pub lead : (t : List ℕ) (S : ℕ) (first : List ℕ) (q a : ℕ) → One (λ r. r ≡ lead_of t S first q a)
  pub lead_rising : (t : List ℕ) (S : ℕ) (first : List ℕ) (q a : ℕ)
      → Rising t S first q → One (λ r. r ≡ lead_of t S first q a)

-- what the contracts of the open image say: of its opening, of its methods, of a walk's next event
abbrev pub Opened : Bor (List ℕ) → Image → Type 0
Opened slice r = lent r ≡ slice

abbrev pub FallbackIs : Image → ℕ → Result ℕ Refusal → Type 0
FallbackIs M p r = told_asked r ≡ fallback_in (lent M).now (opened (lent M).now) p

abbrev pub LevelIs : Image → ℕ → Result ℕ Refusal → Type 0
LevelIs M p r = told_asked r ≡ level_in (lent M).now (opened (lent M).now) p

abbrev pub MarkIs : Image → ℕ → Result ℕ Refusal → Type 0
MarkIs M p r = told_asked r ≡ mark_in (lent M).now (opened (lent M).now) p

abbrev pub EdgeLeads : Image → ℕ → ℕ → Result (Option ℕ) Refusal → Type 0
EdgeLeads M p a r = told_edged r ≡ edge_in (lent M).now (opened (lent M).now) p a

abbrev pub NextIs : Walk → Image → ℕ → Result Walk Refusal → Type 0
NextIs w M a r = told_walked r ≡ next_in (lent M).now (opened (lent M).now) w.place a

pub record OfImage : Type 0 where
  pub check_image_lem : (xs : List ℕ) → One (λ r. told_checked r ≡ check_image xs)
  pub ask_fallback : (xs : List ℕ) (p : ℕ) → One (λ r. told_asked r ≡ checked_first xs (λ q. fallback_in xs q p))
  pub ask_level : (xs : List ℕ) (p : ℕ) → One (λ r. told_asked r ≡ checked_first xs (λ q. level_in xs q p))
  pub ask_mark : (xs : List ℕ) (p : ℕ) → One (λ r. told_asked r ≡ checked_first xs (λ q. mark_in xs q p))
  pub ask_edge : (xs : List ℕ) (p a : ℕ) → One (λ r. told_edged r ≡ checked_first xs (λ q. edge_in xs q p a))
  pub step : (xs : List ℕ) (p a : ℕ) → One (λ r. told_walked r ≡ checked_first xs (λ q. next_in xs q p a))
  pub next_in_lem : (xs : List ℕ) (q p a : ℕ) → One (λ r. told_walked r ≡ next_in xs q p a)
  -- the open image holds the very slice that was lent
  pub open_image : (slice : Bor (List ℕ)) → One (λ r. Opened slice r)
  -- its methods, and those of a walk
  pub fallback : (M : Image) (p : ℕ) → One (λ r. FallbackIs M p r)
  pub level : (M : Image) (p : ℕ) → One (λ r. LevelIs M p r)
  pub mark : (M : Image) (p : ℕ) → One (λ r. MarkIs M p r)
  pub edge : (M : Image) (p a : ℕ) → One (λ r. EdgeLeads M p a r)
  pub next : (w : Walk) (M : Image) (a : ℕ) → One (λ r. NextIs w M a r)
  pub run : (xs : List ℕ) (p base : ℕ) (log out : List ℕ)
      → OneBoth (λ r m. (told_ran r ≡ run_answer xs p base log out) × (m ≡ run_memory xs p base log out))

pub record OfCompile : Type 0 where
  pub compile : (xs out : List ℕ)
      → OneBoth (λ r m. (told_compiled r ≡ compile_answer xs (length out)) × (m ≡ compile_memory xs out))

pub record OfLists : Type 0 where
  pub short_list : (list out : List ℕ)
      → OneBoth (λ r m. (short_told r ≡ short_answer list (length out)) × (m ≡ short_memory list out))
  pub part_answer_lem : (log : List ℕ) (base end l : ℕ) → One (λ r. part_told r ≡ part_answer log base end l)
  -- the bytes of the part
  pub part : (log : List ℕ) (base end l : ℕ) (r s : Bor (List ℕ))
      → r.now ≡ part_of log base end l → s.now ≡ part_of log base end l → r.now ≡ s.now
  pub group : (event : ℕ) → One (λ r. r ≡ group_of event)
  -- the listing's lines, and what they are made of
  pub put_header : (t : Text) → OneText (λ r. Writes t header_text r)
  pub put_line : (t : Text) (end l mark letter : ℕ) → OneText (λ r. Writes t (line_text end l mark letter) r)
  pub put_lines : (t : Text) (records log : List ℕ) → OneText (λ r. Writes t (lines_text (decoded records) log) r)
  pub put_last : (t : Text) (places steps : ℕ) → OneText (λ r. Writes t (last_text places steps) r)
  pub put_refused : (t : Text) (n p : ℕ) → OneText (λ r. Writes t (refused_text n p) r)
  pub put_byte : (t : Text) (byte : ℕ) → OneText (λ r. Writes t (byte ∷ []) r)
  pub put_bytes : (t : Text) (bytes : List ℕ) → OneText (λ r. Writes t bytes r)
  pub put-decimal : (t : Text) (n : ℕ) → OneText (λ r. Writes t (decimal n) r)

pub record Determined : Type 0 where
  pub of_wire : OfWire
  pub of_book : OfBook
  pub of_image : OfImage
  pub of_compile : OfCompile
  pub of_lists : OfLists
