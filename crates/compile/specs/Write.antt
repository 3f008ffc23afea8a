-- What the functions that write the image ask and answer.
--   Numbered B w n      the rows hold the n places of the book B, which have at most 4,096 edges
--   EdgesAre B w n t    they have t edges
--   LinkIs B w p r      r is the link of the place p
--   Makes B d d' a      answer and memory of a compile of the book B
--   Wrote d at bs d' r  the bytes bs are written from at on, and r is where they end
--   edge_end B w n p    where the edge records of the places below p end
--   Known B w n p out   the image has the first edges of all places, and the targets of the edges of those below p
--   Starts B w n row    for each event the place that it leads to from place 0
--   Walkable            what a walk from the place p reads is there
--   EdgeNumber B q a r  r is the number of the edge with the event a among the edges of the state q
--   RestIs B w n p a r  r is the place of what the event makes of the rest of the chain of p
use Rattle.std.specs.Prelude.{◌≡◌, List, [], ℕ, ◌+◌, ◌*◌, ◌≤◌, ◌<◌, length, get_or}
use Rattle.std.specs.Prelude.{Option, None, Some}
use Rattle.std.proofs.lemmas.List.Edits.{sets}
use Rattle.wire.specs.Little.{le16_at}
use Rattle.meaning.specs.Chain.{step}
use Rattle.meaning.specs.Places.{places, number}
use Rattle.meaning.specs.Book.{Book, delta, outs, marks}
use Rattle.meaning.specs.Questions.{first_edge}
use Rattle.compile.specs.Work.{Rows, chain_of, list_of, Held}
use Rattle.compile.specs.Explore.{rest_after}
use Rattle.meaning.specs.Answer.{Answer, leaving}
use Rattle.compile.specs.Bytes.{reported}
use Rattle.compile.specs.Answer.{chains_of, made_of, image_of_book}

pub record Numbered (B : Book) (w : Rows) (n : ℕ) : Type 0 where
  pub held : Held w n
  pub all : places (delta B) (outs B) 1024 ≡ Some (list_of w n)
  pub few_edges : first_edge (delta B) (outs B) (marks B) (list_of w n) n ≤ 4096

abbrev pub EdgesAre : Book → Rows → ℕ → ℕ → Type 0
EdgesAre B w n t = t ≡ first_edge (delta B) (outs B) (marks B) (list_of w n) n

pub record LinkIs (B : Book) (w : Rows) (p r : ℕ) : Type 0 where
  pub low : r ≤ p
  pub is : chain_of w r ≡ reported (marks B) (chain_of w p)

pub record Wrote (d : List ℕ) (at : ℕ) (bs d' : List ℕ) (r : ℕ) : Type 0 where
  pub is : d' ≡ sets d at bs
  pub next : r ≡ at + length bs

abbrev pub edge_end : Book → Rows → ℕ → ℕ → ℕ
edge_end B w n p = 14 * n + 4 * first_edge (delta B) (outs B) (marks B) (list_of w n) p

-- as a walk reads it: the number of a place's first edge; the target of its edge with the number i
pub record Known (B : Book) (w : Rows) (n p : ℕ) (out : List ℕ) : Type 0 where
  pub first : (g : ℕ) → g < n → le16_at out (14 * g) ≡ first_edge (delta B) (outs B) (marks B) (list_of w n) g
  pub target : (g i : ℕ) → g < p → i < length (outs B (get_or w.heads g 0))
      → le16_at out (edge_end B w n g + 4 * i + 2)
      ≡ number (list_of w n) (step (delta B) (chain_of w g) (get_or (outs B (get_or w.heads g 0)) i 0))

pub record Starts (B : Book) (w : Rows) (n : ℕ) (row : List ℕ) : Type 0 where
  pub at : (a : ℕ) → a < 256 → (get_or row a 0 < n) × (chain_of w (get_or row a 0) ≡ step (delta B) [] a)

-- p is a place, and what a walk from it reads is there: the image, and where the start leads
pub record Walkable (B : Book) (w : Rows) (n p : ℕ) (row out : List ℕ) : Type 0 where
  pub below : p < n
  pub known : Known B w n p out
  pub starts : 0 < p → Starts B w n row

-- r is the number among the edges of the state q of the one with the event a; there is none where no edge has it
abbrev pub EdgeNumber : Book → ℕ → ℕ → Option ℕ → Type 0
EdgeNumber B q a None = delta B q a ≡ None
EdgeNumber B q a (Some i) = (i < length (outs B q)) × (get_or (outs B q) i 0 ≡ a)

pub record RestIs (B : Book) (w : Rows) (n p a r : ℕ) : Type 0 where
  pub below : r < n
  pub is : chain_of w r ≡ rest_after (delta B) (chain_of w p) a

-- a is the answer for the book B with the memory d, and d' the memory afterwards
pub record Makes (B : Book) (d d' : List ℕ) (a : Answer) : Type 0 where
  pub answers : a ≡ made_of B (length d) (chains_of B)
  pub leaves : d' ≡ leaving (made_of B (length d) (chains_of B)) d (image_of_book B)
