-- DEMAND 3. Image and book walk in step. For every book that compiles and every log read from the start, the image's place
-- and its fallbacks name exactly the book states, start apart, that some ending reaches, each once with the length of its
-- shortest such ending, greatest first. A chain is that list, lengths included. No two places name the same chain, and some
-- log reaches each place. A compile of an accepted book is refused for size exactly when there are over 1,024 such chains,
-- the empty one counted, or their places need over 4,096 edges.
use Rattle.std.specs.Prelude.{◌≡◌, ◌↔◌, List, ℕ, ◌<◌}
use Rattle.std.specs.Prelude.{Some}
use Rattle.meaning.specs.Text.{events}
use Rattle.meaning.specs.Answer.{refused}
use Rattle.meaning.specs.Chain.{Chain, IsChain}
use Rattle.meaning.specs.Places.{places, MoreThan}
use Rattle.meaning.specs.Book.{delta, outs}
use Rattle.meaning.specs.Walk.{walk}
use Rattle.book.specs.Model.{book_of}
use Rattle.image.specs.Questions.{questions}
use Rattle.compile.specs.Bytes.{edge_count}
use Rattle.compile.specs.Answer.{compile_answer}
use Rattle.demands.specs.Words.{Accepted, Compiled, chain_named}

-- the place after a log read from the start
abbrev pub place_after : List ℕ → List ℕ → ℕ
place_after ys log = (walk (questions ys) 0 log).place

pub record InStep (xs ys : List ℕ) : Type 0 where
  pub names : (log : List ℕ) → IsChain (delta (book_of xs)) (events log) (chain_named ys (place_after ys log))
  pub apart : (p q : ℕ) → p < (questions ys).count → q < (questions ys).count → chain_named ys p ≡ chain_named ys q → p ≡ q
  pub reached : (p : ℕ) → p < (questions ys).count → (log : List ℕ) × (place_after ys log ≡ p)

-- the places, numbered as document 01 numbers them, are at most 1,024 and need over 4,096 edges
abbrev pub MoreEdges : List ℕ → Type 0
MoreEdges xs =
    (L : List Chain) × (places (delta (book_of xs)) (outs (book_of xs)) 1024 ≡ Some L) × (4096 < edge_count (book_of xs) L)

pub record Sized (xs : List ℕ) : Type 0 where
  pub places : (room : ℕ) → (compile_answer xs room ≡ refused 14 0) ↔ MoreThan (delta (book_of xs)) 1024
  pub edges : (room : ℕ) → (compile_answer xs room ≡ refused 15 0) ↔ MoreEdges xs

abbrev pub Demand3 : Type 0
Demand3 = (xs : List ℕ) → Accepted xs → Sized xs × ((ys : List ℕ) → Compiled xs ys → InStep xs ys)
