-- The words in which the demands are put, over the definitions that the contracts name.
--   Accepted xs              check_book accepts the book xs
--   Compiled xs ys           a compile of the book xs wrote the image ys into lent memory
--   chain_named ys p         the chain that place p of the image ys and its fallbacks name: their heads with their levels
--   Ran ys base log n rs     a run over the image ys, read from the start, took n events and wrote the records rs
use Rattle.std.specs.Prelude.{◌≡◌, List, ℕ, ◌*◌, length, take}
use Rattle.wire.specs.Record.{record_size}
use Rattle.meaning.specs.Answer.{accepted}
use Rattle.meaning.specs.Chain.{Chain}
use Rattle.meaning.specs.Questions.{named}
use Rattle.meaning.specs.Records.{Record}
use Rattle.book.specs.Rules.{check_book}
use Rattle.image.specs.Form.{form_of, place_at}
use Rattle.image.specs.Questions.{questions}
use Rattle.image.specs.Calls.{run_answer, run_memory}
use Rattle.lists.specs.Whole.{decoded}
use Rattle.compile.specs.Answer.{compile_answer, compile_memory}

abbrev pub Accepted : List ℕ → Type 0
Accepted xs = (s : ℕ) × (e : ℕ) × (check_book xs ≡ accepted s e 0 0)

pub record Compiled (xs ys : List ℕ) : Type 0 where
  pub out : List ℕ
  pub places : ℕ
  pub edges : ℕ
  pub answer : compile_answer xs (length out) ≡ accepted (length ys) places edges 0
  pub image : take (length ys) (compile_memory xs out) ≡ ys

abbrev pub chain_named : List ℕ → ℕ → Chain
chain_named ys p = named (λ q. (place_at (form_of ys) ys q).head) (questions ys) p

pub record Ran (ys : List ℕ) (base : ℕ) (log : List ℕ) (n : ℕ) (rs : List Record) : Type 0 where
  pub out : List ℕ
  pub place : ℕ
  pub steps : ℕ
  pub answer : run_answer ys 0 base log out ≡ accepted n place (length rs) steps
  pub list : decoded (take (record_size * length rs) (run_memory ys 0 base log out)) ≡ rs
