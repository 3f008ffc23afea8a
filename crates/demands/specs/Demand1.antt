-- DEMAND 1. Every book of signatures, compiled image, log and buffer is taken as it comes. A bad one is refused by a number
-- fixed for its fault, a refusal changes nothing lent to us, and every call ends.
-- No public function asks anything of its arguments, and each answer is a definition of its input: the rules in their order.
-- That every call ends is what the checker proves of every function. What is left to say is said here.
use Rattle.std.specs.Prelude.{◌≡◌, ◌↔◌, List, [], ℕ, ◌≤◌, length}
use Rattle.meaning.specs.Answer.{Answer, refused}
use Rattle.book.specs.Rules.{check_book}
use Rattle.image.specs.Rules.{check_image}
use Rattle.image.specs.Calls.{run_answer, run_memory}
use Rattle.lists.specs.Short.{short_answer, short_memory}
use Rattle.lists.specs.Part.{part_answer, part_of}
use Rattle.compile.specs.Answer.{compile_answer, compile_memory}

-- a refusal is by one of the call's own numbers
abbrev pub Numbered : ℕ → ℕ → Answer → Type 0
Numbered low high x = (n p : ℕ) → x ≡ refused n p → (low ≤ n) × (n ≤ high)

pub record Demand1 : Type 0 where
  -- a bad one is refused by a number of its call
  pub book_number : (xs : List ℕ) → Numbered 1 13 (check_book xs)
  pub image_number : (xs : List ℕ) → Numbered 17 19 (check_image xs)
  pub compile_number : (xs : List ℕ) (room : ℕ) → Numbered 1 16 (compile_answer xs room)
  pub run-number : (xs : List ℕ) (p base : ℕ) (log out : List ℕ) → Numbered 17 21 (run_answer xs p base log out)
  pub short-number : (list : List ℕ) (room : ℕ) → Numbered 22 23 (short_answer list room)
  pub part_number : (log : List ℕ) (base end l : ℕ) → Numbered 21 24 (part_answer log base end l)
  -- a refusal changes nothing lent
  pub compile_keeps : (xs out : List ℕ) (n p : ℕ) → compile_answer xs (length out) ≡ refused n p → compile_memory xs out ≡ out
  pub run-keeps : (xs : List ℕ) (q base : ℕ) (log out : List ℕ) (n p : ℕ)
      → run_answer xs q base log out ≡ refused n p → run_memory xs q base log out ≡ out
  pub short-keeps : (list out : List ℕ) (n p : ℕ) → short_answer list (length out) ≡ refused n p → short_memory list out ≡ out
  -- and a part is empty exactly on refusal
  pub part_empty : (log : List ℕ) (base end l : ℕ)
      → (part_of log base end l ≡ []) ↔ ((n : ℕ) × (p : ℕ) × (part_answer log base end l ≡ refused n p))
