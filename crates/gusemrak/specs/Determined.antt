-- NO SECOND OUTCOME of the face: each field is a function of it with the contract of its source. The exported ones of the other
-- crates are in the demands' Determined.
use Rattle.std.specs.Prelude.{◌≡◌, List, ℕ, length}
use Rattle.book.specs.Rules.{check_book}
use Rattle.image.specs.Rules.{check_image}
use Rattle.image.specs.Calls.{checked_first, fallback_in, level_in, mark_in, edge_in, next_in, run_answer, run_memory}
use Rattle.compile.specs.Answer.{compile_answer, compile_memory}
use Rattle.lists.specs.Short.{short_answer, short_memory}
use Rattle.lists.specs.Part.{part_answer}
use Rattle.lists.specs.Group.{group_of}
use Rattle.demands.specs.Determined.{One, OneBoth}
use Rattle.gusemrak.specs.Face.{face}

pub record OfFace : Type 0 where
  pub check_book_lem : (xs : List ℕ) → One (λ r. r ≡ face (check_book xs))
  pub compile : (xs out : List ℕ) → OneBoth (λ r m. (r ≡ face (compile_answer xs (length out))) × (m ≡ compile_memory xs out))
  pub check_image_lem : (xs : List ℕ) → One (λ r. r ≡ face (check_image xs))
  pub fallback : (xs : List ℕ) (p : ℕ) → One (λ r. r ≡ face (checked_first xs (λ q. fallback_in xs q p)))
  pub level : (xs : List ℕ) (p : ℕ) → One (λ r. r ≡ face (checked_first xs (λ q. level_in xs q p)))
  pub mark : (xs : List ℕ) (p : ℕ) → One (λ r. r ≡ face (checked_first xs (λ q. mark_in xs q p)))
  pub edge : (xs : List ℕ) (p a : ℕ) → One (λ r. r ≡ face (checked_first xs (λ q. edge_in xs q p a)))
  pub step : (xs : List ℕ) (p a : ℕ) → One (λ r. r ≡ face (checked_first xs (λ q. next_in xs q p a)))
  pub run : (xs : List ℕ) (p base : ℕ) (log out : List ℕ)
      → OneBoth (λ r m. (r ≡ face (run_answer xs p base log out)) × (m ≡ run_memory xs p base log out))
  pub short_list : (list out : List ℕ)
      → OneBoth (λ r m. (r ≡ face (short_answer list (length out))) × (m ≡ short_memory list out))
  pub part : (log : List ℕ) (base end l : ℕ) → One (λ r. r ≡ face (part_answer log base end l))
  pub group : (event : ℕ) → One (λ r. r ≡ group_of event)
