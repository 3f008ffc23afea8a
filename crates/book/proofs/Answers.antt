-- What the check says keeps its answers apart, so no second outcome meets its contract. Assumes nothing.
use mathlib.Core.Path.{◌≡◌, sym, ap, ◌∙◌}
use mathlib.Core.List.{List}
use Prim.Native.Nat.{ℕ}
use Rattle.std.specs.Prelude.{Result, Ok, Err}
use Rattle.meaning.specs.Answer.{accepted, refused}
use Rattle.meaning.specs.Refusal.{number}
use Rattle.meaning.specs.declared.Refusal.{Refusal}
use Rattle.book.specs.Rules.{check_book, counted, told}
use Rattle.book.specs.declared.Counts.{Counts}
use Rattle.meaning.proofs.Refused.{told_apart, refused_accepted}

counted_apart : (c d : Counts) → counted c ≡ counted d → c ≡ d
counted_apart c d h =
    let s : c.states ≡ d.states = cc in
    let e : c.edges ≡ d.edges = cc in
    λ i. record { states = s i; edges = e i }

pub told_injective : (x y : Result Counts Refusal) → told x ≡ told y → x ≡ y
told_injective = told_apart counted counted_apart (λ c n p h. refused_accepted h)

pub checked_unique : (xs : List ℕ) (x y : Result Counts Refusal) → told x ≡ check_book xs → told y ≡ check_book xs → x ≡ y
checked_unique xs x y h k = told_injective x y (h ∙ sym k)

-- what a caller of the check has in each case
pub fine_accepted : (xs : List ℕ) (r : Result Counts Refusal) (c : Counts) → told r ≡ check_book xs → r ≡ Ok c
    → check_book xs ≡ accepted c.states c.edges 0 0
fine_accepted xs r c h e = sym h ∙ ap told e

pub refused_refused : (xs : List ℕ) (r : Result Counts Refusal) (d : Refusal) → told r ≡ check_book xs → r ≡ Err d
    → check_book xs ≡ refused (number d.reason) d.place
refused_refused xs r d h e = sym h ∙ ap told e
