-- Cases with their equation, those of `meaning` and on the order of two numbers; tests that fail; what a `?` gives back.
-- Assumes nothing.
use mathlib.Core.Path.{◌≡◌, refl}
use mathlib.Core.Bool.{Bool, true, false, not, ◌&&◌, ◌||◌}
use Rattle.std.specs.Prelude.{Result, Ok, Err, IsErrAnd}
use Prim.Native.Nat.{ℕ, ◌≤◌, ◌<◌}
use lib.Dec.{ltb}
use borrow.Author.Tests.{ltb-true, ltb-false}
pub use Rattle.meaning.proofs.Cases.{by_bool, by_option, by_eq, none_some, true_false}

pub by_below : {A : Type 0} (m n : ℕ) → (m < n → A) → (n ≤ m → A) → A
by_below m n f g = by_bool (ltb m n) (λ e. f (ltb-true m n e)) (λ e. g (ltb-false m n e))

-- a test that fails, and both parts of a pair of tests
pub not_false : (b : Bool) → not b ≡ false → b ≡ true
not_false true e = refl
not_false false e = true_false refl e

pub not_true : (b : Bool) → not b ≡ true → b ≡ false
not_true true e = true_false e refl
not_true false e = refl

pub or_false : (a b : Bool) → a || b ≡ false → (a ≡ false) × (b ≡ false)
or_false true b e = true_false refl e
or_false false b e = (refl, e)

pub and_false : {A : Type 0} (a b : Bool) → a && b ≡ false → (a ≡ false → A) → (b ≡ false → A) → A
and_false true b e f g = g e
and_false false b e f g = f refl

-- what a `?` gives back
pub err_is : {A E : Type 0} {e : E} (r : Result A E) → IsErrAnd r (λ d. d ≡ e) → r ≡ Err e
err_is (Ok a) h = absurd h
err_is (Err d) h = rw h
