-- Choices that the definitions make.
--   when b x y     x where the test holds, else y
--   then o f       what o leads to by f, where o is there
use Rattle.std.specs.Prelude.{Bool, true, false, ℕ}
use Rattle.std.specs.Prelude.{Option, None, Some}

abbrev pub when : {A : Type 0} → Bool → A → A → A
when true x y = x
when false x y = y

abbrev pub then : Option ℕ → (ℕ → Option ℕ) → Option ℕ
then None f = None
then (Some q) f = f q
