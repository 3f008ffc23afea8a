-- Bytes written into a text one after the other. `writes_none`: nothing is written. `writes_then`: two runs are one.
-- `writes_digit`, `writes_more`: a number of one digit, and of more. Assumes nothing.
use mathlib.Core.Path.{◌≡◌, refl, ◌∙◌}
use mathlib.Core.List.{List, [], ◌∷◌, ◌++◌}
use Prim.Native.Nat.{ℕ, ◌/◌, ◌%◌, ◌≤◌, ◌<◌}
use native.Mathlib.Omega.{arith}
use Rattle.lists.specs.Decimal.{digit, decimal}
use Rattle.lists.specs.Writes.{Writes}
use Rattle.lists.specs.declared.text.Text.{Text}
use Rattle.lists.proofs.Wrote.{wrote_none, wrote_then}
use Rattle.lists.proofs.Decimal.{decimal_digit, decimal_more}

pub writes_none : (t : Text) → Writes t [] t
writes_none t = record { wrote = wrote_none t.out.now t.at; lent = refl; room = refl }

pub writes_then : {t u v : Text} {a b : List ℕ} → Writes t a u → Writes u b v → Writes t (a ++ b) v
writes_then v w =
    record { wrote = wrote_then v.wrote w.wrote; lent = w.lent ∙ v.lent; room = w.room ∙ v.room }

pub writes_digit : {t u : Text} (n : ℕ) → n < 10 → Writes t (digit (n % 10) ∷ []) u → Writes t (decimal n) u
writes_digit n small w = let e : n % 10 ≡ n = omega arith in rw (decimal_digit n small) (rw e at w)

pub writes_more : {t u v : Text} (n : ℕ) → 10 ≤ n → Writes t (decimal (n / 10)) u → Writes u (digit (n % 10) ∷ []) v
    → Writes t (decimal n) v
writes_more n large v w = rw (decimal_more n large) (writes_then v w)
