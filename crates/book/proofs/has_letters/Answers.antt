-- `has_letters` meets its contract: the last two bytes, compared one by one. Assumes nothing.
use mathlib.Core.Path.{◌≡◌, refl, sym, ap, ◌∙◌}
use mathlib.Core.Bool.{Bool, true, false, ◌&&◌}
use mathlib.Core.List.{List, [], ◌∷◌}
use Prim.Native.Nat.{ℕ, suc, ◌+◌, ◌-◌, ◌≤◌}
use native.Mathlib.Omega.{arith}
use lib.ListN.{length, get_or, drop}
use lib.Dec.{eqb}
use borrow.Author.Tests.{eqb-true, eqb-false, eq-eqb, ne_eqb}
use Rattle.std.proofs.Common.{drop-cons}
use Rattle.std.proofs.Math.ListN.{drop_of_length-le}
use Rattle.book.specs.Form.{letters_right}
use Rattle.book.proofs.Cases.{by_bool}
use Rattle.book.proofs.has_letters.Goals as goal

last_two : (xs : List ℕ) → 12 ≤ length xs
    → drop (length xs - 2) xs ≡ get_or xs (length xs - 12 + 10) 0 ∷ get_or xs (length xs - 12 + 10 + 1) 0 ∷ []
last_two xs h =
    let n : length xs - 2 ≡ length xs - 12 + 10 = omega arith in
    let m : suc (length xs - 12 + 10) ≡ length xs - 12 + 10 + 1 = omega arith in
    ap (λ (i : ℕ). drop i xs) n ∙ drop-cons xs (length xs - 12 + 10) 0 (omega arith)
    ∙ ap (λ (r : List ℕ). get_or xs (length xs - 12 + 10) 0 ∷ r)
    (ap (λ (i : ℕ). drop i xs) m ∙ drop-cons xs (length xs - 12 + 10 + 1) 0 (omega arith)
    ∙ ap (λ (r : List ℕ). get_or xs (length xs - 12 + 10 + 1) 0 ∷ r)
    (drop_of_length-le xs {i = suc (length xs - 12 + 10 + 1)} (omega arith)))

turned : (a b : ℕ) → eqb a b ≡ eqb b a
turned a b =
    by_bool (eqb a b) (λ e. e ∙ sym (eq-eqb b a (sym (eqb-true a b e))))
    (λ e. e ∙ sym (ne_eqb b a (λ z. eqb-false a b e (sym z))))

and_last : (x : Bool) → x && true ≡ x
and_last true = refl
and_last false = refl

pub returns : goal.returns
unfolding letters_right
returns c = rw (c.ends_with.ensures.value, last_two c.args.book.now c.requires, turned 83, turned 66, and_last)
