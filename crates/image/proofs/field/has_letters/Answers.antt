-- `image::field::has_letters` meets its contract: the last two bytes, compared one by one.
-- Assumes nothing.
use Rattle.image.specs.Form.{has_letters}
use Rattle.std.specs.Prelude.{◌≡◌, List, ℕ, Bool, true, false, [], ◌∷◌, ◌-◌, ◌≤◌, ◌&&◌, length, get_or, drop, eqb}
use Rattle.std.proofs.Common.{suc, drop-cons}
use Rattle.std.proofs.Math.ListN.{drop_of_length-le}
use Rattle.meaning.proofs.Cases.{by_bool}
use borrow.Author.Tests.{eqb-true, eqb-false, eq-eqb, ne_eqb}
use native.Mathlib.Omega.{arith}
use mathlib.Core.Path.{refl, sym, ap, ◌∙◌}
use Rattle.image.proofs.field.has_letters.Goals as goal

last_two : (xs : List ℕ) → 2 ≤ length xs
    → drop (length xs - 2) xs ≡ get_or xs (length xs - 2) 0 ∷ get_or xs (length xs - 1) 0 ∷ []
last_two xs h =
    let n : suc (length xs - 2) ≡ length xs - 1 = omega arith in
    drop-cons xs (length xs - 2) 0 (omega arith)
    ∙ ap (λ (r : List ℕ). get_or xs (length xs - 2) 0 ∷ r)
    (ap (λ (i : ℕ). drop i xs) n ∙ drop-cons xs (length xs - 1) 0 (omega arith)
    ∙ ap (λ (r : List ℕ). get_or xs (length xs - 1) 0 ∷ r) (drop_of_length-le xs {i = suc (length xs - 1)} (omega arith)))

turned : (a b : ℕ) → eqb a b ≡ eqb b a
turned a b =
    by_bool (eqb a b) (λ e. e ∙ sym (eq-eqb b a (sym (eqb-true a b e))))
    (λ e. e ∙ sym (ne_eqb b a (λ z. eqb-false a b e (sym z))))

and_last : (x : Bool) → x && true ≡ x
and_last true = refl
and_last false = refl

pub returns : goal.returns
unfolding has_letters
returns c =
    rw (c.ends_with.ensures.value, last_two c.args.image.now c.requires, turned 83, turned 77, and_last)
