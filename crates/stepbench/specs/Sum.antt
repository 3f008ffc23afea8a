-- The answers of single steps, added up.
--   summed xs q p s t   the sum s, and those of the events t from place p on, in 32 bits
--   summed_first xs t   from place 0 of an accepted image; 0 for any other
use Rattle.std.specs.Prelude.{List, [], ◌∷◌, ℕ, ◌+◌, ◌%◌}
use Rattle.meaning.specs.Answer.{Answer, accepted, refused}
use Rattle.image.specs.Calls.{next_in}
use Rattle.image.specs.Rules.{check_image}

abbrev pub place_in : Answer → ℕ
place_in (accepted p l n d) = p
place_in (refused n p) = 0

abbrev pub level_in : Answer → ℕ
level_in (accepted p l n d) = l
level_in (refused n p) = 0

abbrev pub steps_in : Answer → ℕ
steps_in (accepted p l n d) = n
steps_in (refused n p) = 0

abbrev pub summed : List ℕ → ℕ → ℕ → ℕ → List ℕ → ℕ
summed xs q p s [] = s
summed xs q p s (a ∷ t) =
    let r = next_in xs q p a in
    summed xs q (place_in r) ((s + place_in r + level_in r + steps_in r) % 4294967296) t

abbrev pub summed_in : List ℕ → List ℕ → Answer → ℕ
summed_in xs t (accepted q e c d) = summed xs q 0 0 t
summed_in xs t (refused n p) = 0

unfoldable pub summed_first : List ℕ → List ℕ → ℕ
summed_first xs t = summed_in xs t (check_image xs)
