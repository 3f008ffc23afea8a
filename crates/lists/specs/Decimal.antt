-- Numbers in decimal. Document 01, "Books to try".
--   digit d           the byte of a digit
--   decimal n         the digits of a number, the highest first, with no zero in front
use Rattle.std.specs.Prelude.{List, [], ◌∷◌, ◌++◌, ℕ, zero, suc, ◌+◌, ◌/◌, ◌%◌, ltb}
use Rattle.meaning.specs.Choice.{when}
use Rattle.lists.specs.Letters.{letter}

abbrev pub digit : ℕ → ℕ
digit d = letter "0" + d

-- in at most f digits
abbrev pub decimal_within : ℕ → ℕ → List ℕ
decimal_within zero n = []
decimal_within (suc f) n =
    let more = decimal_within f (n / 10) ++ (digit (n % 10) ∷ []) in
    when (ltb n 10) (digit n ∷ []) more

-- a number has at most as many digits as its successor says
unfoldable pub decimal : ℕ → List ℕ
decimal n = decimal_within (suc n) n
