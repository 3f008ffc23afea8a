-- Text in bytes, a byte a character.
--   letter c      the byte of a character
--   letters s     the bytes of a text
use Rattle.std.specs.Prelude.{ℕ, zero, suc, List, [], ◌∷◌}
use Prim.Native.Char.{Char, code}
use Prim.Native.String.{String, len, char_at}

abbrev pub letter : Char → ℕ
letter c = code c

abbrev pub letters_from : ℕ → String → ℕ → List ℕ
letters_from zero s at = []
letters_from (suc n) s at = letter (char_at s at) ∷ letters_from n s (suc at)

abbrev pub letters : String → List ℕ
letters s = letters_from (len s) s 0
