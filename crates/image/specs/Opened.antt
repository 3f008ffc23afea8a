-- What is to be seen of an open image.
--   lent M              the slice that was lent: it says all that the image answers
use Rattle.std.specs.Prelude.{List, ℕ}
use Rattle.std.specs.Borrow.{Bor}
use Rattle.image.specs.declared.open_image.Image.{Image}

abbrev pub lent : Image → Bor (List ℕ)
lent M = M.bytes
