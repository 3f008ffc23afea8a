-- Bytes written into a text: a lent buffer, and the place after what was written.
--   Writes text bytes text'   the bytes stand in the buffer from the place on, as many as fit; it is the buffer that was
--                             lent, and keeps its length
use Rattle.std.specs.Prelude.{List, ◌≡◌, ℕ, length}
use Rattle.lists.specs.Wrote.{Wrote}
use Rattle.lists.specs.declared.text.Text.{Text}

pub record Writes (text : Text) (bytes : List ℕ) (text' : Text) : Type 0 where
  pub wrote : Wrote text.out.now text.at bytes text'.out.now text'.at
  pub lent : text'.out.ghost_name ≡ text.out.ghost_name
  pub room : length text'.out.now ≡ length text.out.now
