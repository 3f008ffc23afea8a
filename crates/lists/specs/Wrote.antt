-- Bytes written into a lent buffer.
--   Wrote out at bytes out' r   the bytes stand in out from a place on, as many as fit; r is the place after those
use Rattle.std.specs.Prelude.{List, ◌≡◌, ℕ, ◌+◌, ◌-◌, min, length}
use Rattle.std.proofs.lemmas.List.Edits.{sets}

pub record Wrote (out : List ℕ) (at : ℕ) (bytes out' : List ℕ) (r : ℕ) : Type 0 where
  pub memory : out' ≡ sets out at bytes
  pub next : r ≡ at + min (length bytes) (length out - at)
