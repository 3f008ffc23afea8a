-- `image::over::fill_packed` meets its contract. The loop carries the entries of the places passed: a turn of `Tables`.
-- Assumes nothing.
use Rattle.image.specs.Held.{PackedAt}
use lib.ListN.{length, get_or}
use mathlib.Core.Path.{◌≡◌}
use Prim.Native.Nat.{ℕ, ◌<◌}
use Rattle.image.proofs.over.fill_packed.Given as goal

abbrev pub invariant-loop-p : goal.invariant-loop-p
invariant-loop-p l =
    (length l.packed ≡ 1024) × ((p : ℕ) → p < l.p → PackedAt l.image.bytes.now p (get_or l.packed p 0))
