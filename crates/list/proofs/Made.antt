-- The image that a compile made: it stands at the start of the memory, and is accepted with the answer's counts.
--   made_fits, made_places      its length lies in the memory; its place count is the answer's, and at least 1
-- Assumes nothing.
use mathlib.Core.Path.{◌≡◌, sym, ap, ◌∙◌}
use mathlib.Core.List.{List}
use Prim.Native.Nat.{ℕ, ◌≤◌, ◌<◌}
use native.Mathlib.Omega.{arith}
use lib.ListN.{length, take}
use lib.Seq.{sets, length-sets}
use Rattle.meaning.specs.Answer.{accepted}
use Rattle.image.specs.Rules.{check_image}
use Rattle.image.specs.Calls.{places_in}
use Rattle.image.proofs.Accepted.{facts}
use Rattle.compile.specs.Answer.{compile_answer, compile_memory}
use Rattle.compile.proofs.Theorems.{compiled, compiled_accepted, compiled-length, compiled_memory}
use Rattle.lists.specs.Wrote.{Wrote}
use Rattle.lists.proofs.Wrote.{wrote_start}

-- an accepted image that was written at the start of the memory is read there
module _ (image out out' : List ℕ) (l q t : ℕ) (memory : out' ≡ sets out 0 image) (long : length image ≡ l)
    (fits : l ≤ length out) (a : check_image image ≡ accepted q t 0 0) where
  stands : take l out' ≡ image
  stands =
      let w : Wrote out 0 image out' l = record { memory = memory; next = omega arith } in
      wrote_start w (omega arith)

  within : l ≤ length out'
  within = omega (arith, ap length memory, length-sets out 0 image)

  places : (q ≡ places_in (check_image (take l out'))) × (0 < q)
  places = (sym (ap places_in (ap check_image stands ∙ a)), (facts image q t 0 0 a).some_place)

module _ (book out out' : List ℕ) (l q t : ℕ) (made : accepted l q t 0 ≡ compile_answer book (length out))
    (left : out' ≡ compile_memory book out) where
  fits : l ≤ length out
  fits = (compiled book (length out) l q t 0 (sym made)).1.fits

  pub made_fits : l ≤ length out'
  made_fits =
      within _ out out' l q t (left ∙ compiled_memory book l q t 0 out (sym made))
      (compiled-length book (length out) l q t 0 (sym made)).0 fits
      (compiled_accepted book (length out) l q t 0 (sym made))

  pub made_places : (q ≡ places_in (check_image (take l out'))) × (0 < q)
  made_places =
      places _ out out' l q t (left ∙ compiled_memory book l q t 0 out (sym made))
      (compiled-length book (length out) l q t 0 (sym made)).0 fits
      (compiled_accepted book (length out) l q t 0 (sym made))
