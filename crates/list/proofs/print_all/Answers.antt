-- The image that is listed by is the book's, and the log is short enough. Assumes nothing.
use mathlib.Core.Path.{sym}
use native.Mathlib.Omega.{arith}
use lib.Seq.{length-take-le}
use Rattle.list.proofs.Made.{made_fits, made_places}
use Rattle.list.proofs.print_all.Goals as goal

pub slice_bounds-image-end : goal.slice_bounds-image-end
slice_bounds-image-end c = made_fits _ _ _ _ _ _ c.in_ok-made.ensures.answer c.in_ok-made.ensures.memory

pub slice_bounds-print_listing-end : goal.slice_bounds-print_listing-end
slice_bounds-print_listing-end c =
    sym (length-take-le _ _ (made_fits _ _ _ _ _ _ c.in_ok-made.ensures.answer c.in_ok-made.ensures.memory))

pub print_listing-requires : goal.print_listing-requires
print_listing-requires c =
    let places = made_places _ _ _ _ _ _ c.in_ok-made.ensures.answer c.in_ok-made.ensures.memory in
    (omega arith, places.0, places.1)
