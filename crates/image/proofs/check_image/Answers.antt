-- `image::check_image` meets its contract. Each answer is a row of `Verdict`.
-- Assumes nothing.
use Rattle.image.proofs.Verdict.{check_17, told_sized, told_18, told_19, told-fine}
use Rattle.image.proofs.Right.{trailer_in}
use Rattle.image.specs.Form.{form1}
use native.Mathlib.Omega.{arith}
use mathlib.Core.Path.{sym, ◌∙◌}
use Rattle.image.proofs.check_image.Goals as goal

pub returns-then-not-trailer_right : goal.returns-then-not-trailer_right
returns-then-not-trailer_right c =
    rw c.into.ensures (check_17 _ (sym c.trailer_right.ensures ∙ c.if-not-trailer_right.true))

pub places-requires : goal.places-requires
places-requires c = (trailer_in form1 _ (sym c.trailer_right.ensures ∙ c.if-not-trailer_right.false)).long

pub edges-requires : goal.edges-requires
edges-requires c = (trailer_in form1 _ (sym c.trailer_right.ensures ∙ c.if-not-trailer_right.false)).long

pub invariant_of-counted : goal.invariant_of-counted
invariant_of-counted c =
    record {
      sized = told_sized _ _ _ c.places.ensures.is c.edges.ensures.is
          (sym c.trailer_right.ensures ∙ c.if-not-trailer_right.false);
    }

pub place_offset-requires : goal.place_offset-requires
place_offset-requires c =
    let within = c.in-Some.ensures.within in
    let small = c.places.ensures.small in
    omega arith

pub edges_fault-requires : goal.edges_fault-requires
edges_fault-requires c = sym c.in_default.ensures.is

pub edge_offset-requires : goal.edge_offset-requires
edge_offset-requires c =
    let within = c.in-Some-edges_fault.ensures.within in
    (omega arith, omega arith)

pub returns-in-Some : goal.returns-in-Some
returns-in-Some c =
    told_18 _ _ _ c.places.ensures.is c.edges.ensures.is (sym c.trailer_right.ensures ∙ c.if-not-trailer_right.false)
    _ _ (sym c.in-Some.ensures.is) c.place_offset.ensures

pub returns-in-Some-edges_fault : goal.returns-in-Some-edges_fault
returns-in-Some-edges_fault c =
    told_19 _ _ _ c.places.ensures.is c.edges.ensures.is (sym c.trailer_right.ensures ∙ c.if-not-trailer_right.false)
    (sym c.in_default.ensures.is) _ _ (sym c.in-Some-edges_fault.ensures.is) c.edge_offset.ensures

pub returns : goal.returns
returns c =
    told-fine _ _ _ c.places.ensures.is c.edges.ensures.is (sym c.trailer_right.ensures ∙ c.if-not-trailer_right.false)
    (sym c.in_default.ensures.is) (sym c.in_default-edges_fault.ensures.is)
