-- The scans of the check, one record at a time.
--   places_fault-step, events_fault-step, edges_fault-step  one step of each scan, and its end
--   places-passed       a scan of places that finds nothing: the place is right, and nothing is found after it
--   places_sum, places_room  and its edges stand among the t
-- Assumes nothing.
use mathlib.Core.Path.{◌≡◌, refl}
use mathlib.Core.Bool.{Bool, true, false}
use Rattle.std.specs.Prelude.{Option, None, Some}
use Prim.Native.Nat.{ℕ, zero, suc, ◌+◌, ◌-◌, ◌≤◌, ◌<◌}
use native.Mathlib.Omega.{arith}
use lib.Dec.{eqb}
use borrow.Author.Tests.{eqb-true}
use Rattle.meaning.specs.Choice.{when}
use Rattle.meaning.proofs.Cases.{none_some}
use Rattle.image.specs.Form.{PlaceRecord, EdgeRecord}
use Rattle.image.specs.Rules.{place_right, edge_right, places_fault, events_fault, edges_fault, or_else}

-- what a test that finds nothing says
pub passed : (b : Bool) (i : ℕ) (o : Option ℕ) → when b o (Some i) ≡ None → (b ≡ true) × (o ≡ None)
passed true i o e = (refl, e)
passed false i o e = none_some e refl

pub or_none : (o r : Option ℕ) → or_else o r ≡ None → (o ≡ None) × (r ≡ None)
or_none None r e = (refl, e)
or_none (Some i) r e = none_some e refl

module _ (P : ℕ → PlaceRecord) where
  pub places_fault-step : (t n p sum : ℕ) → p < n
      → places_fault P t (n - p) p sum
      ≡ when (place_right p sum (P p) (P (P p).fallback)) (places_fault P t (n - (p + 1)) (p + 1) (sum + (P p).count)) (Some p)
  unfolding places_fault
  places_fault-step t n p sum h = let e : n - p ≡ suc (n - (p + 1)) = omega arith in rw e

  pub places_fault_end : (t n p sum : ℕ) → n ≤ p → places_fault P t (n - p) p sum ≡ when (eqb sum t) None (Some p)
  unfolding places_fault
  places_fault_end t n p sum h = let z : n - p ≡ 0 = omega arith in rw z

  pub places-passed : (t left p sum : ℕ) → places_fault P t (suc left) p sum ≡ None
      → (place_right p sum (P p) (P (P p).fallback) ≡ true) × (places_fault P t left (p + 1) (sum + (P p).count) ≡ None)
  unfolding places_fault
  places-passed t left p sum e = passed _ p _ e

  -- the edges of the places passed are no more than the t
  pub places_sum : (t left p sum : ℕ) → places_fault P t left p sum ≡ None → sum ≤ t
  unfolding places_fault
  places_sum t zero p sum e = let s = eqb-true sum t (passed (eqb sum t) p None e).0 in omega arith
  places_sum t (suc left) p sum e =
      let i = places_sum t left (p + 1) (sum + (P p).count) (places-passed t left p sum e).1 in
      omega arith

  pub places_room : (t n p sum : ℕ) → p < n → places_fault P t (n - p) p sum ≡ None
      → (places_fault P t (n - (p + 1)) (p + 1) (sum + (P p).count) ≡ None) × (sum + (P p).count ≤ t)
  places_room t n p sum h e =
      let l : n - p ≡ suc (n - (p + 1)) = omega arith in
      let s = (places-passed t (n - (p + 1)) p sum (rw l at e)).1 in
      (s, places_sum t (n - (p + 1)) (p + 1) (sum + (P p).count) s)

  module _ (E : ℕ → EdgeRecord) where
    pub events_fault-step : (q level n j floor : ℕ) → j < n
        → events_fault P E q level (n - j) j floor
        ≡ when (edge_right q level floor (E j) (P (E j).target).level)
        (events_fault P E q level (n - (j + 1)) (j + 1) ((E j).event + 1)) (Some j)
    unfolding events_fault
    events_fault-step q level n j floor h = let e : n - j ≡ suc (n - (j + 1)) = omega arith in rw e

    pub events_fault_end : (q level n j floor : ℕ) → n ≤ j → events_fault P E q level (n - j) j floor ≡ None
    unfolding events_fault
    events_fault_end q level n j floor h = let z : n - j ≡ 0 = omega arith in rw z

    pub edges_fault-step : (q n p j : ℕ) → p < n
        → edges_fault P E q (n - p) p j
        ≡ or_else (events_fault P E q (P p).level (P p).count j 0) (edges_fault P E q (n - (p + 1)) (p + 1) (j + (P p).count))
    unfolding edges_fault
    edges_fault-step q n p j h = let e : n - p ≡ suc (n - (p + 1)) = omega arith in rw e

    pub edges_fault_end : (q n p j : ℕ) → n ≤ p → edges_fault P E q (n - p) p j ≡ None
    unfolding edges_fault
    edges_fault_end q n p j h = let z : n - p ≡ 0 = omega arith in rw z
