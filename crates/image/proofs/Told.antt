-- The numbers of an answer keep its cases apart: where they are equal, so are the answers. So a contract that
-- equates the numbers with a definition leaves no second outcome.
-- Assumes nothing.
use mathlib.Core.Path.{◌≡◌, refl}
use Prim.Native.Nat.{ℕ}
use native.Mathlib.Omega.{arith}
use Rattle.std.specs.Prelude.{Option, None, Some}
use Rattle.meaning.specs.Answer.{accepted, refused}
use Rattle.meaning.proofs.Refused.{Apart, told_apart, refused_accepted}
use Rattle.image.specs.Calls.{edge_told}
use Rattle.image.specs.Answers.{told_checked, told_asked, told_edged, told_walked, ran_told, told_ran}
use Rattle.image.specs.declared.Counts.{Counts}
use Rattle.image.specs.declared.Walk.{Walk}

counts_apart : Apart (λ (c : Counts). accepted c.places c.edges 0 0)
counts_apart x y e =
    let f : x.places ≡ y.places = cc in
    let g : x.edges ≡ y.edges = cc in
    λ i. record { places = f i; edges = g i }

pub checked_apart : Apart told_checked
checked_apart = told_apart _ counts_apart (λ x n p e. refused_accepted e)

number_apart : Apart (λ x. accepted x 0 0 0)
number_apart x y e = cc

pub asked_apart : Apart told_asked
asked_apart = told_apart _ number_apart (λ x n p e. refused_accepted e)

edge_apart : Apart edge_told
edge_apart None None e = refl
edge_apart None (Some y) e = let z : ◌≡◌ {A = ℕ} 0 1 = cc in absurd (let w : ⊥ = omega arith in w)
edge_apart (Some x) None e = let z : ◌≡◌ {A = ℕ} 0 1 = cc in absurd (let w : ⊥ = omega arith in w)
edge_apart (Some x) (Some y) e = cc

edge_accepted : (o : Option ℕ) (n p : ℕ) → refused n p ≡ edge_told o → ⊥
edge_accepted None n p e = refused_accepted e
edge_accepted (Some j) n p e = refused_accepted e

pub edged_apart : Apart told_edged
edged_apart = told_apart edge_told edge_apart edge_accepted

walk_apart : Apart (λ (w : Walk). accepted w.place w.level w.steps 0)
walk_apart x y e =
    let f : x.place ≡ y.place = cc in
    let g : x.level ≡ y.level = cc in
    let h : x.steps ≡ y.steps = cc in
    λ i. record { place = f i; level = g i; steps = h i }

pub walked_apart : Apart told_walked
walked_apart = told_apart _ walk_apart (λ x n p e. refused_accepted e)

did_apart : Apart ran_told
did_apart x y e =
    let f : x.taken ≡ y.taken = cc in
    let g : x.place ≡ y.place = cc in
    let h : x.records ≡ y.records = cc in
    let k : x.steps ≡ y.steps = cc in
    λ i. record { taken = f i; place = g i; records = h i; steps = k i }

pub ran_apart : Apart told_ran
ran_apart = told_apart ran_told did_apart (λ x n p e. refused_accepted e)
