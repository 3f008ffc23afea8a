-- What is asked of any bytes with a place count, on plain values.
--   place_refused, place_known  20 for a place not below the count; the answer for any other
--   there_not, there_is, answered  the place looked for, and a number of its record
--   sought_small        the number of an edge that is found is small
--   told-edge, told_no_edge, told-walk  an edge, none, and one event, as numbers
--   Trying              the walk of one event with so many fallbacks left to try
--   try_start, try_fail, try_edge, try_none  the turns of its loop, and its ends
-- Assumes nothing.
use mathlib.Core.Path.{◌≡◌, refl, sym, ap, ◌∙◌}
use mathlib.Core.Logic.{◌≢◌}
use Rattle.std.specs.Prelude.{Option, None, Some, Ok, Err, leb}
use Prim.Native.Nat.{ℕ, zero, suc, ◌+◌, ◌-◌, ◌≤◌, ◌<◌}
use native.Mathlib.Omega.{arith}
use borrow.Author.Tests.{le-leb, lt-leb, leb-false, eq-eqb, ne_eqb}
use Rattle.meaning.specs.Choice.{then}
use Rattle.meaning.specs.Answer.{Answer, accepted, refused, judged}
use Rattle.meaning.specs.Refusal.{refusing}
use Rattle.meaning.specs.declared.Reason.TheVariants.{Place as no_place}
use Rattle.meaning.specs.declared.Refusal.{Refusal}
use Rattle.meaning.specs.Questions.{Image, edge_of}
use Rattle.meaning.specs.Walk.{Stand, stand, failing, next_within, next}
use Rattle.meaning.proofs.Cases.{by_bool}
use Rattle.image.specs.Calls.{place_rules, edge_told, walk_told}
use Rattle.image.specs.Form.{EdgeRecord}
use Rattle.image.specs.Questions.{seek}
use Rattle.image.specs.Held.{there_in, MovedIs}
use Rattle.image.proofs.Seek.{seek_found}

pub place_refused : (q p : ℕ) (x : Answer) → q ≤ p → refused 20 0 ≡ judged (place_rules q p) x
place_refused q p x l = rw (le-leb q p l)

pub place_known : (q p : ℕ) (x : Answer) → p < q → x ≡ judged (place_rules q p) x
place_known q p x l = rw (lt-leb q p l)

-- a place looked for, and what is answered of it
module _ (q p : ℕ) where
  pub there_not : (e : Refusal) (x : Answer) → Err e ≡ there_in q p → refusing e ≡ judged (place_rules q p) x
  there_not e x h =
      by_bool (leb q p)
      (λ b.
      let g = rw b at h in
      rw b (ap refusing (let k : e ≡ record { reason = no_place; place = 0 } = cc in k)))
      (λ b. let g = rw b at h in (let z : ⊥ = cc in absurd z))

  pub there_is : (n : ℕ) → Ok n ≡ there_in q p → (n ≡ p) × (p < q)
  there_is n h =
      by_bool (leb q p)
      (λ b. let g = rw b at h in (let z : ⊥ = cc in absurd z))
      (λ b. let g = rw b at h in (let k : n ≡ p = cc in k, leb-false q p b))

  -- a number of the place's record
  pub answered : (n x : ℕ) (f : ℕ → ℕ) → Ok n ≡ there_in q p → x ≡ f n
      → accepted x 0 0 0 ≡ judged (place_rules q p) (accepted (f p) 0 0 0)
  answered n x f h e =
      let k = there_is n h in
      ap (λ (x : ℕ). accepted x 0 0 0) (e ∙ ap f k.0) ∙ place_known q p _ k.1

-- the number of an edge that a search finds is small
pub sought_small : (E : ℕ → EdgeRecord) (a n j k : ℕ) → seek E a n j ≡ Some k → j < 65536 → n < 65536 → k < 131072
sought_small E a n j k e lj ln = let l = (seek_found E a n j k e).1 in omega arith

module _ (M : Image) where
  edge_some : (p a j : ℕ) → M.find p a ≡ Some j → edge_of M p a ≡ Some (M.target j)
  edge_some p a j e = ap (λ (o : Option ℕ). then o (λ j. Some (M.target j))) e

  edge_none : (p a : ℕ) → M.find p a ≡ None → edge_of M p a ≡ None
  edge_none p a e = ap (λ (o : Option ℕ). then o (λ j. Some (M.target j))) e

  pub told-edge : (p a j r : ℕ) → M.find p a ≡ Some j → r ≡ M.target j → accepted 1 r 0 0 ≡ edge_told (edge_of M p a)
  told-edge p a j r e h = rw (h, edge_some p a j e)

  pub told_no_edge : (p a : ℕ) → M.find p a ≡ None → accepted 0 0 0 0 ≡ edge_told (edge_of M p a)
  told_no_edge p a e = rw (edge_none p a e)

  pub told-walk : (s : Stand) (m l n : ℕ) → m ≡ s.place → n ≡ s.failed → l ≡ M.level m
      → accepted m l n 0 ≡ walk_told M s
  told-walk s m l n e f g = rw (g, e, f)

  -- the walk from p₀ is that from p with so many fallbacks left, and n failure steps behind it
  pub record Trying (p₀ a p left n : ℕ) : Type 0 where
    pub tried : n + left ≡ p₀
    pub place : (next M p₀ a).place ≡ (next_within left M p a).place
    pub steps : (next M p₀ a).failed ≡ n + (next_within left M p a).failed

  pub try_start : (p a : ℕ) → Trying p a p p 0
  unfolding next
  try_start p a = record { tried = omega arith; place = refl; steps = omega arith }

  -- with an edge, however many are left
  within-edge : (left p a j : ℕ) → M.find p a ≡ Some j → next_within left M p a ≡ stand (M.target j) 0
  within-edge zero p a j e = rw (edge_some p a j e)
  within-edge (suc left) p a j e = rw (edge_some p a j e)

  within_fail : (left p a : ℕ) → M.find p a ≡ None → 0 < left → p ≢ 0
      → next_within left M p a ≡ failing (next_within (left - 1) M (M.fallback p) a)
  within_fail zero p a e l nz = absurd (let w : ⊥ = omega arith in w)
  within_fail (suc left) p a e l nz = let h : suc left - 1 ≡ left = omega arith in rw (edge_none p a e, ne_eqb p 0 nz, h)

  -- place 0, or none left
  within_none : (left p a : ℕ) → M.find p a ≡ None → (left ≢ 0 → p ≡ 0) → next_within left M p a ≡ stand 0 0
  within_none zero p a e z = rw (edge_none p a e)
  within_none (suc left) p a e z = rw (edge_none p a e, eq-eqb p 0 (z (λ y. let w : ⊥ = omega arith in w)))

  module _ (p₀ a p left n : ℕ) (R : Trying p₀ a p left n) where
    pub try_fail : (f n' : ℕ) → M.find p a ≡ None → 0 < left → p ≢ 0 → f ≡ M.fallback p → n' ≡ n + 1
        → Trying p₀ a f (left - 1) n'
    try_fail f n' e l nz h k =
        let s = within_fail left p a e l nz in
        let s1 = ap (λ (w : Stand). w.place) s in
        let s2 : (next_within left M p a).failed ≡ suc (next_within (left - 1) M (M.fallback p) a).failed =
        ap (λ (w : Stand). w.failed) s in
        let t = R.tried in
        let u = R.steps in
        rw (h, k) (record { tried = omega arith; place = R.place ∙ s1; steps = omega arith })

    ends : (r m : ℕ) → m < 65536 → next_within left M p a ≡ stand r 0 → m ≡ r
        → MovedIs (next M p₀ a) 65536 p₀ (record { place = m; steps = n })
    ends r m small s h =
        let s1 : (next_within left M p a).place ≡ r = ap (λ (w : Stand). w.place) s in
        let s2 : (next_within left M p a).failed ≡ 0 = ap (λ (w : Stand). w.failed) s in
        let t = R.tried in
        let u = R.steps in
        record { place = h ∙ sym (R.place ∙ s1); steps = omega arith; below = small; few = omega arith }

    pub try_edge : (j m : ℕ) → M.find p a ≡ Some j → m ≡ M.target j → m < 65536
        → MovedIs (next M p₀ a) 65536 p₀ (record { place = m; steps = n })
    try_edge j m e h small = ends (M.target j) m small (within-edge left p a j e) h

    pub try_none : M.find p a ≡ None → (left ≢ 0 → p ≡ 0)
        → MovedIs (next M p₀ a) 65536 p₀ (record { place = 0; steps = n })
    try_none e z = ends 0 0 (omega arith) (within_none left p a e z) refl
