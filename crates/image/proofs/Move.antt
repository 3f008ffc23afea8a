-- One event over an accepted image, on plain values.
--   found_below         an edge that is found is one of the edges
--   found_or            the number of an edge, or one that stands for none, says which is found
--   Moving              the invariant: the walk from place p with n failure steps behind it
--   idle_next           an event that stays at place 0
--   move_fail, move_edge, move_root  the turns of the loop, and its ends
-- Assumes nothing.
use mathlib.Core.Path.{◌≡◌, refl, sym, ap, ◌∙◌}
use mathlib.Core.Logic.{◌≢◌}
use Rattle.std.specs.Prelude.{Option, None, Some, unwrap_or}
use mathlib.Core.List.{List}
use Prim.Native.Nat.{ℕ, suc, ◌+◌, ◌≤◌, ◌<◌}
use native.Mathlib.Omega.{arith}
use lib.ListN.{get_or}
use Rattle.meaning.specs.Choice.{then}
use Rattle.meaning.specs.Questions.{Image, edge_of}
use Rattle.meaning.specs.Walk.{Stand, next}
use Rattle.meaning.proofs.Walk.{next_edge, next_fail, next-below, next_failed}
use Rattle.image.specs.Form.{form1, edge_at}
use Rattle.image.specs.Questions.{questions_at}
use Rattle.image.specs.Held.{IsRoot, Idle, MovedIs}
use Rattle.image.proofs.Seek.{seek_found}
use Rattle.image.proofs.Accepted.{Facts, levels}

module _ (xs : List ℕ) (q : ℕ) where
  abbrev M : Image
  M = questions_at form1 xs q

  -- the walk from p₀ is that from p, with n failure steps behind it
  pub record Moving (p₀ a p n : ℕ) : Type 0 where
    pub below : p < q
    pub few : n + p ≤ p₀
    pub place : (next M p₀ a).place ≡ (next M p a).place
    pub steps : (next M p₀ a).failed ≡ n + (next M p a).failed

-- an Option of numbers below n, with n for none
or_is : (o : Option ℕ) (n j : ℕ) → ((i : ℕ) → o ≡ Some i → i < n) → j ≡ unwrap_or o n
    → (j ≢ n → o ≡ Some j) × (j ≡ n → o ≡ None)
or_is None n j h e = (λ g. absurd (g e), λ g. refl)
or_is (Some i) n j h e =
    let k = h i refl in
    (λ g. ap (λ (x : ℕ). Some x) (sym e), λ g. absurd (let w : ⊥ = omega arith in w))

module _ (xs : List ℕ) (q t : ℕ) (F : Facts xs q t) where
  abbrev N : Image
  N = questions_at form1 xs q

  pub found_below : (p a j : ℕ) → p < q → N.find p a ≡ Some j → j < t
  found_below p a j b e =
      let l = (seek_found (edge_at form1 xs q) a _ _ j e).1 in
      let i = F.inside p b in
      omega arith

  -- the number that the run has for none is no edge's
  pub found_or : (p a : ℕ) (o : Option ℕ) (j : ℕ) → p < q → o ≡ N.find p a → j ≡ unwrap_or o 4294967295
      → (j ≢ 4294967295 → N.find p a ≡ Some j) × (j ≡ 4294967295 → N.find p a ≡ None)
  found_or p a o j b s e =
      let few = F.few_edges in
      or_is (N.find p a) 4294967295 j (λ i f. let l = found_below p a i b f in omega arith)
      (e ∙ ap (λ (x : Option ℕ). unwrap_or x 4294967295) s)

  -- no edge: on to the fallback, with one failure step more
  pub move_fail : (p₀ a p n f : ℕ) → Moving xs q p₀ a p n → p ≢ 0 → N.find p a ≡ None → f ≡ N.fallback p
      → (f < p) × Moving xs q p₀ a f (n + 1)
  move_fail p₀ a p n f W nz e h =
      let L = levels xs q t F in
      let d = L.lower p W.below nz in
      let g : edge_of N p a ≡ None = ap (λ (o : Option ℕ). then o (λ j. Some (N.target j))) e in
      let s = next_fail N L.lower p a W.below nz g in
      let s1 : (next N p a).place ≡ (next N (N.fallback p) a).place = ap (λ (w : Stand). w.place) s in
      let s2 : (next N p a).failed ≡ suc (next N (N.fallback p) a).failed = ap (λ (w : Stand). w.failed) s in
      let b = W.below in
      let k = W.few in
      let u = W.steps in
      (omega arith, rw h (record { below = omega arith; few = omega arith; place = W.place ∙ s1; steps = omega arith }))

  -- an edge: its target
  pub move_edge : (p₀ a p n j r : ℕ) → Moving xs q p₀ a p n → N.find p a ≡ Some j → r ≡ N.target j
      → MovedIs (next N p₀ a) q p₀ (record { place = r; steps = n })
  move_edge p₀ a p n j r W e h =
      let L = levels xs q t F in
      let g : edge_of N p a ≡ Some (N.target j) = ap (λ (o : Option ℕ). then o (λ j. Some (N.target j))) e in
      let s = next_edge N p a (N.target j) g in
      let s1 : (next N p a).place ≡ N.target j = ap (λ (w : Stand). w.place) s in
      let s2 : (next N p a).failed ≡ 0 = ap (λ (w : Stand). w.failed) s in
      let b = (L.target p a (N.target j) W.below g).0 in
      let u = W.steps in
      let k = W.few in
      record { place = h ∙ sym (W.place ∙ s1); steps = omega arith; below = rw h b; few = omega arith }

  zero_failed : (a : ℕ) → (next N 0 a).failed ≡ 0
  zero_failed a =
      let l = next_failed N (levels xs q t F) 0 a F.some_place in
      let z = (levels xs q t F).zero-level in
      omega arith

  -- an event that stays at place 0
  pub idle_next : (p a : ℕ) (root : List ℕ) → a < 256 → IsRoot N root → Idle root p a
      → ((next N p a).place ≡ 0) × ((next N p a).failed ≡ 0)
  idle_next p a root small R I = rw I.here (sym (R a small) ∙ I.stays, zero_failed a)

  -- place 0: what its table has
  pub move_root : (p₀ a p n r : ℕ) (root : List ℕ) → Moving xs q p₀ a p n → p ≡ 0 → a < 256 → IsRoot N root
      → r ≡ get_or root a 0
      → MovedIs (next N p₀ a) q p₀ (record { place = r; steps = n })
  move_root p₀ a p n r root W z small R h =
      let L = levels xs q t F in
      let e : r ≡ (next N p a).place = h ∙ R a small ∙ ap (λ (k : ℕ). (next N k a).place) (sym z) in
      let f : (next N p a).failed ≡ 0 = ap (λ (k : ℕ). (next N k a).failed) z ∙ zero_failed a in
      let b = next-below N L p a W.below in
      let u = W.steps in
      let k = W.few in
      record { place = e ∙ sym W.place; steps = omega arith; below = rw e b; few = omega arith }
