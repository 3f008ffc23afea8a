-- The walk over every image. Step laws without fuel: next_edge, next_stay, next-zero, next-step, next_fail. Where
-- levels are right, for an image accepted by a check or made by a compile: next-below, next_level, next_failed,
-- walk-below, and walk-level, failure steps and the final level are at most the starting level and the events;
-- walk_less, walk_fewer: with one event or more at most one step fewer. walk-append: in parts. Assumes nothing.
use mathlib.Core.Path.{◌≡◌, refl, sym, ap, ◌∙◌, subst}
use mathlib.Core.Logic.{◌≢◌}
use Rattle.std.specs.Prelude.{Option, None, Some}
use mathlib.Core.List.{[], ◌∷◌, ◌++◌}
use Prim.Native.Nat.{ℕ, zero, suc, ◌+◌, ◌≤◌, ◌<◌}
use native.Mathlib.Omega.{arith}
use native.Mathlib.Nat.{zero-add}
use lib.ListN.{length}
use lib.Dec.{eqb}
use borrow.Author.Tests.{eq-eqb, ne_eqb}
use Rattle.meaning.specs.Choice.{when}
use Rattle.meaning.specs.Text.{Text}
use Rattle.meaning.specs.Questions.{Image, edge_of, Levels}
use Rattle.meaning.specs.Walk.{Stand, stand, take-edge, failing, next_within, next, walk}
use Rattle.meaning.proofs.Cases.{by_option, by_eq}

-- every fallback is lower: what makes the walk end
abbrev pub Lower : Image → Type 0
Lower M = (p : ℕ) → p < M.count → p ≢ 0 → M.fallback p < p

module _ (M : Image) where
  -- at place 0 nothing is left to do without an edge
  within-zero : (f p a : ℕ) → p ≡ 0 → next_within f M p a ≡ take-edge (edge_of M p a) (stand 0 0)
  within-zero zero p a z = refl
  within-zero (suc f) p a z = rw (eq-eqb p 0 z)

  within-suc : (f p a : ℕ) → p ≢ 0
      → next_within (suc f) M p a ≡ take-edge (edge_of M p a) (failing (next_within f M (M.fallback p) a))
  within-suc f p a nz = rw (ne_eqb p 0 nz)

  within-edge : (f p a q : ℕ) → edge_of M p a ≡ Some q → next_within f M p a ≡ stand q 0
  within-edge zero p a q e = ap (λ (o : Option ℕ). take-edge o (stand 0 0)) e
  within-edge (suc f) p a q e =
      ap (λ (o : Option ℕ). take-edge o (when (eqb p 0) (stand 0 0) (failing (next_within f M (M.fallback p) a)))) e

  -- the fuel does not matter, once it is the place's number or more
  pub within-fuel : Lower M → (f g p a : ℕ) → p ≤ f → p ≤ g → p < M.count → next_within f M p a ≡ next_within g M p a
  within-fuel low zero g p a l k b = let z : p ≡ 0 = omega arith in sym (within-zero g p a z)
  within-fuel low (suc f) zero p a l k b = let z : p ≡ 0 = omega arith in within-zero (suc f) p a z
  within-fuel low (suc f) (suc g) p a l k b =
      by_eq p 0 (λ z. within-zero (suc f) p a z ∙ sym (within-zero (suc g) p a z))
      (λ nz.
      let d = low p b nz in
      let i = within-fuel low f g (M.fallback p) a (omega arith) (omega arith) (omega arith) in
      within-suc f p a nz ∙ ap (λ (s : Stand). take-edge (edge_of M p a) (failing s)) i ∙ sym (within-suc g p a nz))

  pub next_edge : (p a q : ℕ) → edge_of M p a ≡ Some q → next M p a ≡ stand q 0
  unfolding next
  next_edge p a q e = within-edge p p a q e

  pub next-zero : (a : ℕ) → next M 0 a ≡ take-edge (edge_of M 0 a) (stand 0 0)
  unfolding next
  next-zero a = refl

  pub next_stay : (a : ℕ) → edge_of M 0 a ≡ None → next M 0 a ≡ stand 0 0
  next_stay a e = next-zero a ∙ ap (λ (o : Option ℕ). take-edge o (stand 0 0)) e

  -- elsewhere: the edge, or the fallback's way with one failure step more
  pub next-step : Lower M → (p a : ℕ) → p < M.count → p ≢ 0
      → next M p a ≡ take-edge (edge_of M p a) (failing (next M (M.fallback p) a))
  unfolding next
  next-step low zero a b nz = absurd (nz refl)
  next-step low (suc n) a b nz =
      let d = low (suc n) b nz in
      let q = M.fallback (suc n) in
      within-suc n (suc n) a nz
      ∙ ap (λ (s : Stand). take-edge (edge_of M (suc n) a) (failing s))
      (within-fuel low n q q a (omega arith) (omega arith) (omega arith))

  pub next_fail : Lower M → (p a : ℕ) → p < M.count → p ≢ 0 → edge_of M p a ≡ None
      → next M p a ≡ failing (next M (M.fallback p) a)
  next_fail low p a b nz e =
      next-step low p a b nz ∙ ap (λ (o : Option ℕ). take-edge o (failing (next M (M.fallback p) a))) e

module _ (M : Image) (A : Levels M) where
  -- of one event's outcome: a place of the image; failure steps and level; failure steps alone
  abbrev Kept : ℕ → Stand → Type 0
  Kept p s = (s.place < M.count) × (s.failed + M.level s.place ≤ suc (M.level p)) × (s.failed ≤ M.level p)

  kept_edge : (p a : ℕ) (s : Stand) → p < M.count → Kept p s → Kept p (take-edge (edge_of M p a) s)
  kept_edge p a s b k =
      by_option (edge_of M p a) (λ e. subst (λ (o : Option ℕ). Kept p (take-edge o s)) (sym e) k)
      (λ q e.
      let t = A.target p a q b e in
      subst (λ (o : Option ℕ). Kept p (take-edge o s)) (sym e) (t.0, omega arith, omega arith))

  kept_within : (f p a : ℕ) → p ≤ f → p < M.count → Kept p (next_within f M p a)
  kept_within zero p a l b =
      let s = A.some_place in
      let z = A.zero-level in
      kept_edge p a (stand 0 0) b (s, omega arith, omega arith)
  kept_within (suc f) p a l b =
      let s = A.some_place in
      let z = A.zero-level in
      by_eq p 0
      (λ y. subst (λ (r : Stand). Kept p r) (sym (within-zero M (suc f) p a y))
      (kept_edge p a (stand 0 0) b (s, omega arith, omega arith)))
      (λ nz.
      let d = A.lower p b nz in
      let u = A.above p b nz in
      let i = kept_within f (M.fallback p) a (omega arith) (omega arith) in
      let i1 = i.1 in
      let i2 = i.2 in
      subst (λ (r : Stand). Kept p r) (sym (within-suc M f p a nz))
      (kept_edge p a (failing (next_within f M (M.fallback p) a)) b (i.0, omega arith, omega arith)))

  next_kept : (p a : ℕ) → p < M.count → Kept p (next M p a)
  unfolding next
  next_kept p a b = kept_within p p a (omega arith) b

  pub next-below : (p a : ℕ) → p < M.count → (next M p a).place < M.count
  next-below p a b = (next_kept p a b).0

  pub next_level : (p a : ℕ) → p < M.count → (next M p a).failed + M.level (next M p a).place ≤ suc (M.level p)
  next_level p a b = (next_kept p a b).1

  pub next_failed : (p a : ℕ) → p < M.count → (next M p a).failed ≤ M.level p
  next_failed p a b = (next_kept p a b).2

  pub walk-below : (p : ℕ) (t : Text) → p < M.count → (walk M p t).place < M.count
  walk-below p [] b = b
  walk-below p (a ∷ t) b = walk-below (next M p a).place t (next-below p a b)

  -- THE LAW OF STEPS: failure steps and the final level are at most the starting level and the events
  pub walk-level : (p : ℕ) (t : Text) → p < M.count
      → (walk M p t).failed + M.level (walk M p t).place ≤ M.level p + length t
  walk-level p [] b = omega arith
  walk-level p (a ∷ t) b =
      let j = next_level p a b in
      let i = walk-level (next M p a).place t (next-below p a b) in
      omega arith

  -- with one event or more, failure steps alone are fewer than that
  pub walk_less : (p a : ℕ) (t : Text) → p < M.count → (walk M p (a ∷ t)).failed < M.level p + length (a ∷ t)
  walk_less p a [] b = let j = next_failed p a b in omega arith
  walk_less p a (c ∷ t) b =
      let j = next_level p a b in
      let i = walk_less (next M p a).place c t (next-below p a b) in
      omega arith

  -- FROM PLACE 0: at most one step fewer than the events
  pub walk_fewer : (a : ℕ) (t : Text) → (walk M 0 (a ∷ t)).failed < length (a ∷ t)
  walk_fewer a t = let i = walk_less 0 a t A.some_place in let z = A.zero-level in omega arith

module _ (M : Image) where
  -- a walk in parts is the walk of the whole
  pub walk-append : (p : ℕ) (s t : Text)
      → walk M p (s ++ t)
      ≡ (let r = walk M p s in let u = walk M r.place t in stand u.place (r.failed + u.failed))
  walk-append p [] t = ap (λ (n : ℕ). stand (walk M p t).place n) (sym (zero-add (walk M p t).failed))
  walk-append p (a ∷ s) t =
      let q = (next M p a).place in
      let n = (next M p a).failed in
      let r = walk M q s in
      let u = walk M r.place t in
      let e : n + (r.failed + u.failed) ≡ n + r.failed + u.failed = omega arith in
      ap (λ (k : Stand). stand k.place (n + k.failed)) (walk-append q s t) ∙ ap (λ (k : ℕ). stand u.place k) e
