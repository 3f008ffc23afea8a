-- Two images that give the same answers to every question below their place count walk and run alike: `next_alike`,
-- `walk_alike`, `records_alike`, `run_alike`; and where their heads are the same too, their places name the same chains:
-- `named_alike`. Assumes nothing.
use mathlib.Core.Path.{◌≡◌, refl, ap}
use Rattle.std.specs.Prelude.{Option, None, Some}
use mathlib.Core.List.{List, [], ◌∷◌}
use Prim.Native.Nat.{ℕ, zero, suc, ◌-◌, ◌<◌}
use native.Mathlib.Omega.{arith}
use lib.ListN.{length}
use borrow.Author.Tests.{eq-eqb, ne_eqb}
use Rattle.meaning.specs.Text.{Text}
use Rattle.meaning.specs.Questions.{Image, edge_of, Levels, named_within}
use Rattle.meaning.specs.Walk.{next_within, next, walk}
use Rattle.meaning.specs.Records.{records_within, records_at, run}
use Rattle.meaning.proofs.Cases.{by_eq}
use Rattle.meaning.proofs.Walk.{next-below}

pub record Alike (M N : Image) : Type 0 where
  pub count : M.count ≡ N.count
  pub fallback : (p : ℕ) → p < N.count → M.fallback p ≡ N.fallback p
  pub level : (p : ℕ) → p < N.count → M.level p ≡ N.level p
  pub mark : (p : ℕ) → p < N.count → M.mark p ≡ N.mark p
  pub find : (p a : ℕ) → p < N.count → M.find p a ≡ N.find p a
  pub target : (p a j : ℕ) → p < N.count → N.find p a ≡ Some j → M.target j ≡ N.target j

module _ {M N : Image} (A : Alike M N) (G : Levels N) where
  pub edge_alike : (p a : ℕ) → p < N.count → edge_of M p a ≡ edge_of N p a
  edge_alike p a b = go (N.find p a) refl
    where
      go : (o : Option ℕ) → N.find p a ≡ o → edge_of M p a ≡ edge_of N p a
      go None e = rw (A.find p a b, e)
      go (Some j) e = rw (A.find p a b, e) (ap {B = Option ℕ} Some (A.target p a j b e))

  within_alike : (f p a : ℕ) → p < N.count → next_within f M p a ≡ next_within f N p a
  within_alike zero p a b = rw (edge_alike p a b)
  within_alike (suc f) p a b =
      by_eq p 0 (λ z. rw (edge_alike p a b, eq-eqb p 0 z))
      (λ nz.
      let d = G.lower p b nz in
      rw (edge_alike p a b, ne_eqb p 0 nz, A.fallback p b, within_alike f (N.fallback p) a (omega arith)))

  pub next_alike : (p a : ℕ) → p < N.count → next M p a ≡ next N p a
  unfolding next
  next_alike p a b = within_alike p p a b

  pub walk_alike : (p : ℕ) (t : Text) → p < N.count → walk M p t ≡ walk N p t
  walk_alike p [] b = refl
  walk_alike p (a ∷ t) b =
      let s = next_alike p a b in
      let i = walk_alike (next N p a).place t (next-below N G p a b) in
      rw (s, i)

  records_within_lem : (f e p : ℕ) → p < N.count → records_within f M e p ≡ records_within f N e p
  unfolding records_within
  records_within_lem zero e p b = refl
  records_within_lem (suc f) e p b =
      by_eq p 0 (λ z. rw (eq-eqb p 0 z))
      (λ nz.
      let d = G.lower p b nz in
      rw (ne_eqb p 0 nz, A.level p b, A.mark p b, A.fallback p b, records_within_lem f e (N.fallback p) (omega arith)))

  pub records_alike : (e p : ℕ) → p < N.count → records_at M e p ≡ records_at N e p
  unfolding records_at
  records_alike e p b = records_within_lem p e p b

  pub run_alike : (room e p : ℕ) (log : List ℕ) → p < N.count → run M room e p log ≡ run N room e p log
  unfolding run
  run_alike room e p [] b = refl
  run_alike room e p (a ∷ log) b =
      let q = (next N p a).place in
      let below = next-below N G p a b in
      let rs = records_at N (suc e) q in
      rw (next_alike p a b, records_alike (suc e) q below, run_alike (room - length rs) (suc e) q log below)

  pub named_alike : (heads heads' : ℕ → ℕ) → ((p : ℕ) → p < N.count → heads p ≡ heads' p) → (f p : ℕ) → p < N.count
      → named_within f heads M p ≡ named_within f heads' N p
  named_alike heads heads' hs zero p b = refl
  named_alike heads heads' hs (suc f) p b =
      by_eq p 0 (λ z. rw (eq-eqb p 0 z))
      (λ nz.
      let d = G.lower p b nz in
      let i = named_alike heads heads' hs f (N.fallback p) (omega arith) in
      rw (ne_eqb p 0 nz, hs p b, A.level p b, A.fallback p b, i))
