-- The links of an accepted image: each leads to the nearest marked place on the fallback chain, so that the records
-- of a place by its links are those by its fallbacks.
--   nearest, accepted_links  the nearest marked place on the fallbacks; a link is that
--   link_low, next_low  a link is not above its place; the next link after a place that reports is below it
--   link_marked         the place a link leads to is marked
--   link_records        the records of a place are those of its link
--   linked_records      the records of a linked place: its own, then those of the next link
--   link_count, linked_count  how many there are
--   records_count       the same, whatever the end
-- Assumes nothing.
use mathlib.Core.Path.{◌≡◌, refl, sym, ap, ◌∙◌}
use mathlib.Core.Logic.{◌≢◌}
use mathlib.Core.List.{List, ◌∷◌}
use Prim.Native.Nat.{ℕ, zero, suc, ◌≤◌, ◌<◌}
use native.Mathlib.Omega.{arith}
use lib.ListN.{length}
use lib.Dec.{eqb}
use borrow.Author.Tests.{eq-eqb, ne_eqb}
use Rattle.meaning.specs.Choice.{when}
use Rattle.meaning.specs.Questions.{Image}
use Rattle.meaning.specs.Records.{Record, recorded, shown, records_within, records_at}
use Rattle.meaning.proofs.Cases.{by_bool, by_eq}
use Rattle.meaning.proofs.Walk.{Lower}
use Rattle.meaning.proofs.Records.{records_step}
use Rattle.image.specs.Form.{form1, place_at}
use Rattle.image.specs.Questions.{questions_at}
use Rattle.image.specs.Held.{reports}
use Rattle.image.proofs.Accepted.{Facts}

-- the nearest marked place on the fallbacks, a place itself first, with at most f of them; 0 where there is none
unfoldable pub nearest_within : ℕ → Image → ℕ → ℕ
nearest_within zero M p = 0
nearest_within (suc f) M p = when (eqb p 0) 0 (when (eqb (M.mark p) 0) (nearest_within f M (M.fallback p)) p)

abbrev pub nearest : Image → ℕ → ℕ
nearest M p = nearest_within p M p

module _ (M : Image) where
  within_count : (f d e p : ℕ) → length (records_within f M e p) ≡ length (records_within f M d p)
  unfolding records_within
  within_count zero d e p = refl
  within_count (suc f) d e p =
      by_bool (eqb p 0) (λ z. rw z)
      (λ nz.
      let i = within_count f d e (M.fallback p) in
      by_bool (eqb (M.mark p) 0) (λ z. rw (nz, z) i) (λ mz. rw (nz, mz) (ap {B = ℕ} suc i)))

  pub records_count : (d e p : ℕ) → length (records_at M e p) ≡ length (records_at M d p)
  unfolding records_at
  records_count d e p = within_count p d e p

module _ (xs : List ℕ) (q t : ℕ) (F : Facts xs q t) where
  abbrev M : Image
  M = questions_at form1 xs q

  abbrev pub link : ℕ → ℕ
  link p = (place_at form1 xs p).link

  -- the next place that reports, after one that does
  abbrev pub next_link : ℕ → ℕ
  next_link l = link (M.fallback l)

  low : Lower M
  low p b nz = ((F.place p b).other nz).fallback

  pub link_zero : (p : ℕ) → p < q → p ≡ 0 → link p ≡ 0
  link_zero p b z = ((F.place p b).start z).link

  -- a marked place links to itself, any other where its fallback does
  pub link_own : (p : ℕ) → p < q → p ≢ 0 → M.mark p ≢ 0 → link p ≡ p
  link_own p b nz mz = ((F.place p b).other nz).link ∙ rw (ne_eqb _ 0 mz)

  pub link_on : (p : ℕ) → p < q → p ≢ 0 → M.mark p ≡ 0 → link p ≡ next_link p
  link_on p b nz m = ((F.place p b).other nz).link ∙ rw (eq-eqb _ 0 m)

  -- what holds of place 0, of a marked place, and of a place where it holds of its fallback, holds of every place
  by_link : (P : ℕ → Type 0) → ((p : ℕ) → p < q → p ≡ 0 → P p) → ((p : ℕ) → p < q → p ≢ 0 → M.mark p ≢ 0 → P p)
      → ((p : ℕ) → p < q → p ≢ 0 → M.mark p ≡ 0 → P (M.fallback p) → P p) → (f p : ℕ) → p ≤ f → p < q → P p
  by_link P at_zero own on zero p l b = at_zero p b (omega arith)
  by_link P at_zero own on (suc f) p l b =
      by_eq p 0 (λ z. at_zero p b z)
      (λ nz.
      let d = low p b nz in
      by_eq (M.mark p) 0 (λ m. on p b nz m (by_link P at_zero own on f (M.fallback p) (omega arith) (omega arith)))
      (λ mz. own p b nz mz))

  pub link_low : (p : ℕ) → p < q → link p ≤ p
  link_low p b =
      by_link (λ p. link p ≤ p) (λ p b z. let e = link_zero p b z in omega arith)
      (λ p b nz mz. let e = link_own p b nz mz in omega arith)
      (λ p b nz m i. let e = link_on p b nz m in let d = low p b nz in omega arith) p p (omega arith) b

  pub next_low : (l : ℕ) → l < q → l ≢ 0 → next_link l < l
  next_low l b nz = let d = low l b nz in let i = link_low (M.fallback l) (omega arith) in omega arith

  pub link_marked : (p : ℕ) → p < q → link p ≢ 0 → M.mark (link p) ≢ 0
  link_marked p b =
      by_link (λ p. link p ≢ 0 → M.mark (link p) ≢ 0) (λ p b z n. absurd (n (link_zero p b z)))
      (λ p b nz mz n. rw (link_own p b nz mz) mz)
      (λ p b nz m i n. let e = link_on p b nz m in rw e (i (λ y. n (e ∙ y)))) p p (omega arith) b

  -- the records of a place are those of its link
  pub link_records : (e p : ℕ) → p < q → records_at M e p ≡ records_at M e (link p)
  link_records e p b =
      by_link (λ p. records_at M e p ≡ records_at M e (link p))
      (λ p b z. ap (λ (n : ℕ). records_at M e n) (z ∙ sym (link_zero p b z)))
      (λ p b nz mz. ap (λ (n : ℕ). records_at M e n) (sym (link_own p b nz mz)))
      (λ p b nz m i. quiet p b nz m ∙ i ∙ ap (λ (n : ℕ). records_at M e n) (sym (link_on p b nz m))) p p (omega arith) b
    where
      quiet : (p : ℕ) → p < q → p ≢ 0 → M.mark p ≡ 0 → records_at M e p ≡ records_at M e (M.fallback p)
      quiet p b nz m = records_step M e low p b nz ∙ rw (eq-eqb (M.mark p) 0 m)

  -- those of a place that reports: its own record, then those of the next link
  pub linked_records : (e l : ℕ) → l < q → l ≢ 0 → M.mark l ≢ 0
      → records_at M e l ≡ recorded e (shown (M.level l)) (M.mark l) ∷ records_at M e (next_link l)
  linked_records e l b nz mz =
      let d = low l b nz in
      let r = recorded e (shown (M.level l)) (M.mark l) in
      let own : records_at M e l ≡ r ∷ records_at M e (M.fallback l) =
      records_step M e low l b nz ∙ rw (ne_eqb (M.mark l) 0 mz) in
      own ∙ ap (λ (rs : List Record). r ∷ rs) (link_records e (M.fallback l) (omega arith))

  -- ---- how many there are
  pub link_count : (p : ℕ) → p < q → reports M p ≡ reports M (link p)
  link_count p b = ap {B = ℕ} length (link_records 0 p b)

  pub linked_count : (l : ℕ) → l < q → l ≢ 0 → M.mark l ≢ 0 → reports M l ≡ suc (reports M (next_link l))
  linked_count l b nz mz = ap {B = ℕ} length (linked_records 0 l b nz mz)

  pub next-marked : (l : ℕ) → l < q → l ≢ 0 → next_link l ≢ 0 → M.mark (next_link l) ≢ 0
  next-marked l b nz = let d = low l b nz in link_marked (M.fallback l) (omega arith)

  -- A LINK LEADS TO THE NEAREST MARKED PLACE
  near : (f p : ℕ) → p ≤ f → p < q → link p ≡ nearest_within f M p
  unfolding nearest_within
  near zero p l b = link_zero p b (omega arith)
  near (suc f) p l b =
      by_eq p 0 (λ z. rw (eq-eqb p 0 z) (link_zero p b z))
      (λ nz.
      let d = low p b nz in
      by_eq (M.mark p) 0
      (λ m. rw (ne_eqb p 0 nz, eq-eqb (M.mark p) 0 m)
      (link_on p b nz m ∙ near f (M.fallback p) (omega arith) (omega arith)))
      (λ mz. rw (ne_eqb p 0 nz, ne_eqb (M.mark p) 0 mz) (link_own p b nz mz)))

  pub accepted_links : (p : ℕ) → p < q → link p ≡ nearest M p
  accepted_links p b = near p p (omega arith) b
