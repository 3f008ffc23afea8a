-- The tables of a run: one more entry.
--   Filling, root_start, root_turn, root_done  place 0's table, from its last edge to its first
--   led_step            where an event leads, with one edge more in front
-- Assumes nothing.
use mathlib.Core.Path.{◌≡◌, refl, sym, ap, ◌∙◌}
use mathlib.Core.Bool.{Bool, true, false}
use Rattle.std.specs.Prelude.{Option, None, Some}
use mathlib.Core.List.{List}
use Prim.Native.Nat.{ℕ, ◌+◌, ◌-◌, ◌≤◌, ◌<◌}
use native.Mathlib.Omega.{arith}
use lib.ListN.{length, get_or, set, replicate, get_or-replicate, length-set}
use lib.Seq.{get_or-set_same, get_or-set_other}
use lib.Dec.{eqb}
use borrow.Author.Tests.{eq-eqb, ne_eqb}
use Rattle.meaning.specs.Choice.{when, then}
use Rattle.meaning.specs.Walk.{stand, take-edge}
use Rattle.meaning.proofs.Cases.{by_eq}
use Rattle.meaning.proofs.Walk.{next-zero}
use Rattle.image.specs.Form.{EdgeRecord, form1, edge_at, place_at}
use Rattle.image.specs.Questions.{seek, questions_at}
use Rattle.image.specs.Held.{IsRoot}
use Rattle.image.specs.Steps.{led_by}
use Rattle.image.proofs.Seek.{seek-step, seek_end}

-- the table of n edges from j on
abbrev pub RootFrom : (ℕ → EdgeRecord) → ℕ → ℕ → List ℕ → Type 0
RootFrom E n j root = (a : ℕ) → a < 256 → get_or root a 0 ≡ led_by E (seek E a n j) 0

-- the edges from j on up to end are in the table
pub record Filling (E : ℕ → EdgeRecord) (first end j : ℕ) (root : List ℕ) : Type 0 where
  pub kept : length root ≡ 256
  pub from : first ≤ j
  pub to : j ≤ end
  pub table : RootFrom E (end - j) j root

module _ (E : ℕ → EdgeRecord) where
  pub root_start : (first n j : ℕ) (root : List ℕ) → j ≡ first + n → root ≡ replicate 256 0
      → Filling E first (first + n) j root
  root_start first n j root h e =
      let z : first + n - j ≡ 0 = omega arith in
      record {
        kept = ap (λ (r : List ℕ). length r) e;
        from = omega arith;
        to = omega arith;
        table = λ a b. rw (e, seek_end E a (first + n - j) j z) (get_or-replicate 256 a 0 0 b);
      }

  led_when : (b : Bool) (j r : ℕ) (o : Option ℕ) → led_by E (when b (Some j) o) r ≡ when b (E j).target (led_by E o r)
  led_when true j r o = refl
  led_when false j r o = refl

  -- one edge more in front
  pub led_step : (a n j w g r : ℕ) → w ≡ (E j).event → g ≡ (E j).target
      → led_by E (seek E a (n + 1) j) r ≡ when (eqb w a) g (led_by E (seek E a n (j + 1)) r)
  led_step a n j w g r ew eg =
      let e : n + 1 - 1 ≡ n = omega arith in
      rw (seek-step E a (n + 1) j (omega arith), e, ew, eg) (led_when (eqb (E j).event a) j r (seek E a n (j + 1)))

  root_put : (n j w r : ℕ) (root : List ℕ) → length root ≡ 256 → w < 256 → w ≡ (E j).event → r ≡ (E j).target
      → RootFrom E n (j + 1) root → RootFrom E (n + 1) j (set root w r)
  root_put n j w r root len small ew er old a b =
      let step = led_step a n j w r 0 ew er in
      by_eq w a
      (λ z. rw (step, eq-eqb w a z, ← z) (get_or-set_same root w r 0 (omega arith)))
      (λ nz. rw (step, ne_eqb w a nz) (get_or-set_other root w a r 0 (λ y. nz (sym y)) ∙ old a b))

  pub root_turn : (first end j w r : ℕ) (root : List ℕ) → Filling E first end j root → first < j → w < 256
      → w ≡ (E (j - 1)).event → r ≡ (E (j - 1)).target → Filling E first end (j - 1) (set root w r)
  root_turn first end j w r root R l small ew er =
      let u = R.to in
      let e : end - (j - 1) ≡ end - j + 1 = omega arith in
      let h : j - 1 + 1 ≡ j = omega arith in
      let old : RootFrom E (end - j) (j - 1 + 1) root = rw h R.table in
      record {
        kept = length-set root w r ∙ R.kept;
        from = omega arith;
        to = omega arith;
        table = rw e (root_put (end - j) (j - 1) w r root R.kept small ew er old);
      }

root_place : (E : ℕ → EdgeRecord) (o : Option ℕ)
    → led_by E o 0 ≡ (take-edge (then o (λ j. Some (E j).target)) (stand 0 0)).place
root_place E None = refl
root_place E (Some j) = refl

pub root_done : (xs : List ℕ) (q first n j : ℕ) (root : List ℕ) → n ≡ (place_at form1 xs 0).count
    → first ≡ (place_at form1 xs 0).first → Filling (edge_at form1 xs q) first (first + n) j root → j ≤ first
    → IsRoot (questions_at form1 xs q) root
root_done xs q first n j root en ej R l a b =
    let M = questions_at form1 xs q in
    let E = edge_at form1 xs q in
    let u = R.from in
    let e : first + n - j ≡ (place_at form1 xs 0).count = omega arith in
    let h : j ≡ (place_at form1 xs 0).first = omega arith in
    let f : get_or root a 0 ≡ led_by E (M.find 0 a) 0 = rw (← e, ← h) (R.table a b) in
    rw (next-zero M a) (f ∙ root_place E (M.find 0 a))
